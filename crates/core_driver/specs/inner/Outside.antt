-- What a core has outside itself: its ports, as they are seen, and the last stamp of its clock.
use Rattle.std.specs.Prelude.{◌≡◌, ℕ, ◌≤◌, None}
use Rattle.ac_base.specs.Stamps.{stamp_after}
use Rattle.ac_links.specs.declared.payloads.Terms.{Terms}
use Rattle.ac_links.specs.Party.{LinkEnd}
use Rattle.core_ports.specs.AtHand.{AtHand}
use Rattle.core_ports.specs.PortsTold.{PortsTold}

pub record Outside : Type 0 where
  pub terms : ℕ → Terms
  pub ends : ℕ → LinkEnd
  pub hand : ℕ → AtHand
  pub heard : ℕ → ℕ
  pub polls : ℕ → ℕ
  pub tries : ℕ → ℕ
  pub last : ℕ

abbrev pub outside : PortsTold → ℕ → Outside
outside told last =
    record {
      terms = told.terms;
      ends = told.ends;
      hand = told.at_hand;
      heard = told.heard;
      polls = told.polls;
      tries = told.tries;
      last = last;
    }

-- the same ports after some calls: where the clock has stayed no entry was made, and what is at hand is as before
pub record Later (before after : Outside) : Type 0 where
  pub terms : after.terms ≡ before.terms
  pub clock : before.last ≤ after.last
  pub ends : after.last ≡ before.last → after.ends ≡ before.ends
  pub hand : after.last ≡ before.last → after.hand ≡ before.hand
  pub polls : (l : ℕ) → before.polls l ≤ after.polls l
  pub tries : (l : ℕ) → before.tries l ≤ after.tries l

-- no stamp is left for an entry that answers what was heard on some link
abbrev pub IsFull : Outside → Type 0
IsFull o = (l : ℕ) × (stamp_after o.last (o.heard l) ≡ None)
