-- The entries that the answers of ports tell of.
use Rattle.std.specs.Prelude.{◌≡◌, ℕ, List, [], ◌∷◌, Option, Some, None, true}
use Rattle.ac_base.specs.declared.entry.Entry.{Entry}
use Rattle.ac_base.specs.declared.entry.Event.TheVariants as event
use Rattle.ac_base.specs.Stamps.{next_stamp}
use Rattle.ac_links.specs.declared.payloads.Terms.{Terms}
use Rattle.ac_links.specs.Link.{link_of}
use Rattle.ac_links.specs.Party.{LinkEnd, end_fits, end_after, end_noted, with_end}
use Rattle.core_channels.specs.declared.answers.Arrived.{Arrived}
use Rattle.core_channels.specs.declared.answers.Arrived.TheVariants.{Know, Room, Got, Pass, Reply, Nothing, NotYet, ClockFull}
use Rattle.core_channels.specs.Laws.{Told}

abbrev pub told_by_arrival : ℕ → Arrived → Option Told
told_by_arrival l (Know number s) = Some (record { event = event.Know l number; stamp = s })
told_by_arrival l (Room number s) = Some (record { event = event.Room l number; stamp = s })
told_by_arrival l (Got number value s) = Some (record { event = event.Got l number value; stamp = s })
told_by_arrival l (Pass number s) = Some (record { event = event.Pass l number; stamp = s })
told_by_arrival l (Reply number answer s) = Some (record { event = event.Reply l number answer; stamp = s })
told_by_arrival l Nothing = None
told_by_arrival l NotYet = None
told_by_arrival l ClockFull = None

-- a party of these ends whose last stamp is `last` may make the entry, which leaves these ends and this last stamp
pub record TellsOne (terms : ℕ → Terms) (before : ℕ → LinkEnd) (last : ℕ) (t : Told) (after : ℕ → LinkEnd) (now : ℕ) : Type 0 where
  -- the stamp of the entry that it answers; 0 where it answers none
  pub answers : ℕ
  pub fits : end_fits (terms (link_of t.event)) (before (link_of t.event)) t.event ≡ true
  pub next : t.stamp ≡ next_stamp last answers
  pub noted : answers ≡ end_noted (end_after (before (link_of t.event)) t.stamp answers t.event) t.event
  pub ends : after ≡ with_end before (link_of t.event) (end_after (before (link_of t.event)) t.stamp answers t.event)
  pub clock : now ≡ t.stamp

-- the party makes the entry that was told, and where none was told it makes none
abbrev pub Tells : (ℕ → Terms) → (ℕ → LinkEnd) → ℕ → Option Told → (ℕ → LinkEnd) → ℕ → Type 0
Tells terms ends last None after now = (after ≡ ends) × (now ≡ last)
Tells terms ends last (Some t) after now = TellsOne terms ends last t after now

-- what the party records of it in this turn
abbrev pub recorded : ℕ → Option Told → List Entry
recorded turn None = []
recorded turn (Some t) = record { stamp = t.stamp; turn = turn; event = t.event } ∷ []
