-- What the calls of ports are to the journal of their core.
use Rattle.std.specs.Prelude.{◌≡◌, ℕ, List, ◌++◌, Option}
use Rattle.ac_base.specs.declared.entry.Entry.{Entry}
use Rattle.ac_links.specs.declared.payloads.Terms.{Terms}
use Rattle.ac_links.specs.Journals.{last_of}
use Rattle.ac_links.specs.Party.{LinkEnd, PartyAgrees}
use Rattle.core_channels.specs.Laws.{Told}
use Rattle.core_ports.specs.Ends.{AreUpTo, is_owner, is_peer}
use Rattle.core_ports.specs.Tells.{Tells, recorded}

-- what is so after a call whose entry, if there is one, the core has recorded
pub record GoesOn (terms : ℕ → Terms) (core : ℕ) (before after : ℕ → LinkEnd) (journal : List Entry) (now : ℕ) : Type 0 where
  pub agrees : PartyAgrees terms core after journal
  pub clock : now ≡ last_of 0 journal
  pub owner : (l : ℕ) → is_owner (after l) ≡ is_owner (before l)
  pub peer : (l : ℕ) → is_peer (after l) ≡ is_peer (before l)

abbrev pub CoreGoesOn : Type 0
CoreGoesOn = (terms : ℕ → Terms) (core : ℕ) (before after : ℕ → LinkEnd) (journal : List Entry) (turn : ℕ) (told : Option Told) (now : ℕ)
    → PartyAgrees terms core before journal → Tells terms before (last_of 0 journal) told after now
    → GoesOn terms core before after (journal ++ recorded turn told) now

abbrev pub ClockIsUpToAll : Type 0
ClockIsUpToAll = (terms : ℕ → Terms) (core : ℕ) (ends : ℕ → LinkEnd) (journal : List Entry)
    → PartyAgrees terms core ends journal → AreUpTo (last_of 0 journal) ends
