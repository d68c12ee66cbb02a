-- Which entries those are that a journal stores with the further ints of their messages in a list beside them.
use Rattle.std.specs.Prelude.{ℕ, ◌+◌, ◌≤◌, ℤ, List, ◌∷◌, length, map, take, drop}
use Rattle.std.specs.List.{AllByRecursion}
use Rattle.ac_base.specs.declared.entry.Payload.TheVariants as payload
use Rattle.ac_base.specs.declared.entry.Event.{Event}
use Rattle.ac_base.specs.declared.entry.Event.TheVariants as event
use Rattle.ac_base.specs.declared.entry.Entry.{Entry}
use Rattle.ac_base.specs.declared.stored.StoredMessage.{StoredMessage}
use Rattle.ac_base.specs.declared.stored.StoredEvent.{StoredEvent}
use Rattle.ac_base.specs.declared.stored.StoredEvent.TheVariants.{Send, Read, Write, Withdraw, Know, Room, Got, Pass, Did, Reply}
use Rattle.ac_base.specs.declared.stored.StoredEntry.{StoredEntry}

-- the first int, and then those at its place in the list
abbrev pub ints_of : List ℤ → StoredMessage → List ℤ
ints_of further m = m.first ∷ take m.count (drop m.start further)

abbrev pub event_of : List ℤ → StoredEvent → Event
event_of further (Send l n m) = event.Offer l n (payload.Int (ints_of further m))
event_of further (Read l n file from len) = event.Offer l n (payload.Read file from len)
event_of further (Write l n file from bytes) = event.Offer l n (payload.Write file from bytes)
event_of further (Withdraw l n) = event.Withdraw l n
event_of further (Know l n) = event.Know l n
event_of further (Room l n) = event.Room l n
event_of further (Got l n m) = event.Got l n (ints_of further m)
event_of further (Pass l n) = event.Pass l n
event_of further (Did l n answer) = event.Did l n answer
event_of further (Reply l n answer) = event.Reply l n answer

abbrev pub entry_of : List ℤ → StoredEntry → Entry
entry_of further e = record { stamp = e.stamp; turn = e.turn; event = event_of further e.event }

abbrev pub entries_from : List ℤ → List StoredEntry → List Entry
entries_from further es = map (entry_of further) es

-- all its ints are there, and they are at most 16
pub record IsWhole (further : List ℤ) (m : StoredMessage) : Type 0 where
  pub there : m.start + m.count ≤ length further
  pub few : m.count ≤ 15

-- so is the message, if it has one
abbrev pub HasInts : List ℤ → StoredEvent → Type 0
HasInts further (Send l n m) = IsWhole further m
HasInts further (Read l n file from len) = Unit {0}
HasInts further (Write l n file from bytes) = Unit {0}
HasInts further (Withdraw l n) = Unit {0}
HasInts further (Know l n) = Unit {0}
HasInts further (Room l n) = Unit {0}
HasInts further (Got l n m) = IsWhole further m
HasInts further (Pass l n) = Unit {0}
HasInts further (Did l n answer) = Unit {0}
HasInts further (Reply l n answer) = Unit {0}

abbrev pub HaveInts : List ℤ → List StoredEntry → Type 0
HaveInts further es = AllByRecursion (λ e. HasInts further e.event) es
