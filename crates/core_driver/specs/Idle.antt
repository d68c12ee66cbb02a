-- What a core that came back idle has left at its links, and how often it has looked.
use Rattle.std.specs.Prelude.{◌≡◌, ℕ, ◌+◌, ◌-◌, ◌^◌, ◌≤◌, min, true, false, List, ◌++◌}
use Rattle.ac_base.specs.declared.entry.Entry.{Entry}
use Rattle.ac_links.specs.declared.payloads.Terms.{Terms}
use Rattle.ac_links.specs.Party.{LinkEnd}
use Rattle.core_ports.specs.AtHand.{AtHand}
use Rattle.core_ports.specs.Ends.{awaits_reply, has_room}
use Rattle.core_machine.specs.Machine.{Machine}
use Rattle.core_machine.specs.Points.{operations_of, has_to_offer, receives_from}
use Rattle.core_ports.specs.declared.side.Side.TheVariants.{Owner, Peer, Neither}
use Rattle.core_ports.specs.Sides.{side_of}

-- all but the state stays, and the journal only grows
pub record IsLater (before after : Machine) : Type 0 where
  pub code : after.code ≡ before.code
  pub core : after.core ≡ before.core
  pub bound : after.bound ≡ before.bound
  pub entries : List Entry
  pub journal : after.journal ≡ before.journal ++ entries

-- as the core comes back nothing is at hand for it: no decision where it sends, no front where an operation waits for a message, no slot
-- where there is room and an operation is to be offered, and no reply where the first request that waits for one was taken
pub record LeavesNothing (m : Machine) (terms : ℕ → Terms) (ends : ℕ → LinkEnd) (hand : ℕ → AtHand) : Type 0 where
  pub decision : (l : ℕ) → side_of m.code.ends m.core l ≡ Owner → (hand l).decision ≡ false
  pub front : (l : ℕ) → side_of m.code.ends m.core l ≡ Peer → receives_from (operations_of m.state) l ≡ true → (hand l).front ≡ false
  pub slot : (l : ℕ) → side_of m.code.ends m.core l ≡ Owner → has_to_offer (operations_of m.state) l ≡ true
      → has_room (terms l) (ends l) ≡ true → (hand l).slot ≡ false
  pub reply : (l : ℕ) → side_of m.code.ends m.core l ≡ Owner → (terms l).requests ≡ true → awaits_reply (ends l) ≡ true
      → (hand l).reply ≡ false

-- a count of 64 bits, which stays at its last value, has risen by at least so much
abbrev pub RoseBy : ℕ → ℕ → ℕ → Type 0
RoseBy k before after = min (before + k) (2 ^ 64 - 1) ≤ after

-- each link of the core was polled so often, and on each with an operation that is to be offered an offer was tried so often
pub record HasLooked (times : ℕ) (m : Machine) (polls polls_after tries tries_after : ℕ → ℕ) : Type 0 where
  pub polled : (l : ℕ) → (side_of m.code.ends m.core l ≡ Neither → ⊥) → RoseBy times (polls l) (polls_after l)
  pub tried : (l : ℕ) → side_of m.code.ends m.core l ≡ Owner → has_to_offer (operations_of m.state) l ≡ true
      → RoseBy times (tries l) (tries_after l)
