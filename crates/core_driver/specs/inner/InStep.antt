-- How a core and what is outside it are in step.
use Rattle.std.specs.Prelude.{◌≡◌, ℕ, ◌≤◌, List, true, false}
use Rattle.ac_links.specs.Journals.{last_of}
use Rattle.ac_links.specs.Party.{PartyAgrees}
use Rattle.core_channels.specs.Counts.{counted}
use Rattle.core_ports.specs.Ends.{awaits_reply, has_room}
use Rattle.core_state.specs.Moves.{Move, On, Over}
use Rattle.code_meaning.specs.Machine.{Flat, FlatEnd}
use Rattle.core_machine.specs.Machine.{Machine, IsOnItsWay}
use Rattle.core_machine.specs.Points.{is_at_point, operations_of, has_to_offer, receives_from, work_left}
use Rattle.core_ports.specs.declared.side.Side.TheVariants.{Owner, Peer, Neither}
use Rattle.core_ports.specs.Sides.{side_of}
use Rattle.core_driver.specs.Sides.{ArePortsOf}
use Rattle.core_driver.specs.Idle.{IsLater}
use Rattle.core_driver.specs.inner.Outside.{Outside, Later}

-- the state is the code's, the ports are the core's own and agree with its journal, and the clock has the journal's last stamp
pub record InStep (m : Machine) (o : Outside) : Type 0 where
  pub run : IsOnItsWay m
  pub ports : ArePortsOf m.code m.core o.terms o.ends
  pub agrees : PartyAgrees o.terms m.core o.ends m.journal
  pub clock : o.last ≡ last_of 0 m.journal

-- what holds after any part of a run, also where memory or stamps gave out
pub record Holds (m : Machine) (o : Outside) (n : Machine) (p : Outside) : Type 0 where
  pub in_step : InStep n p
  pub machine : IsLater m n
  pub ports : Later o p

-- the turn of a core that has not ended
abbrev pub turn_at : Move Flat FlatEnd → ℕ
turn_at (On m) = m.shared.turn
turn_at (Over x) = 0

-- what holds after a part of a dispatch point: no more is left to do, the turn is the same, and where the clock has stayed so has the core
pub record Looks (m : Machine) (o : Outside) (n : Machine) (p : Outside) : Type 0 where
  pub holds : Holds m o n p
  pub point : is_at_point n.state ≡ true
  pub turn : turn_at n.state ≡ turn_at m.state
  pub less : (ranks : List ℕ) → work_left ranks n ≤ work_left ranks m
  pub state : p.last ≡ o.last → n.state ≡ m.state

-- ---- one link

-- what is at hand on a link is not left there
pub record LeavesAt (m : Machine) (o : Outside) (l : ℕ) : Type 0 where
  pub decision : side_of m.code.ends m.core l ≡ Owner → (o.hand l).decision ≡ false
  pub front : side_of m.code.ends m.core l ≡ Peer → receives_from (operations_of m.state) l ≡ true → (o.hand l).front ≡ false
  pub slot : side_of m.code.ends m.core l ≡ Owner → has_to_offer (operations_of m.state) l ≡ true → has_room (o.terms l) (o.ends l) ≡ true
      → (o.hand l).slot ≡ false
  pub reply : side_of m.code.ends m.core l ≡ Owner → (o.terms l).requests ≡ true → awaits_reply (o.ends l) ≡ true → (o.hand l).reply ≡ false

-- an offer was tried where one waits
abbrev pub IsTried : Machine → Outside → Outside → ℕ → Type 0
IsTried m o p l = side_of m.code.ends m.core l ≡ Owner → has_to_offer (operations_of m.state) l ≡ true → counted (o.tries l) ≤ p.tries l

-- a link was looked at: it was polled where it is the core's, and where nothing has come in an offer was tried and nothing at hand is left
pub record IsLookedAt (o : Outside) (n : Machine) (p : Outside) (l : ℕ) : Type 0 where
  pub polled : (side_of n.code.ends n.core l ≡ Neither → ⊥) → counted (o.polls l) ≤ p.polls l
  pub tried : p.last ≡ o.last → IsTried n o p l
  pub leaves : p.last ≡ o.last → LeavesAt n p l
