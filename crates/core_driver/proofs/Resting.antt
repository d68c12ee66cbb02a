-- What dispatch points that bring nothing add up to, and what is left to do after each part of a run. So many in a row have looked so
-- often and leave nothing at hand; and the measure of the loop falls, since a move or an entry takes from what is left to do, and a point
-- that brings nothing takes from the points that may still bring nothing.
use Rattle.std.proofs.Common.{◌≡◌, ℕ, ◌+◌, ◌-◌, ◌*◌, ◌^◌, ◌<◌, ◌≤◌, List, length, Option, Some, None, Bool, true, false, refl, sym, ap, ◌∙◌, subst, arith}
use Rattle.std.specs.Prelude.{nat_lt, slice_get, ◌==◌, ◌&&◌, if◌then◌else◌}
use Rattle.std.proofs.lemmas.Bool.{eqb-true, ltb-false}
use Rattle.std.proofs.lemmas.Option.{slice_get_within}
use Rattle.std.proofs.Math.Nat.{mul-le-mul_right}
use Rattle.stack_code.specs.declared.parts.ChannelEnds.{ChannelEnds}
use Rattle.stack_code.specs.Parts.{Parts}
use Rattle.core_channels.specs.Counts.{counted}
use Rattle.core_state.specs.Moves.{Move, On, Over}
use Rattle.code_meaning.specs.Machine.{Flat, FlatEnd}
use Rattle.core_machine.specs.declared.ending.Ending.{Ending}
use Rattle.core_machine.specs.declared.ending.Ending.TheVariants as ending
use Rattle.core_machine.specs.Machine.{Machine, HasEnded, IsOnItsWay, is_idle, none_ready}
use Rattle.core_machine.specs.Points.{is_at_point, left_at, work_left}
use Rattle.core_driver.specs.declared.pause.Pause.TheVariants as pause
use Rattle.core_ports.specs.declared.side.Side.{Side}
use Rattle.core_ports.specs.declared.side.Side.TheVariants.{Owner, Peer, Neither}
use Rattle.core_driver.specs.Idle.{HasLooked, LeavesNothing, RoseBy}
use Rattle.core_driver.specs.Pauses.{IsPaused, is_clock_full, pause_of}
use Rattle.core_ports.specs.Sides.{side_at, side_of}
use Rattle.core_driver.specs.Sides.{links_of}
use Rattle.core_driver.specs.inner.InStep.{Holds, Looks}
use Rattle.core_driver.specs.inner.Outside.{Later, Outside}
use Rattle.core_driver.specs.inner.Rounds.{RestsOnce, left_over, left_with}

-- ---- the links of a core

pub core_in : (m : Machine) → IsOnItsWay m → m.core < length m.code.entries
core_in m run = slice_get_within m.code.entries m.core run.begins.entry run.begins.entry_is

side_in : (code : Parts) (core l : ℕ) → core < length code.entries → (side_of code.ends core l ≡ Neither → ⊥) → l < links_of code
side_in code core l low side = by (slice_get code.ends l) refl side
  where
    by : (o : Option ChannelEnds) → slice_get code.ends l ≡ o → (side_at (length code.ends) core l o ≡ Neither → ⊥) → l < links_of code
    by (Some ends) e side = let within = slice_get_within code.ends l ends e in omega (arith, within)
    by None e side = asks (l == length code.ends + core) refl side
      where
        asks : (b : Bool) → (l == length code.ends + core) ≡ b → ((if b then Owner else Neither) ≡ Neither → ⊥) → l < links_of code
        asks true q side = let same = eqb-true l (length code.ends + core) q in omega (arith, same, low)
        asks false q side = absurd (side refl)

-- a link that is the core's is one of those that are looked at
pub is_one : (m : Machine) → IsOnItsWay m → (l : ℕ) → (side_of m.code.ends m.core l ≡ Neither → ⊥) → l < links_of m.code
is_one m run l side = side_in m.code m.core l (core_in m run) side

not_neither : (s : Side) → s ≡ Owner → s ≡ Neither → ⊥
not_neither s a b = let no : Owner ≡ Neither = sym a ∙ b in cc

peer_not_neither : (s : Side) → s ≡ Peer → s ≡ Neither → ⊥
peer_not_neither s a b = let no : Peer ≡ Neither = sym a ∙ b in cc

-- ---- counts

pub rose_none : (a b : ℕ) → a ≤ b → RoseBy 0 a b
rose_none a b h = omega (arith, h)

pub rose_more : (k a b c : ℕ) → RoseBy k a b → counted b ≤ c → RoseBy (k + 1) a c
rose_more k a b c h q = by (nat_lt b (2 ^ 64 - 1)) refl q
  where
    by : (t : Bool) → nat_lt b (2 ^ 64 - 1) ≡ t → (if t then b + 1 else b) ≤ c → RoseBy (k + 1) a c
    by true e q = omega (arith, h, q)
    by false e q = let high = ltb-false b (2 ^ 64 - 1) e in omega (arith, high, q)

-- at first, and where something has come in
pub looked_none : (m : Machine) (o p : Outside) → Later o p → HasLooked 0 m o.polls p.polls o.tries p.tries
looked_none m o p h = record { polled = λ l side. rose_none (o.polls l) (p.polls l) (h.polls l); tried = λ l side some. rose_none (o.tries l) (p.tries l) (h.tries l) }

-- once more
pub looked_more : (k : ℕ) (m n : Machine) (first o p : Outside) → HasLooked k m first.polls o.polls first.tries o.tries → Holds m o n p → RestsOnce m o n p
    → HasLooked (k + 1) n first.polls p.polls first.tries p.tries
looked_more k m n first o p was holds rests =
    let code = holds.machine.code in
    let core = holds.machine.core in
    record {
      polled = λ l side.
          let here = is_one n holds.in_step.run l side in
          rose_more k (first.polls l) (o.polls l) (p.polls l) (was.polled l (λ e. side (rw (code, core) e))) ((rests.looked l here).polled side);
      tried = λ l side some.
          let there = is_one n holds.in_step.run l (not_neither _ side) in
          rose_more k (first.tries l) (o.tries l) (p.tries l)
          (was.tried l (rw (← code, ← core) side) (rw (← rests.state) some)) ((rests.looked l there).tried rests.clock side some);
    }

pub times_is : (k n : ℕ) (m : Machine) (polls polls' tries tries' : ℕ → ℕ) → k ≡ n → HasLooked k m polls polls' tries tries' → HasLooked n m polls polls' tries tries'
times_is k n m polls polls' tries tries' e h = subst (λ i. HasLooked i m polls polls' tries tries') e h

-- and nothing that is at hand is left
pub leaves_nothing : (m n : Machine) (o p : Outside) → Holds m o n p → RestsOnce m o n p → LeavesNothing n p.terms p.ends p.hand
leaves_nothing m n o p holds rests = record {
  decision = λ l side. ((rests.looked l (is_one n holds.in_step.run l (not_neither _ side))).leaves rests.clock).decision side;
  front = λ l side some. ((rests.looked l (is_one n holds.in_step.run l (peer_not_neither _ side))).leaves rests.clock).front side some;
  slot = λ l side some room. ((rests.looked l (is_one n holds.in_step.run l (not_neither _ side))).leaves rests.clock).slot side some room;
  reply = λ l side asks waits. ((rests.looked l (is_one n holds.in_step.run l (not_neither _ side))).leaves rests.clock).reply side asks waits;
}

-- ---- what is left to do

-- a move leaves less
pub less_by_move : (ranks : List ℕ) (m n q : Machine) (o p : Outside) → Looks m o n p → work_left ranks q < work_left ranks n → left_over ranks q p.last < left_over ranks m o.last
less_by_move ranks m n q o p k less =
    let a = k.less ranks in
    let b = k.holds.ports.clock in
    omega (arith, a, b, less)

-- and so does an entry
pub less_by_entry : (ranks : List ℕ) (m n : Machine) (o p : Outside) → Looks m o n p → o.last < 2 ^ 60 → (p.last ≡ o.last → ⊥) → left_over ranks n p.last < left_over ranks m o.last
less_by_entry ranks m n o p k bound moved =
    let a = k.less ranks in
    let b = k.holds.ports.clock in
    let c : o.last < p.last = omega (arith, b, moved) in
    omega (arith, a, bound, c)

falls_by : (a b polls quiet : ℕ) → a < b → a * (polls + 1) + (polls - 0) < b * (polls + 1) + (polls - quiet)
falls_by a b polls quiet less =
    let more : (a + 1) * (polls + 1) ≤ b * (polls + 1) = mul-le-mul_right (polls + 1) (omega (arith, less)) in
    omega (arith, more)

stays_by : (a b polls quiet : ℕ) → a ≡ b → quiet < polls → a * (polls + 1) + (polls - (quiet + 1)) < b * (polls + 1) + (polls - quiet)
stays_by a b polls quiet same low = rw same (omega (arith, low))

-- what is left of a run falls where something is done
pub falls_on : (ranks : List ℕ) (polls quiet : ℕ) (m n : Machine) (last last' : ℕ) → left_over ranks n last' < left_over ranks m last → left_with ranks polls n last' 0 < left_with ranks
    polls m last quiet
falls_on ranks polls quiet m n last last' less = falls_by (left_over ranks n last') (left_over ranks m last) polls quiet less

-- and where nothing has come in
pub falls_quiet : (ranks : List ℕ) (polls quiet : ℕ) (m n : Machine) (o p : Outside) → Holds m o n p → RestsOnce m o n p → quiet < polls
    → left_with ranks polls n p.last (quiet + 1) < left_with ranks polls m o.last quiet
falls_quiet ranks polls quiet m n o p holds rests low =
    let same : left_over ranks n p.last ≡ left_over ranks m o.last = ap (λ s. left_at ranks n.bound s + (2 ^ 60 - p.last)) rests.state
    ∙ ap (λ b. left_at ranks b m.state + (2 ^ 60 - p.last)) holds.machine.bound ∙ ap (λ c. left_at ranks m.bound m.state + (2 ^ 60 - c)) rests.clock in
    stays_by (left_over ranks n p.last) (left_over ranks m o.last) polls quiet same low

-- one that has a thread running is not idle
pub not_idle : (state : Move Flat FlatEnd) → is_at_point state ≡ false → is_idle state ≡ false
not_idle (On m) h = ap (λ b. b && none_ready m.ready) h
not_idle (Over x) h = refl

-- ---- why it comes back

pub paused_at : (state : Move Flat FlatEnd) (e : Ending) → HasEnded state e → IsPaused state (pause_of e)
paused_at state ending.Finished h = h
paused_at state (ending.Trapped trap) h = h
paused_at state ending.OutOfSteps h = h

pub end_is_not_full : (e : Ending) → is_clock_full (pause_of e) ≡ false
end_is_not_full ending.Finished = refl
end_is_not_full (ending.Trapped trap) = refl
end_is_not_full ending.OutOfSteps = refl

pub end_is_not_idle : (e : Ending) → pause_of e ≡ pause.Idle → ⊥
end_is_not_idle ending.Finished h = let no : pause.Finished ≡ pause.Idle = h in cc
end_is_not_idle (ending.Trapped trap) h = let no : pause.Trapped trap ≡ pause.Idle = h in cc
end_is_not_idle ending.OutOfSteps h = let no : pause.OutOfSteps ≡ pause.Idle = h in cc

pub end_is_no_full_clock : (e : Ending) → pause_of e ≡ pause.ClockFull → ⊥
end_is_no_full_clock e h = let no : true ≡ false = sym (ap is_clock_full h) ∙ end_is_not_full e in cc
