-- How often a driver has to poll, by example: a core whose one thread yields once and returns. It is in turn 0 before its first move, in
-- turn 1 once the thread runs, and in turn 2 once it runs again; in turn 2 it ends.
use Rattle.std.proofs.Common.{ℕ, ◌≤◌, refl, pos, List, [], ◌∷◌, false, arith}
use Rattle.core_state.specs.Moves.{Move, On, Over}
use Rattle.stack_code.specs.declared.instr.Instr.{Instr}
use Rattle.stack_code.specs.declared.instr.Instr.TheVariants as i
use Rattle.stack_code.proofs.Examples.{begins_so, code_of, entered}
use Rattle.code_meaning.specs.Machine.{Flat, FlatEnd}
use Rattle.code_meaning.proofs.Examples.{after}
use Rattle.core_machine.specs.Machine.{Machine}
use Rattle.core_machine.proofs.Examples.{running}
use Rattle.core_driver.specs.Polled.{ArePolled, HasReached}
use Rattle.core_driver.proofs.Turning.{reached_on}

abbrev yields : List Instr
yields = i.Yield ∷ i.Push (pos 0) ∷ i.Ret ∷ []

abbrev state_at : ℕ → Move Flat FlatEnd
state_at count = after 0 yields 100 count

abbrev in_state : Move Flat FlatEnd → Flat
in_state (On m) = m
in_state (Over x) = running

-- the core after so many moves
abbrev core_at : ℕ → Machine
core_at count = record { code = code_of 0 yields; core = 0; bound = 100; journal = []; state = state_at count; room = false }

pub it_is_in_turn_two : HasReached (core_at 3) 2
it_is_in_turn_two = record { function = entered 0; begins = begins_so 0 yields; flat = in_state (state_at 3); comes = (3, refl); goes = (0, refl); in_turn = refl }

pub it_was_in_turn_one : HasReached (core_at 3) 1
it_was_in_turn_one = record { function = entered 0; begins = begins_so 0 yields; flat = in_state (state_at 2); comes = (2, refl); goes = (1, refl); in_turn = refl }

pub it_is_in_no_third : HasReached (core_at 3) 3 → ⊥
it_is_in_no_third h = let low : 3 ≤ 2 = reached_on (core_at 3) (in_state (state_at 3)) 3 refl h in absurd (omega (arith, low))

-- it ended in turn 2
pub it_was_in_turn_two : HasReached (core_at 5) 2
it_was_in_turn_two = record { function = entered 0; begins = begins_so 0 yields; flat = in_state (state_at 4); comes = (4, refl); goes = (1, refl); in_turn = refl }

-- ---- polls

pub one_in_each_turn : ArePolled (core_at 0) (core_at 3) (λ l. 5) (λ l. 7)
one_in_each_turn f is turn reached l side = let low : turn ≤ 2 = reached_on (core_at 3) (in_state (state_at 3)) turn refl reached in omega (arith, low)

pub a_turn_without_one : ArePolled (core_at 0) (core_at 3) (λ l. 5) (λ l. 6) → ⊥
a_turn_without_one h = let low = h (in_state (state_at 0)) refl 2 it_is_in_turn_two 0 (λ e. cc) in absurd (omega (arith, low))

-- nor may one be missed before the end
pub a_turn_without_one_and_the_end : ArePolled (core_at 0) (core_at 5) (λ l. 5) (λ l. 6) → ⊥
a_turn_without_one_and_the_end h = let low = h (in_state (state_at 0)) refl 2 it_was_in_turn_two 0 (λ e. cc) in absurd (omega (arith, low))
