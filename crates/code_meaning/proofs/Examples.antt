-- The run of short codes, and code whose instructions all have a meaning.
-- A run computes move by move to its end. That a code comes to no other end is shown by going through the number of moves.
use Rattle.std.proofs.Common.{◌≡◌, refl, sym, ap, ℕ, zero, suc, ℤ, pos, List, [], ◌∷◌, codes, Option, Some, true, false, arith}
use Rattle.std.specs.Prelude.{negsuc, slice_get}
use Rattle.std.proofs.lemmas.List.Elements.{All-from_recursion, recursion_from_All}
use Rattle.std.proofs.lemmas.Fmt.{decimal_digit}
use Rattle.ac_base.specs.declared.ends.Trap.TheVariants.{ZeroDivisor, Index}
use Rattle.ac_base.specs.declared.ends.EndWord.{EndWord}
use Rattle.ac_base.specs.declared.ends.CoreEnd.{CoreEnd}
use Rattle.ac_base.specs.declared.ends.EndWord.TheVariants.{Finished, Trapped, OutOfSteps}
use Rattle.core_state.specs.Moves.{Move, On, Over, moves, and_then}
use Rattle.core_state.specs.Shared.{core_end}
use Rattle.stack_code.specs.declared.instr.Instr.{Instr}
use Rattle.stack_code.specs.declared.instr.Instr.TheVariants as i
use Rattle.stack_code.specs.declared.parts.Entered.{Entered}
use Rattle.code_meaning.specs.Machine.{Flat, FlatEnd, exec, first_flat, Runs}
use Rattle.code_meaning.specs.Alone.{is_alone, starts_none, IsAlone}
use Rattle.stack_code.proofs.Examples.{entered, code_of, begins_so, keeps_three, small}

-- what so many moves come to, of which the first is the dispatch of the thread
abbrev pub after : ℕ → List Instr → ℕ → ℕ → Move Flat FlatEnd
after words instrs bound count = and_then (first_flat (code_of words instrs) 0 (entered words) []) (moves (exec (code_of words instrs) bound) count)

-- the core ended so, after so many steps, having printed this, with these globals and so many instructions
abbrev pub ended : EndWord → ℕ → List ℕ → List ℤ → ℕ → Move Flat FlatEnd
ended word steps output globals count =
    Over (record { core = Some (core_end word false globals [] (record { steps = steps; turn = 1; output = output; past = []; todo = []; requests = 0 })); count = count })

-- ---- runs

-- printf("%d\n", 1+2*3);
abbrev pub prints_seven : List Instr
prints_seven = i.Step ∷ i.Push (pos 1) ∷ i.Push (pos 2) ∷ i.Push (pos 3) ∷ i.Mul ∷ i.Add ∷ i.Print 0 1 ∷ i.Push (pos 0) ∷ i.Ret ∷ []

pub it_prints_seven : after 0 prints_seven 100 10 ≡ ended Finished 1 (codes "7\n") (pos 0 ∷ pos 5 ∷ []) 9
it_prints_seven = rw (decimal_digit 7 (omega arith)) refl

-- the same as an end of the core
pub it_is_an_end : Runs (code_of 0 prints_seven) 0 100 []
    (record { core = Some (core_end Finished false (pos 0 ∷ pos 5 ∷ []) [] (record { steps = 1; turn = 1; output = codes "7\n"; past = []; todo = []; requests = 0 })); count = 9 })
it_is_an_end = record { function = entered 0; begins = begins_so 0 prints_seven; comes = (10, sym it_prints_seven) }

-- return 0; takes two instructions, and not three
abbrev pub returns : List Instr
returns = i.Push (pos 0) ∷ i.Ret ∷ []

abbrev counted : Move Flat FlatEnd → ℕ
counted (On s) = 0
counted (Over end) = end.count

pub no_end_with_another_count : (core : Option CoreEnd) → Runs (code_of 0 returns) 0 100 [] (record { core = core; count = 3 }) → ⊥
no_end_with_another_count core r = no_end r.comes.0 (rw same at r.comes.1) where
  no_end : (k : ℕ) → Over (record { core = core; count = 3 }) ≡ and_then (first_flat (code_of 0 returns) 0 (entered 0) []) (moves (exec (code_of 0 returns) 100) k) → ⊥
  no_end zero h = let n : 3 ≡ 0 = ap counted h in omega (arith, n)
  no_end (suc zero) h = let n : 3 ≡ 0 = ap counted h in omega (arith, n)
  no_end (suc (suc zero)) h = let n : 3 ≡ 0 = ap counted h in omega (arith, n)
  no_end (suc (suc (suc k))) h = let n : 3 ≡ 2 = ap counted h in omega (arith, n)

  same_function : (entry : ℕ) (function : Entered) → slice_get (0 ∷ []) 0 ≡ Some entry → slice_get (entered 0 ∷ []) entry ≡ Some function → function ≡ entered 0
  same_function zero function at_core at_entry = cc
  same_function (suc n) function at_core at_entry = cc

  same : r.function ≡ entered 0
  same = same_function r.begins.entry r.function r.begins.entry_is r.begins.function_is

-- the `Step` that finds no step left is not counted
pub it_is_out_of_steps : after 0 prints_seven 0 2 ≡ ended OutOfSteps 0 [] (pos 0 ∷ pos 5 ∷ []) 0
it_is_out_of_steps = refl

-- the right operand is popped first: 1 - 3 is -2
pub it_subtracts : after 0 (i.Push (pos 1) ∷ i.Push (pos 3) ∷ i.Sub ∷ i.StoreG 0 ∷ i.Push (pos 0) ∷ i.Ret ∷ []) 0 7 ≡ ended Finished 0 [] (negsuc 1 ∷ pos 5 ∷ []) 6
it_subtracts = refl

-- an instruction that traps is counted
pub it_divides_by_nought : after 0 (i.Step ∷ i.Push (pos 1) ∷ i.Push (pos 0) ∷ i.Div ∷ []) 1 5 ≡ ended (Trapped ZeroDivisor) 1 [] (pos 0 ∷ pos 5 ∷ []) 4
it_divides_by_nought = refl

-- an array of two globals: its second element is 5, and it has no third
pub it_takes_an_element : after 0 (i.ArrG 0 2 ∷ i.Push (pos 1) ∷ i.Elem ∷ i.StoreG 0 ∷ i.Push (pos 0) ∷ i.Ret ∷ []) 0 7 ≡ ended Finished 0 [] (pos 5 ∷ pos 5 ∷ []) 6
it_takes_an_element = refl

pub it_finds_no_element : after 0 (i.ArrG 0 2 ∷ i.Push (pos 2) ∷ i.Elem ∷ []) 0 4 ≡ ended (Trapped Index) 0 [] (pos 0 ∷ pos 5 ∷ []) 3
it_finds_no_element = refl

-- the value lies below the reference and the index
pub it_sets_an_element : after 0 (i.Push (pos 9) ∷ i.ArrG 0 2 ∷ i.Push (pos 1) ∷ i.SetElem ∷ i.Push (pos 0) ∷ i.Ret ∷ []) 0 7 ≡ ended Finished 0 [] (pos 0 ∷ pos 9 ∷ []) 6
it_sets_an_element = refl

-- `Jz` jumps at 0, and `Jnz` does not
pub it_jumps : after 0 (i.Push (pos 0) ∷ i.Jz 4 ∷ i.Push (pos 7) ∷ i.StoreG 0 ∷ i.Push (pos 0) ∷ i.Jnz 3 ∷ i.Push (pos 0) ∷ i.Ret ∷ []) 0 7 ≡ ended Finished 0 [] (pos 0 ∷ pos 5 ∷ []) 6
it_jumps = refl

-- a slot of the frame, set and cleared
pub it_clears_slots : after 2 (i.Push (pos 3) ∷ i.Store 0 1 ∷ i.Clear 0 2 ∷ i.Load 0 1 ∷ i.StoreG 1 ∷ i.Push (pos 0) ∷ i.Ret ∷ []) 0 8 ≡ ended Finished 0 [] (pos 0 ∷ pos 0 ∷ []) 7
it_clears_slots = refl

-- ---- code of a core alone

pub it_is_alone : IsAlone small
it_is_alone = All-from_recursion (λ (instr : Instr). starts_none instr ≡ true) keeps_three (refl, (refl, (refl, (refl, tt))))

pub a_send_is_not : IsAlone (code_of 0 (i.Send 0 ∷ i.Ret ∷ [])) → ⊥
a_send_is_not h = let e = (recursion_from_All (λ (instr : Instr). starts_none instr ≡ true) (i.Send 0 ∷ i.Ret ∷ []) h).0 in cc

pub a_cancel_starts_none : is_alone (i.Cancel 0 0) ∷ starts_none (i.Cancel 0 0) ∷ starts_none (i.Send 0) ∷ [] ≡ false ∷ true ∷ false ∷ []
a_cancel_starts_none = refl
