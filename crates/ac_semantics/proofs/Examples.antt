-- Values of expressions and where they stop, and runs of small programs.
-- Expressions are folds and do not compute, so their values go by the laws of Forms; runs are then followed move by move.
use Rattle.std.proofs.Common.{◌≡◌, refl, sym, ap, ◌∙◌, ℕ, ℤ, pos, List, [], ◌∷◌, codes, Option, None, Some, true, false, arith}
use Rattle.std.specs.Prelude.{negsuc}
use Rattle.std.proofs.lemmas.Fmt.{decimal_digit}
use Rattle.ac_base.specs.declared.ends.Trap.TheVariants.{ZeroDivisor, Index}
use Rattle.ac_base.specs.declared.ends.EndWord.{EndWord}
use Rattle.ac_base.specs.declared.ends.EndWord.TheVariants.{Finished, Trapped, OutOfSteps}
use Rattle.ac_base.specs.declared.ends.CoreEnd.{CoreEnd}
use Rattle.ac_tree.specs.declared.expr.BinaryOp.{BinaryOp}
use Rattle.ac_tree.specs.declared.expr.BinaryOp.TheVariants as b
use Rattle.work_item.specs.declared.ids.FrameId.{FrameId}
use Rattle.work_item.specs.declared.cell.Cell.{Cell}
use Rattle.work_item.specs.declared.cell.Cell.TheVariants as cell
use Rattle.work_item.specs.Store.{Store}
use Rattle.core_state.specs.Moves.{Move, Over, moves, and_then}
use Rattle.core_state.specs.Arithmetic.{sum_of, product_of}
use Rattle.core_state.specs.Frames.{first_frame, first_store}
use Rattle.core_state.specs.Shared.{core_end}
use Rattle.ac_commands.specs.declared.value.Array.TheVariants as a
use Rattle.ac_commands.specs.declared.value.Place.TheVariants as p
use Rattle.ac_commands.specs.declared.value.Action.TheVariants.{Call}
use Rattle.ac_commands.specs.declared.value.Value.{Value}
use Rattle.ac_commands.specs.declared.value.Value.TheVariants as v
use Rattle.ac_commands.specs.declared.value.ValueLink.{ValueLink}
use Rattle.ac_commands.specs.declared.command.Target.TheVariants as t
use Rattle.ac_commands.specs.declared.command.Command.{Command, roll-Command, out-Command, out-roll-Command}
use Rattle.ac_commands.specs.declared.command.Command.TheVariants as c
use Rattle.ac_commands.specs.declared.command.Command.TheOpen.{Command-F}
use Rattle.ac_commands.specs.declared.program.Function.{Function}
use Rattle.ac_commands.specs.declared.program.Resolved.{Resolved}
use Rattle.ac_semantics.specs.Evaluation.{Acting, Ending, Context, First, Right, Operands, Evaluated, Comes, Traps, Stops, comes_int, goes, resumes}
use Rattle.ac_semantics.specs.Statements.{finish, finish_form}
use Rattle.ac_semantics.specs.Held.{Held}
use Rattle.ac_semantics.specs.Work.{Work}
use Rattle.ac_semantics.specs.Threads.{CoreState, step, first_state}
use Rattle.ac_semantics.proofs.Forms.{told_is, number_goes, variable_goes, element_goes, reference_goes, chain_of, act_goes, link_goes}

abbrev pub link : BinaryOp → Value → ValueLink
link op operand = record { op = op; operand = operand }

abbrev pub number : ℕ → Value
number n = v.Number (pos n)

-- one operator between two operands
abbrev pub joins : Value → BinaryOp → Value → Value
joins x op y = v.Chain x (link op y ∷ [])

-- ---- values, whatever is round them

abbrev pub value : Store → Value → List Context → Evaluated
value s x around = goes s first_frame x around

-- 1+2*3
abbrev pub sum : Value
sum = joins (number 1) b.Add (joins (number 2) b.Mul (number 3))

pub a_sum : (s : Store) (around : List Context) → value s sum around ≡ comes_int (pos 7)
a_sum s around = simp (chain_of s first_frame, link_goes s first_frame, number_goes s first_frame)

-- 1-2-3 groups to the left
pub a_difference : (s : Store) (around : List Context) → value s (v.Chain (number 1) (link b.Sub (number 2) ∷ link b.Sub (number 3) ∷ [])) around ≡ comes_int (negsuc 3)
a_difference s around = simp (chain_of s first_frame, link_goes s first_frame, number_goes s first_frame)

-- 1/0, and the third of two globals
abbrev pub no_quotient : Value
no_quotient = joins (number 1) b.Div (number 0)

abbrev pub no_element : Value
no_element = v.Element (a.Global 0 2) (number 2)

abbrev pub two_globals : Store
two_globals = first_store (pos 8 ∷ pos 9 ∷ [])

pub the_second_of_two : (around : List Context) → value two_globals (v.Element (a.Global 0 2) (number 1)) around ≡ comes_int (pos 9)
the_second_of_two around = simp (element_goes two_globals first_frame, number_goes two_globals first_frame)

pub there_is_no_third : (around : List Context) → value two_globals no_element around ≡ Traps Index
there_is_no_third around = simp (element_goes two_globals first_frame, number_goes two_globals first_frame)

-- the first trap from left to right is what comes
pub the_left_trap_comes_first : (around : List Context) → value two_globals (joins no_quotient b.Add no_element) around ≡ Traps ZeroDivisor
the_left_trap_comes_first around = simp (chain_of two_globals first_frame, link_goes two_globals first_frame, element_goes two_globals first_frame, number_goes two_globals first_frame)

pub the_left_trap_comes_first_the_other_way : (around : List Context) → value two_globals (joins no_element b.Add no_quotient) around ≡ Traps Index
the_left_trap_comes_first_the_other_way around =
    simp (chain_of two_globals first_frame, link_goes two_globals first_frame, element_goes two_globals first_frame, number_goes two_globals first_frame)

-- the right side is looked at only where the left does not decide, and counts as 0 or 1
pub nought_decides_and : (s : Store) (around : List Context) → value s (joins (number 0) b.And no_quotient) around ≡ comes_int (pos 0)
nought_decides_and s around = simp (chain_of s first_frame, link_goes s first_frame, number_goes s first_frame)

pub one_does_not_decide_and : (s : Store) (around : List Context) → value s (joins (number 1) b.And no_quotient) around ≡ Traps ZeroDivisor
one_does_not_decide_and s around = simp (chain_of s first_frame, link_goes s first_frame, number_goes s first_frame)

pub both_are_true : (s : Store) (around : List Context) → value s (joins (number 2) b.And (number 3)) around ≡ comes_int (pos 1)
both_are_true s around = simp (chain_of s first_frame, link_goes s first_frame, number_goes s first_frame)

pub two_decides_or : (s : Store) (around : List Context) → value s (joins (number 2) b.Or no_quotient) around ≡ comes_int (pos 1)
two_decides_or s around = simp (chain_of s first_frame, link_goes s first_frame, number_goes s first_frame)

-- ---- stops

-- a call of the function of that number
abbrev pub call : ℕ → List Value → Value
call function operands = v.Act (Call function) operands

-- 1+f(2)*3 stops at f, in front of *3 and to the right of 1+
abbrev pub with_a_call : Value
with_a_call = joins (number 1) b.Add (joins (call 0 (number 2 ∷ [])) b.Mul (number 3))

pub it_stops_at_the_call : (s : Store) (around : List Context) →
    value s with_a_call around ≡ Stops (Acting (Call 0)) (cell.Int (pos 2) ∷ []) (First (link b.Mul (number 3) ∷ []) ∷ Right (pos 1) b.Add [] ∷ around)
it_stops_at_the_call s around = simp (chain_of s first_frame, link_goes s first_frame, act_goes s first_frame, number_goes s first_frame)

-- with r in the open place it is 1+r*3
pub it_goes_on_with_the_result : (s : Store) (r : ℤ) →
    resumes s first_frame (First (link b.Mul (number 3) ∷ []) ∷ Right (pos 1) b.Add [] ∷ []) (cell.Int r) ≡ comes_int (sum_of (pos 1) (product_of r (pos 3)))
it_goes_on_with_the_result s r = simp (link_goes s first_frame, number_goes s first_frame)

-- 0&&f(1) does not call f
pub it_does_not_stop : (s : Store) (around : List Context) → value s (joins (number 0) b.And (call 0 (number 1 ∷ []))) around ≡ comes_int (pos 0)
it_does_not_stop s around = simp (chain_of s first_frame, link_goes s first_frame, number_goes s first_frame)

-- g(f(1), 2) stops at f, and then at g with both operands, of which the last is the first
abbrev pub call_in_a_call : Value
call_in_a_call = call 1 (call 0 (number 1 ∷ []) ∷ number 2 ∷ [])

pub it_stops_at_the_inner_call : (s : Store) (around : List Context) →
    value s call_in_a_call around ≡ Stops (Acting (Call 0)) (cell.Int (pos 1) ∷ []) (Operands (Acting (Call 1)) [] (number 2 ∷ []) ∷ around)
it_stops_at_the_inner_call s around = simp (act_goes s first_frame, told_is s first_frame, number_goes s first_frame)

pub it_stops_at_the_outer_call_then : (s : Store) (r : ℤ) →
    resumes s first_frame (Operands (Acting (Call 1)) [] (number 2 ∷ []) ∷ []) (cell.Int r) ≡ Stops (Acting (Call 1)) (cell.Int (pos 2) ∷ cell.Int r ∷ []) []
it_stops_at_the_outer_call_then s r = simp (number_goes s first_frame)

-- ---- runs of the core `a`, which enters a function with these statements, where there are two globals

abbrev pub function : List Command → Function
function body = record { name = codes "f"; is_async = true; gives_int = false; params = []; slots = 0; body = body }

abbrev pub program : List Command → Resolved
program body = record {
  cores = record { name = codes "a"; entry = 0 } ∷ [];
  functions = function body ∷ [];
  channels = [];
  files = [];
  slots = 2;
  starts = record { slot = 1; value = pos 5 } ∷ [];
  texts = codes "%d\n" ∷ [];
}

-- what so many moves come to, of which the first is the dispatch of the thread
abbrev pub after : List Command → ℕ → ℕ → Move CoreState (Option CoreEnd)
after body bound count = and_then (first_state (program body) 0 (function body) []) (moves (step (program body) bound) count)

abbrev pub ended : EndWord → ℕ → List ℕ → List ℤ → Move CoreState (Option CoreEnd)
ended word steps output globals = Over (Some (core_end word false globals [] (record { steps = steps; turn = 1; output = output; past = []; todo = []; requests = 0 })))

pub form : (x : Command) (y : Command-F Command) → roll-Command y ≡ x → out-Command x ≡ y
form x y e = ap out-Command (sym e) ∙ out-roll-Command y

-- what a statement does with its operands goes by its form
pub finish_by : (p : Resolved) (x : Command) (y : Command-F Command) → out-Command x ≡ y → (operands : List Cell) (frame : FrameId) (ws : List Work) (s : Held) →
    finish p x operands frame ws s ≡ finish_form p x y operands frame ws s
finish_by p x y e operands frame ws s = ap (λ z. finish_form p x z operands frame ws s) e

-- printf("%d\n", 1+2*3);
abbrev pub prints_seven : Command
prints_seven = c.Print 0 (sum ∷ [])

print_form : out-Command prints_seven ≡ Command-F.Print 0 (sum ∷ [])
print_form = form prints_seven (Command-F.Print 0 (sum ∷ [])) (c.rolls-Print 0 (sum ∷ []))

pub it_prints_seven : after (prints_seven ∷ []) 100 3 ≡ ended Finished 1 (codes "7\n") (pos 0 ∷ pos 5 ∷ [])
it_prints_seven = rw (print_form, a_sum, finish_by (program (prints_seven ∷ [])) prints_seven _ print_form, decimal_digit 7 (omega arith)) refl

pub it_is_out_of_steps : after (prints_seven ∷ []) 0 2 ≡ ended OutOfSteps 0 [] (pos 0 ∷ pos 5 ∷ [])
it_is_out_of_steps = refl

-- a body without statements takes no step
pub nothing_is_done : after [] 0 2 ≡ ended Finished 0 [] (pos 0 ∷ pos 5 ∷ [])
nothing_is_done = refl

-- for (;;) break;
abbrev pub leaves : Command
leaves = c.For None [] (c.Break ∷ [])

for_form : out-Command leaves ≡ Command-F.For None [] (c.Break ∷ [])
for_form = form leaves (Command-F.For None [] (c.Break ∷ [])) (c.rolls-For None [] (c.Break ∷ []))

break_form : out-Command c.Break ≡ Command-F.Break
break_form = form c.Break Command-F.Break c.rolls-Break

pub a_missing_test_is_true : after (leaves ∷ []) 9 4 ≡ ended Finished 2 [] (pos 0 ∷ pos 5 ∷ [])
a_missing_test_is_true =
    rw (for_form, finish_by (program (leaves ∷ [])) leaves _ for_form, break_form, finish_by (program (leaves ∷ [])) c.Break _ break_form) refl

-- h[2] = 1/0, where h is the two globals: the right side comes first, and its step is used
abbrev pub sets_no_element : Value → Command
sets_no_element value = c.Set (t.Element (a.Global 0 2) (number 2)) value

set_form : (value : Value) → out-Command (sets_no_element value) ≡ Command-F.Set (t.Element (a.Global 0 2) (number 2)) value
set_form value = form (sets_no_element value) _ (c.rolls-Set (t.Element (a.Global 0 2) (number 2)) value)

no_quotient_value : (s : Store) (around : List Context) → value s no_quotient around ≡ Traps ZeroDivisor
no_quotient_value s around = simp (chain_of s first_frame, link_goes s first_frame, number_goes s first_frame)

pub the_right_side_traps_first : after (sets_no_element no_quotient ∷ []) 9 2 ≡ ended (Trapped ZeroDivisor) 1 [] (pos 0 ∷ pos 5 ∷ [])
the_right_side_traps_first = rw (set_form no_quotient, no_quotient_value) refl

one_value : (s : Store) (around : List Context) → value s (number 1) around ≡ comes_int (pos 1)
one_value s around = number_goes s first_frame (pos 1) around

two_value : (s : Store) (around : List Context) → value s (number 2) around ≡ comes_int (pos 2)
two_value s around = number_goes s first_frame (pos 2) around

array_value : (s : Store) (around : List Context) → value s (v.Reference (a.Global 0 2)) around ≡ Comes (cell.Array (record { home = None; start = 0; len = 2 }))
array_value s around = reference_goes s first_frame (a.Global 0 2) around

pub the_index_traps_then : after (sets_no_element (number 1) ∷ []) 9 2 ≡ ended (Trapped Index) 1 [] (pos 0 ∷ pos 5 ∷ [])
the_index_traps_then =
    rw (set_form (number 1), one_value, array_value, two_value, finish_by (program (sets_no_element (number 1) ∷ [])) (sets_no_element (number 1)) _ (set_form (number 1))) refl

-- ---- a run with a call

-- int f(int x) { return x; }
abbrev pub gives_back : Command
gives_back = c.Return (Some (v.Variable (p.Local 0 0)))

-- printf("%d\n", 1+f(2)*3);
abbrev pub prints_a_call : Command
prints_a_call = c.Print 0 (with_a_call ∷ [])

abbrev pub two_functions : Resolved
two_functions = record (program (prints_a_call ∷ [])) {
  cores = record { name = codes "a"; entry = 1 } ∷ [];
  functions = record { name = codes "f"; is_async = false; gives_int = true; params = false ∷ []; slots = 1; body = gives_back ∷ [] } ∷ function (prints_a_call ∷ []) ∷ [];
}

give_form : out-Command gives_back ≡ Command-F.Return (Some (v.Variable (p.Local 0 0)))
give_form = form gives_back _ (c.rolls-Return (Some (v.Variable (p.Local 0 0))))

call_form : out-Command prints_a_call ≡ Command-F.Print 0 (with_a_call ∷ [])
call_form = form prints_a_call _ (c.rolls-Print 0 (with_a_call ∷ []))

three_value : (s : Store) (around : List Context) → value s (number 3) around ≡ comes_int (pos 3)
three_value s around = number_goes s first_frame (pos 3) around

-- the statement uses one step, and so does the one in f: the dispatch, the call, the return, what goes on, and the end
pub a_call_in_a_sum : and_then (first_state two_functions 0 (function (prints_a_call ∷ [])) []) (moves (step two_functions 9) 5) ≡ ended Finished 2 (codes "7\n") (pos 0 ∷ pos 5 ∷ [])
a_call_in_a_sum =
    rw (
      call_form,
      it_stops_at_the_call,
      give_form,
      variable_goes,
      finish_by two_functions gives_back _ give_form,
      it_goes_on_in_the_row,
      finish_by two_functions prints_a_call _ call_form,
      decimal_digit 7 (omega arith),
    ) refl
  where
    it_goes_on_in_the_row : (s : Store) →
        resumes s first_frame (First (link b.Mul (number 3) ∷ []) ∷ Right (pos 1) b.Add [] ∷ Operands Ending [] [] ∷ []) (cell.Int (pos 2)) ≡ Stops Ending (cell.Int (pos 7) ∷ []) []
    it_goes_on_in_the_row s = simp (link_goes s first_frame, number_goes s first_frame)
