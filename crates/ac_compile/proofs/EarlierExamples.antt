-- Calls that stand alone and calls that do not, and plain steps of small statements.
-- Counts and plain values are folds and do not compute, so they go by their forms; a plain run with a nested call shows that it is another.
use Rattle.std.proofs.Common.{◌≡◌, refl, sym, ap, ◌∙◌, subst, ℕ, zero, suc, List, [], ◌∷◌, map, length, codes, Option, Some, None, true, false, arith}
use Rattle.std.specs.Prelude.{ℤ, pos, Ok, Err, slice_get}
use Rattle.std.proofs.lemmas.Fmt.{decimal_digit}
use Rattle.ac_base.specs.declared.ends.Trap.TheVariants.{ZeroDivisor}
use Rattle.ac_base.specs.declared.ends.EndWord.TheVariants.{Finished}
use Rattle.ac_base.specs.declared.ends.CoreEnd.{CoreEnd}
use Rattle.ac_tree.specs.declared.expr.BinaryOp.TheVariants as b
use Rattle.ac_tree.specs.declared.expr.Expr.{Expr}
use Rattle.ac_tree.specs.declared.expr.Expr.TheVariants as e
use Rattle.ac_tree.specs.declared.stmt.Stmt.{Stmt}
use Rattle.ac_tree.specs.declared.stmt.Stmt.TheVariants as s
use Rattle.ac_tree.specs.declared.item.Item.{Item}
use Rattle.ac_tree.specs.declared.item.Item.TheVariants as i
use Rattle.ac_tree.specs.declared.item.Program.{Program}
use Rattle.ac_tree.proofs.Folds.{expr_folds, link_folds, stmt_folds, for_folds}
use Rattle.work_item.specs.declared.cell.Cell.TheVariants as cell
use Rattle.work_item.specs.Store.{Store, no_int, with_global}
use Rattle.core_state.specs.Moves.{Move, On, Over, and_then, moves, ComesTo}
use Rattle.core_state.specs.Frames.{first_frame, first_store}
use Rattle.ac_commands.specs.declared.value.Place.TheVariants as p
use Rattle.ac_commands.specs.declared.value.Action.TheVariants.{Call}
use Rattle.ac_commands.specs.declared.value.Value.{Value, out-Value, out-roll-Value}
use Rattle.ac_commands.specs.declared.value.Value.TheVariants as v
use Rattle.ac_commands.specs.declared.value.Value.TheOpen.{Value-F}
use Rattle.ac_commands.specs.declared.value.ValueLink.{ValueLink}
use Rattle.ac_commands.specs.declared.command.Target.TheVariants as t
use Rattle.ac_commands.specs.declared.command.Command.{Command, out-Command, fold-roll-Command}
use Rattle.ac_commands.specs.declared.command.Command.TheVariants as c
use Rattle.ac_commands.specs.declared.command.Command.TheOpen.{Command-F}
use Rattle.ac_commands.specs.declared.program.Function.{Function}
use Rattle.ac_commands.specs.declared.program.Core.{Core}
use Rattle.ac_commands.specs.declared.program.Resolved.{Resolved}
use Rattle.ac_semantics.specs.Evaluation.{Ending, Operands}
use Rattle.ac_semantics.specs.Held.{Held, with_store}
use Rattle.ac_semantics.specs.Work.{Work, Pend, Leave}
use Rattle.ac_semantics.specs.Statements.{Next, Goes, Ends, operands_of, calls, does}
use Rattle.ac_semantics.specs.Threads.{CoreState, rests, shared_at_first, first_state}
use Rattle.ac_semantics.specs.Replay.{Enters}
use Rattle.ac_semantics.proofs.Examples.{a_call_in_a_sum, it_stops_at_the_call, form, finish_by, function, two_functions, prints_a_call, gives_back, with_a_call, joins, link, number, call, ended}
use Rattle.ac_compile.specs.StandAlone.{Acts, no_act, one_act, all_in, total_acts, expr_step, acts_in, nested_in, some_acts, some_nested, stmt_step, stmt_nested, item_nested, StandAlone}
use Rattle.ac_compile.specs.StandAlone as tree
use Rattle.ac_compile.specs.Alone.{acts, all_acts, after_act, own_nested, total_others, nested_within, command_step, command_nested, IsAlone, body_nested, function_nested, AreAlone}
use Rattle.ac_compile.specs.Plain.{Plain, and_then as after, int, part, joined, chained, value_step, plain_value, plain_row, rest_of, waits_for}
use Rattle.ac_compile.specs.Plain.{ends_plainly, acts_plainly, begins_plainly, goes_plainly, plain_does, plain_goes_on}
use Rattle.ac_compile.specs.PlainRuns.{plain_next_at, plain_step_of, plain_step, RunsPlainly}
use Rattle.ac_compile.proofs.PlainRuns.{runs_plainly}
use Rattle.ac_compile.proofs.Plainly.{acts_form, link_count, plain_link, plain_form, link_form}

-- ---- expressions of a tree

-- f()
abbrev the_call : Expr
the_call = e.Call 0 (codes "f") []

abbrev one : Expr
one = e.Number 0 (pos 1)

-- 1 + f()
abbrev pub one_more : Expr
one_more = e.Chain 0 9 one (record { op = b.Add; operand = the_call } ∷ [])

pub a_call_is_not_nested : tree.acts the_call ≡ one_act 0
a_call_is_not_nested = expr_folds expr_step tree.link_step _ (e.rolls-Call 0 (codes "f") [])

one_has_none : tree.acts one ≡ no_act 0
one_has_none = expr_folds expr_step tree.link_step _ (e.rolls-Number 0 (pos 1))

pub it_is_in_a_sum : tree.acts one_more ≡ no_act 1
it_is_in_a_sum = rw (
  expr_folds expr_step tree.link_step _ (e.rolls-Chain 0 9 one (record { op = b.Add; operand = the_call } ∷ [])),
  link_folds expr_step tree.link_step (record { op = b.Add; operand = the_call }),
  one_has_none,
  a_call_is_not_nested,
) refl

-- (f())
pub it_is_in_a_group : tree.acts (e.Group 0 the_call) ≡ no_act 1
it_is_in_a_group = rw (expr_folds expr_step tree.link_step _ (e.rolls-Group 0 the_call), a_call_is_not_nested) refl

-- g(f(), 1)
pub it_is_an_argument : tree.acts (e.Call 0 (codes "g") (the_call ∷ one ∷ [])) ≡ one_act (total_acts (one_act 0 ∷ no_act 0 ∷ []))
it_is_an_argument = rw (expr_folds expr_step tree.link_step _ (e.rolls-Call 0 (codes "g") (the_call ∷ one ∷ [])), one_has_none, a_call_is_not_nested) refl

pub one_of_two_is_nested : ((one_act 1).all ≡ 2) × (all_in (one_act 1) ≡ 2) × ((one_act 1).nested ≡ 1)
one_of_two_is_nested = (refl, refl, refl)

-- ---- statements of a tree

all_is : (x : Expr) {y : Acts} → tree.acts x ≡ y → acts_in x ≡ y.all
all_is x h = ap (λ (z : Acts). z.all) h

nested_is : (x : Expr) {y : Acts} → tree.acts x ≡ y → nested_in x ≡ y.nested
nested_is x h = ap (λ (z : Acts). z.nested) h

-- x = ..;
abbrev place : Expr
place = e.Name 0 (codes "x")

abbrev pub assigns : Expr → Stmt
assigns value = s.Assign 0 place value

place_has_none : tree.acts place ≡ no_act 0
place_has_none = expr_folds expr_step tree.link_step _ (e.rolls-Name 0 (codes "x"))

pub it_is_the_whole_right_side : stmt_nested (assigns the_call) ≡ 0
it_is_the_whole_right_side = rw (stmt_folds stmt_step _ (s.rolls-Assign 0 place the_call), nested_is the_call a_call_is_not_nested, all_is place place_has_none) refl

pub it_is_a_part_of_it : stmt_nested (assigns one_more) ≡ 1
it_is_a_part_of_it = rw (stmt_folds stmt_step _ (s.rolls-Assign 0 place one_more), nested_is one_more it_is_in_a_sum, all_is place place_has_none) refl

-- return f(); and while it is a test, it is in the statement
pub it_is_the_operand : (stmt_nested (s.Return 0 (Some the_call)) ≡ 0) × (some_nested (Some the_call) ≡ 0)
it_is_the_operand = (rw (stmt_folds stmt_step _ (s.rolls-Return 0 (Some the_call)), nested_is the_call a_call_is_not_nested) refl, nested_is the_call a_call_is_not_nested)

-- for (; f(); ) ;
pub it_is_a_test : (stmt_nested (s.For 0 None (Some the_call) None (s.Empty 0)) ≡ 1) × (some_acts (Some the_call) ≡ 1)
it_is_a_test = (
  rw (
    for_folds stmt_step 0 None (Some the_call) None (s.Empty 0),
    stmt_folds stmt_step _
        (s.rolls-Empty 0),
    all_is the_call a_call_is_not_nested,
  ) refl,
  all_is the_call a_call_is_not_nested,
)

-- async void f() { .. }
abbrev item : List Stmt → Item
item body = i.Function (record { at = 0; is_async = true; gives_int = false; name = codes "f"; params = []; body = body })

abbrev pub program_of : List Stmt → Program
program_of body = record { items = item body ∷ [] }

pub it_stands_alone : StandAlone (program_of (assigns the_call ∷ []))
it_stands_alone = let h = it_is_the_whole_right_side in omega (arith, h)

pub it_does_not : StandAlone (program_of (assigns one_more ∷ [])) → ⊥
it_does_not none = let h : item_nested (item (assigns one_more ∷ [])) ≡ 1 = (let k = it_is_a_part_of_it in omega (arith, k)) in omega (arith, h, none)

-- ---- the same without names

-- f(2)
abbrev pub alone_call : Value
alone_call = call 0 (number 2 ∷ [])

number_acts : (n : ℕ) → acts (number n) ≡ no_act 0
number_acts n = ap acts (sym (v.rolls-Number (pos n))) ∙ acts_form (Value-F.Number (pos n))

call_acts : acts alone_call ≡ one_act 0
call_acts = rw (ap acts (sym (v.rolls-Act (Call 0) (number 2 ∷ []))) ∙ acts_form (Value-F.Act (Call 0) (number 2 ∷ [])), number_acts 2) refl

product_acts : acts (joins alone_call b.Mul (number 3)) ≡ no_act 1
product_acts = rw (
  ap acts (sym (v.rolls-Chain alone_call (link b.Mul (number 3) ∷ []))) ∙ acts_form (Value-F.Chain alone_call (link b.Mul (number 3) ∷ [])),
  link_count (link b.Mul (number 3)),
  number_acts 3,
  call_acts,
) refl

-- x = f(2); and printf("%d\n", 1+f(2)*3);
abbrev pub gets : Command
gets = c.Set (t.Variable (p.Global 0)) alone_call

gets_form : out-Command gets ≡ Command-F.Set (t.Variable (p.Global 0)) alone_call
gets_form = form gets _ (c.rolls-Set (t.Variable (p.Global 0)) alone_call)

call_nested : after_act (alone_call ∷ []) ≡ 0
call_nested = let h = ap (λ (z : Acts). z.nested) call_acts in omega (arith, h)

pub it_is_alone : IsAlone gets
it_is_alone = ap command_nested (sym (c.rolls-Set (t.Variable (p.Global 0)) alone_call)) ∙ fold-roll-Command ℕ command_step (Command-F.Set (t.Variable (p.Global 0)) alone_call) ∙
    (let h = call_nested in omega (arith, h))

with_a_call_acts : acts with_a_call ≡ no_act 1
with_a_call_acts = rw (
  ap acts (sym (v.rolls-Chain (number 1) (link b.Add (joins alone_call b.Mul (number 3)) ∷ []))) ∙ acts_form (Value-F.Chain (number 1) (link b.Add (joins alone_call b.Mul (number 3)) ∷ [])),
  link_count (link b.Add (joins alone_call b.Mul (number 3))),
  number_acts 1,
  product_acts,
) refl

pub one_is_printed : all_acts (with_a_call ∷ []) ≡ 1
one_is_printed = let h = ap (λ (z : Acts). z.all) with_a_call_acts in omega (arith, h)

prints_nested : command_nested prints_a_call ≡ 1
prints_nested =
    ap command_nested (sym (c.rolls-Print 0 (with_a_call ∷ []))) ∙ fold-roll-Command ℕ command_step (Command-F.Print 0 (with_a_call ∷ [])) ∙ (let h = one_is_printed in omega (arith, h))

pub it_is_not_alone : IsAlone prints_a_call → ⊥
it_is_not_alone none = let h = prints_nested in omega (arith, h, none)

-- its own, and those within it
pub own_and_within : (own_nested {A = Command} (Command-F.Set (t.Variable (p.Global 0)) alone_call) ≡ 0) × (nested_within (Command-F.If alone_call (1 ∷ []) (Some (2 ∷ []))) ≡ 3) × (total_others None
    ≡ 0)
own_and_within = (call_nested, refl, refl)

-- int f(int x) { return x; } and a core that gets a value of it
abbrev pub gets_one : Resolved
gets_one = record two_functions {
  functions = record { name = codes "f"; is_async = false; gives_int = true; params = false ∷ []; slots = 1; body = gives_back ∷ [] } ∷ function (gets ∷ []) ∷ [];
}

give_alone : command_nested gives_back ≡ 0
give_alone =
    ap command_nested (sym (c.rolls-Return (Some (v.Variable (p.Local 0 0))))) ∙ fold-roll-Command ℕ command_step (Command-F.Return (Some (v.Variable (p.Local 0 0))))
    ∙ (let h = ap (λ (z : Acts). z.nested) (ap acts (sym (v.rolls-Variable (p.Local 0 0))) ∙ acts_form (Value-F.Variable (p.Local 0 0))) in omega (arith, h))

pub they_are_alone : AreAlone gets_one
they_are_alone = let g = give_alone in let h = it_is_alone in omega (arith, g, h)

pub they_are_not : AreAlone two_functions → ⊥
they_are_not none = let h : function_nested (function (prints_a_call ∷ [])) ≡ body_nested (prints_a_call ∷ []) = refl in let k = prints_nested in omega (arith, h, k, none)

-- ---- plain values

module _ (s : Store) where
  abbrev plain : Value → Plain
  plain x = plain_value s first_frame x

  number_plain : (n : ℕ) → plain (number n) ≡ Ok (cell.Int (pos n))
  number_plain n = ap plain (sym (v.rolls-Number (pos n))) ∙ plain_form s first_frame (Value-F.Number (pos n))

  chain_plain : (first : Value) (rest : List ValueLink) → plain (v.Chain first rest) ≡ after (plain first) (λ x. chained x (map (plain_link s first_frame) rest))
  chain_plain first rest = ap plain (sym (v.rolls-Chain first rest)) ∙ plain_form s first_frame (Value-F.Chain first rest)

  -- 1-2*3, and 1/0
  pub a_plain_number : plain (joins (number 7) b.Sub (joins (number 2) b.Mul (number 3))) ≡ Ok (cell.Int (pos 1))
  a_plain_number = simp (chain_plain, link_form s first_frame, number_plain)

  pub a_plain_trap : plain (joins (number 1) b.Div (number 0)) ≡ Err ZeroDivisor
  a_plain_trap = simp (chain_plain, link_form s first_frame, number_plain)

  -- 0 && 1/0 and 2 || 1/0: the left operand decides
  pub nought_decides : plain (joins (number 0) b.And (joins (number 1) b.Div (number 0))) ≡ Ok (cell.Int (pos 0))
  nought_decides = simp (chain_plain, link_form s first_frame, number_plain)

  pub two_decides : plain (joins (number 2) b.Or (joins (number 1) b.Div (number 0))) ≡ Ok (cell.Int (pos 1))
  two_decides = simp (chain_plain, link_form s first_frame, number_plain)

  pub one_does_not_decide : (joined b.And (pos 1) (Err ZeroDivisor) ≡ Err ZeroDivisor) × (joined b.And (pos 1) (Ok (cell.Int (pos 2))) ≡ Ok (pos 1))
  one_does_not_decide = (refl, refl)

  -- the last is the first
  pub a_plain_row : plain_row s first_frame [] (number 1 ∷ number 2 ∷ []) ≡ Ok (cell.Int (pos 2) ∷ cell.Int (pos 1) ∷ [])
  a_plain_row = simp number_plain

  pub a_call_has_no_value : value_step s first_frame (Value-F.Act (Call 0) []) ≡ Ok no_int
  a_call_has_no_value = refl

pub cells_of_results : (int (Ok (pos 3)) ≡ Ok (cell.Int (pos 3))) × (int (Err ZeroDivisor) ≡ Err ZeroDivisor)
    × (part (Ok (record { home = None; start = 1; len = 1 })) ≡ Ok (cell.Array (record { home = None; start = 1; len = 1 })))
cells_of_results = (refl, refl, refl)

-- ---- plain steps

pub call_form : out-Value alone_call ≡ Value-F.Act (Call 0) (number 2 ∷ [])
call_form = ap out-Value (sym (v.rolls-Act (Call 0) (number 2 ∷ []))) ∙ out-roll-Value (Value-F.Act (Call 0) (number 2 ∷ []))

pub nothing_is_left : waits_for gets ≡ []
nothing_is_left = ap (λ (x : Command-F Command). rest_of (operands_of x)) gets_form

module _ (s : Held) (ws : List Work) where
  -- f is called, and the statement waits
  pub it_waits : plain_does gets_one gets first_frame ws s ≡ calls (Some (record { name = codes "f"; is_async = false; gives_int = true; params = false ∷ []; slots = 1; body = gives_back ∷ [] }))
      (cell.Int (pos 2) ∷ []) (Pend first_frame gets (Operands Ending [] [] ∷ []) ∷ ws) s
  it_waits = rw (gets_form, call_form, number_plain) refl

  pub its_call_comes_first : goes_plainly gets_one gets first_frame ws s (alone_call ∷ []) ≡ acts_plainly gets_one gets first_frame ws s (Call 0) (number 2 ∷ []) []
  its_call_comes_first = rw call_form refl

  pub a_number_is_computed : begins_plainly gets_one gets first_frame ws s (Value-F.Number (pos 2)) (number 2) [] ≡ ends_plainly gets_one gets first_frame ws s [] (number 2 ∷ [])
  a_number_is_computed = refl

  -- and then x is what it gives
  pub it_goes_on : (n : ℤ) → plain_goes_on gets_one gets first_frame ws s (cell.Int n) ≡ Goes (with_store s (with_global s.store 0 n)) ws
  it_goes_on n = rw (nothing_is_left, finish_by gets_one gets _ gets_form) refl

-- ---- plain runs

act_plain : (s : Store) (operands : List Value) → plain_value s first_frame (call 0 operands) ≡ Ok no_int
act_plain s operands = ap (plain_value s first_frame) (sym (v.rolls-Act (Call 0) operands)) ∙ plain_form s first_frame (Value-F.Act (Call 0) operands)

with_a_call_plain : (s : Store) → plain_value s first_frame with_a_call ≡ Ok (cell.Int (pos 1))
with_a_call_plain s = simp (chain_plain s, link_form s first_frame, number_plain s, act_plain s)

print_form : out-Command prints_a_call ≡ Command-F.Print 0 (with_a_call ∷ [])
print_form = form prints_a_call _ (c.rolls-Print 0 (with_a_call ∷ []))

chain_out : out-Value with_a_call ≡ Value-F.Chain (number 1) (link b.Add (joins alone_call b.Mul (number 3)) ∷ [])
chain_out =
    ap out-Value (sym (v.rolls-Chain (number 1) (link b.Add (joins alone_call b.Mul (number 3)) ∷ [])))
    ∙ out-roll-Value (Value-F.Chain (number 1) (link b.Add (joins alone_call b.Mul (number 3)) ∷ []))

-- where no statement goes on all is as in any run
pub the_core_leaves : (s : Held) → plain_next_at two_functions 9 (Leave ∷ []) s ≡ Ends Finished s
the_core_leaves s = refl

pub no_thread_runs : (x : CoreState) → plain_step_of two_functions 9 x None ≡ rests x
no_thread_runs x = refl

-- a call that is nested counts for 0
pub it_prints_one_plainly : and_then (first_state two_functions 0 (function (prints_a_call ∷ [])) []) (moves (plain_step two_functions 9) 3) ≡ ended Finished 1 (codes "1\n") (pos 0 ∷ pos 5 ∷ [])
it_prints_one_plainly = rw (print_form, chain_out, with_a_call_plain, finish_by two_functions prints_a_call _ print_form, decimal_digit 1 (omega arith)) refl

pub it_runs_plainly : RunsPlainly gets_one
it_runs_plainly = runs_plainly gets_one they_are_alone

-- a machine comes to one end
once : {S E : Type 0} (f : S → Move S E) (x y : E) (k j : ℕ) (m : Move S E) → and_then m (moves f k) ≡ Over x → and_then m (moves f j) ≡ Over y → x ≡ y
once f x y zero j (On s) h g = cc
once f x y (suc k) zero (On s) h g = cc
once f x y (suc k) (suc j) (On s) h g = once f x y k j (f s) h g
once f x y k j (Over z) h g = cc

abbrev steps_of : Option CoreEnd → ℕ
steps_of None = 0
steps_of (Some x) = x.steps

abbrev main : Function
main = function (prints_a_call ∷ [])

enters_main : (f : Function) → Enters two_functions 0 f → f ≡ main
enters_main f h =
    let here : h.here ≡ record { name = codes "a"; entry = 1 } = (let is = h.core_is in cc) in
    let found : slice_get two_functions.functions 1 ≡ Some f = subst (λ (x : Core). slice_get two_functions.functions x.entry ≡ Some f) here h.function_is in
    cc

-- it prints 7 in two steps, and plainly 1 in one
two_steps : (end : Option CoreEnd) (f : Function) → f ≡ main → ComesTo (plain_step two_functions 9) (first_state two_functions 0 f []) end → steps_of end ≡ 1
two_steps end f is h =
    let run : ComesTo (plain_step two_functions 9) (first_state two_functions 0 main []) end
    = subst (λ (g : Function). ComesTo (plain_step two_functions 9) (first_state two_functions 0 g []) end) is h in
    ap steps_of (once (plain_step two_functions 9) end _ run.0 3 (first_state two_functions 0 main []) (sym run.1) it_prints_one_plainly)

pub it_does_not_run_plainly : RunsPlainly two_functions → ⊥
it_does_not_run_plainly h =
    let enters : Enters two_functions 0 main = record { here = record { name = codes "a"; entry = 1 }; core_is = refl; function_is = refl } in
    let run = (h 0 9 [] _).0 (record { function = main; enters = enters; ends = (5, sym a_call_in_a_sum) }) in
    let n = two_steps _ run.function (enters_main run.function run.enters) run.ends in
    omega (arith, n)

-- its statement calls f, and so leaves the body of f, the return and itself; plainly it is over
abbrev pub at_first : Held
at_first = record { shared = shared_at_first two_functions 0 []; store = first_store (pos 0 ∷ pos 5 ∷ []); marks = []; operations = [] }

abbrev pub work_left : Next → ℕ
work_left (Goes s ws) = length ws
work_left _ = 0

pub it_calls : work_left (does two_functions prints_a_call first_frame [] at_first) ≡ 3
it_calls = rw (print_form, it_stops_at_the_call) refl

pub it_is_over_plainly : work_left (plain_does two_functions prints_a_call first_frame [] at_first) ≡ 0
it_is_over_plainly = rw (print_form, chain_out, with_a_call_plain, finish_by two_functions prints_a_call _ print_form, decimal_digit 1 (omega arith)) refl
