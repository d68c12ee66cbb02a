-- The code of small programs.
-- Two whole programs, of which one has a call, a block and a thread, and single statements, instruction by instruction; and where there is
-- one end and where there is not.
use Rattle.std.proofs.Common.{◌≡◌, refl, sym, ap, ◌∙◌, ℕ, zero, suc, ◌+◌, ◌<◌, ◌≤◌, ◌^◌, pos, List, [], ◌∷◌, codes, true, false, Option, Some, None, subst, arith}
use Rattle.std.specs.Prelude.{slice_get}
use Rattle.ac_tree.specs.declared.expr.BinaryOp.TheVariants as b
use Rattle.ac_tree.specs.declared.stmt.Stmt.TheVariants as s
use Rattle.ac_commands.specs.declared.value.Place.TheVariants as p
use Rattle.ac_commands.specs.declared.value.Array.TheVariants as a
use Rattle.ac_commands.specs.declared.value.Action.TheVariants as act
use Rattle.ac_commands.specs.declared.value.Value.{Value}
use Rattle.ac_commands.specs.declared.value.Value.TheVariants as v
use Rattle.ac_commands.specs.declared.command.Target.TheVariants as t
use Rattle.ac_commands.specs.declared.command.Command.{Command}
use Rattle.ac_commands.specs.declared.command.Command.TheVariants as c
use Rattle.ac_commands.specs.declared.program.Function.{Function}
use Rattle.ac_commands.specs.declared.program.Channel.{Channel}
use Rattle.ac_commands.specs.declared.program.Core.{Core}
use Rattle.ac_commands.specs.declared.program.Resolved.{Resolved}
use Rattle.stack_code.specs.declared.instr.Instr.{Instr}
use Rattle.stack_code.specs.declared.instr.Instr.TheVariants.{Step, Push, Load, LoadG, Store, StoreG, Arr, ArrG, Elem, SetElem, Add, Mul, Bool as Truth, Jump, Jz, Jnz, Print, Call, Ret}
use Rattle.stack_code.specs.declared.instr.Instr.TheVariants.{Enter, Finish, Async, End, Yield}
use Rattle.stack_code.specs.Parts.{Parts}
use Rattle.stack_code.specs.Valid.{IsValid}
use Rattle.ac_resolve.specs.InPlace.{Use, AsInt, AsReference, AsBlock, NoReferences, local, local_array, parameter, AnArray, call, number, reference, element, acts}
use Rattle.ac_resolve.specs.InPlace.{no_operand, one_operand, some_test, to_variable, set, give, do_finish, start, yield, no_command, one_command, IsFunction, IsCore, IsChannel, IsInPlace}
use Rattle.ac_resolve.proofs.Examples.{sum, sum_value, with_value, one_core, one_core_resolved, two_ac}
use Rattle.ac_translation.specs.Translation.{no_exits, value_code, command_code, functions_code, code_of}
use Rattle.ac_compile.specs.Compiled.{IsCodeOf}
use Rattle.ac_compile.proofs.Forms.{number_form, variable_form, reference_form, element_form, act_form, chain_form, link_form, nothing_form, set_form, print_form}
use Rattle.ac_compile.proofs.Forms.{if_alone_form, if_else_form, while_form, for_form, break_form, continue_form, return_form, do_form, async_form, yield_form}
use Rattle.ac_compile.proofs.Validity.{code_valid}
use Rattle.ac_compile.specs.OneEnd.{HasOneEnd}

-- ---- two.ac

-- core a(f); async void f() { printf("%d\n", 1+2*3); }
abbrev pub two : Resolved
two = one_core_resolved 0 (c.Print 0 (sum_value ∷ []) ∷ []) (codes "%d\n" ∷ [])

abbrev pub two_parts : Parts
two_parts = record {
  instrs = Step ∷ Push (pos 1) ∷ Push (pos 2) ∷ Push (pos 3) ∷ Mul ∷ Add ∷ Print 0 1 ∷ Push (pos 0) ∷ Ret ∷ [];
  functions = record { name = codes "f"; at = 0; params = []; words = 0 } ∷ [];
  texts = codes "%d\n" ∷ [];
  entries = 0 ∷ [];
  names = codes "a" ∷ [];
  globals = 0;
  capacities = 16 ∷ [];
  ends = [];
  starts = [];
  widths = [];
}

pub two_code : code_of two ≡ two_parts
two_code = rw (
  print_form 0 (sum_value ∷ []),
  chain_form (v.Number (pos 1)) (with_value b.Add (v.Chain (v.Number (pos 2)) (with_value b.Mul (v.Number (pos 3)) ∷ [])) ∷ []),
  link_form (with_value b.Add (v.Chain (v.Number (pos 2)) (with_value b.Mul (v.Number (pos 3)) ∷ []))),
  chain_form (v.Number (pos 2)) (with_value b.Mul (v.Number (pos 3)) ∷ []),
  link_form (with_value b.Mul (v.Number (pos 3))),
  number_form (pos 1),
  number_form (pos 2),
  number_form (pos 3),
) refl

-- from its tree
pub two_is_compiled : IsCodeOf (one_core (s.Print 28 (codes "%d\n") (sum ∷ []) ∷ [])) two_parts
two_is_compiled = sym (ap code_of two_ac ∙ two_code)

-- ---- a call and a thread

-- int f(int x[]) { return x[0]; } async void g() { int y[2]; do { async { int z = f(y); } yield; } finish; }
abbrev the_array : Value
the_array = v.Element (a.Param 0 0) (v.Number (pos 0))

abbrev the_call : Value
the_call = v.Act (act.Call 0) (v.Reference (a.Local 1 1 2) ∷ [])

abbrev in_thread : List Command
in_thread = c.Set (t.Variable (p.Local 0 0)) the_call ∷ []

abbrev in_block : List Command
in_block = c.Async 1 in_thread ∷ c.Yield ∷ []

abbrev called : Function
called = record { name = codes "f"; is_async = false; gives_int = true; params = true ∷ []; slots = 1; body = c.Return (Some the_array) ∷ [] }

abbrev entered : Function
entered = record { name = codes "g"; is_async = true; gives_int = false; params = []; slots = 3; body = c.Do 0 in_block ∷ [] }

abbrev pub threads : Resolved
threads = record {
  cores = record { name = codes "a"; entry = 1 } ∷ [];
  functions = called ∷ entered ∷ [];
  channels = [];
  files = [];
  slots = 0;
  starts = [];
  texts = [];
}

abbrev threads_instrs : List Instr
threads_instrs =
    Step ∷ Load 0 0 ∷ Push (pos 0) ∷ Elem ∷ Ret ∷ Push (pos 0) ∷ Ret
    ∷ Step ∷ Enter 0 ∷ Step ∷ Async 1 16 ∷ Step ∷ Arr 1 1 2 ∷ Call 0 1 ∷ Store 0 0 ∷ End ∷ Step ∷ Yield ∷ Step ∷ Finish 0 ∷ Push (pos 0) ∷ Ret ∷ []

pub the_code_of_threads : (code_of threads).instrs ≡ threads_instrs
the_code_of_threads = rw (
  return_form (Some the_array),
  element_form (a.Param 0 0) (v.Number (pos 0)),
  number_form (pos 0),
  do_form 0 in_block,
  async_form 1 in_thread,
  set_form (t.Variable (p.Local 0 0)) the_call,
  act_form (act.Call 0) (v.Reference (a.Local 1 1 2) ∷ []),
  reference_form (a.Local 1 1 2),
  yield_form,
) refl

-- everything is in its place, so the code is valid
none_there : (slot : ℕ) → slice_get [] slot ≡ Some AsReference → ⊥
none_there slot e = let no : ◌≡◌ {A = Option Use} None (Some AsReference) = e in cc

called_in_place : IsFunction threads called
called_in_place = record {
  others = [];
  own = none_there;
  slots = refl;
  body = one_command _ _ [] (give _ (Some the_array) refl (some_test the_array (element (a.Param 0 0) _ (parameter 0 0 (omega arith) refl) (number (pos 0))))) (no_command _);
}

-- the block's slot, and the array
abbrev own_slots : List Use
own_slots = AsBlock ∷ AsInt ∷ AsInt ∷ []

no_references : NoReferences own_slots
no_references zero e = cc
no_references (suc zero) e = cc
no_references (suc (suc zero)) e = cc
no_references (suc (suc (suc slot))) e = none_there slot e

one_int : NoReferences (AsInt ∷ [])
one_int zero e = cc
one_int (suc slot) e = none_there slot e

array_slots : (at : ℕ) → 1 ≤ at → at < 1 + 2 → slice_get own_slots at ≡ Some AsInt
array_slots zero le lt = absurd (omega (arith, le))
array_slots (suc zero) le lt = refl
array_slots (suc (suc zero)) le lt = refl
array_slots (suc (suc (suc at))) le lt = absurd (omega (arith, lt))

entered_in_place : IsFunction threads entered
entered_in_place = record {
  others = own_slots;
  own = no_references;
  slots = refl;
  body = one_command _ _ [] (do_finish _ 0 in_block refl refl (
      one_command _ _ _ (start _ (AsInt ∷ []) in_thread refl one_int (
      one_command _ _ [] (set _ _ the_call (to_variable _ (local 0 0 (omega arith) refl)) (
      acts (act.Call 0) (AnArray ∷ []) _ (call 0 called refl) (one_operand AnArray [] _ [] (reference _ (local_array 1 1 2 (omega arith) (omega arith) array_slots)) no_operand)
      )) (no_command _)
      )) (one_command _ _ [] (yield _) (no_command _))
      )) (no_command _);
}

each_function : (n : ℕ) (f : Function) → slice_get (called ∷ entered ∷ []) n ≡ Some f → IsFunction threads f
each_function zero f e = let same : called ≡ f = cc in subst (IsFunction threads) same called_in_place
each_function (suc zero) f e = let same : entered ≡ f = cc in subst (IsFunction threads) same entered_in_place
each_function (suc (suc n)) f e = let no : ◌≡◌ {A = Option Function} None (Some f) = e in cc

the_core : (program : Resolved) (core : Core) → IsCore program core → (n : ℕ) (other : Core) → slice_get (core ∷ []) n ≡ Some other → IsCore program other
the_core program core h zero other e = let same : core ≡ other = cc in subst (IsCore program) same h
the_core program core h (suc n) other e = let no : ◌≡◌ {A = Option Core} None (Some other) = e in cc

no_channel : (program : Resolved) (n : ℕ) (channel : Channel) → slice_get [] n ≡ Some channel → IsChannel program channel
no_channel program n channel e = let no : ◌≡◌ {A = Option Channel} None (Some channel) = e in cc

pub threads_in_place : IsInPlace threads
threads_in_place = record {
  functions = each_function;
  some_core = omega arith;
  few_cores = omega arith;
  cores = the_core threads (record { name = codes "a"; entry = 1 }) (record { function = entered; there = refl; params = refl });
  channels = no_channel threads;
  few_files = omega arith;
  starts = tt;
}

threads_size : (functions_code threads.functions).size ≡ 22
threads_size = rw (
  return_form (Some the_array),
  element_form (a.Param 0 0) (v.Number (pos 0)),
  number_form (pos 0),
  do_form 0 in_block,
  async_form 1 in_thread,
  set_form (t.Variable (p.Local 0 0)) the_call,
  act_form (act.Call 0) (v.Reference (a.Local 1 1 2) ∷ []),
  reference_form (a.Local 1 1 2),
  yield_form,
) refl

pub threads_are_valid : IsValid (code_of threads)
threads_are_valid = code_valid threads threads_in_place (subst (λ (n : ℕ). n < 2 ^ 32) (sym threads_size) (omega arith)) (omega arith)

-- ---- statements at the address 0, where `x` is the first global and `h` an array of the two after it

abbrev pub x : Value
x = v.Variable (p.Global 0)

-- h[x] = 1; the value comes first, then the array and the index
pub an_element_is_set : (command_code (c.Set (t.Element (a.Global 1 2) x) (v.Number (pos 1)))).at no_exits 0 ≡ Step ∷ Push (pos 1) ∷ ArrG 1 2 ∷ LoadG 0 ∷ SetElem ∷ []
an_element_is_set = rw (set_form (t.Element (a.Global 1 2) x) (v.Number (pos 1)), number_form (pos 1), variable_form (p.Global 0)) refl

-- 1 + f(x); the call stands on top of what is added to it
pub a_call_in_a_sum : (value_code (v.Chain (v.Number (pos 1)) (with_value b.Add (v.Act (act.Call 7) (x ∷ [])) ∷ []))).at no_exits 0 ≡ Push (pos 1) ∷ LoadG 0 ∷ Call 7 1 ∷ Add ∷ []
a_call_in_a_sum = rw (
  chain_form (v.Number (pos 1)) (with_value b.Add (v.Act (act.Call 7) (x ∷ [])) ∷ []),
  link_form (with_value b.Add (v.Act (act.Call 7) (x ∷ []))),
  act_form (act.Call 7) (x ∷ []),
  variable_form (p.Global 0),
  number_form (pos 1),
) refl

-- x && 1 passes over its right side where x is 0
pub a_right_side_is_passed_over : (value_code (v.Chain x (with_value b.And (v.Number (pos 1)) ∷ []))).at no_exits 0
    ≡ LoadG 0 ∷ Jz 5 ∷ Push (pos 1) ∷ Truth ∷ Jump 6 ∷ Push (pos 0) ∷ []
a_right_side_is_passed_over = rw (chain_form x (with_value b.And (v.Number (pos 1)) ∷ []), link_form (with_value b.And (v.Number (pos 1))), number_form (pos 1), variable_form (p.Global 0)) refl

-- x || 1 where it is not
pub and_so_does_or : (value_code (v.Chain x (with_value b.Or (v.Number (pos 1)) ∷ []))).at no_exits 0
    ≡ LoadG 0 ∷ Jnz 5 ∷ Push (pos 1) ∷ Truth ∷ Jump 6 ∷ Push (pos 1) ∷ []
and_so_does_or = rw (chain_form x (with_value b.Or (v.Number (pos 1)) ∷ []), link_form (with_value b.Or (v.Number (pos 1))), number_form (pos 1), variable_form (p.Global 0)) refl

-- if (x) ; else ;
pub a_choice : (command_code (c.If x (c.Nothing ∷ []) (Some (c.Nothing ∷ [])))).at no_exits 0 ≡ Step ∷ LoadG 0 ∷ Jz 5 ∷ Step ∷ Jump 6 ∷ Step ∷ []
a_choice = rw (if_else_form x (c.Nothing ∷ []) (c.Nothing ∷ []), variable_form (p.Global 0), nothing_form) refl

-- while (x) { if (x) break; continue; }
pub a_loop : (command_code (c.While x (c.If x (c.Break ∷ []) None ∷ c.Continue ∷ []))).at no_exits 0
    ≡ Step ∷ LoadG 0 ∷ Jz 11 ∷ Step ∷ LoadG 0 ∷ Jz 8 ∷ Step ∷ Jump 11 ∷ Step ∷ Jump 0 ∷ Jump 0 ∷ []
a_loop = rw (while_form x (c.If x (c.Break ∷ []) None ∷ c.Continue ∷ []), if_alone_form x (c.Break ∷ []), variable_form (p.Global 0), break_form, continue_form) refl

-- for (; x; x = 1) continue; goes on with its third part
pub a_loop_with_a_third_part : (command_code (c.For (Some x) (c.Set (t.Variable (p.Global 0)) (v.Number (pos 1)) ∷ []) (c.Continue ∷ []))).at no_exits 0
    ≡ Step ∷ LoadG 0 ∷ Jz 9 ∷ Step ∷ Jump 5 ∷ Step ∷ Push (pos 1) ∷ StoreG 0 ∷ Jump 0 ∷ []
a_loop_with_a_third_part = rw (
  for_form (Some x) (c.Set (t.Variable (p.Global 0)) (v.Number (pos 1)) ∷ []) (c.Continue ∷ []),
  set_form (t.Variable (p.Global 0)) (v.Number (pos 1)),
  variable_form (p.Global 0),
  number_form (pos 1),
  continue_form,
) refl

-- for (;;) break; has no test
pub a_loop_without_a_test : (command_code (c.For None [] (c.Break ∷ []))).at no_exits 0 ≡ Step ∷ Step ∷ Jump 4 ∷ Jump 0 ∷ []
a_loop_without_a_test = rw (for_form None [] (c.Break ∷ []), break_form) refl

-- return;
pub a_return_without_a_value : (command_code (c.Return None)).at no_exits 0 ≡ Step ∷ Push (pos 0) ∷ Ret ∷ []
a_return_without_a_value = rw (return_form None) refl

-- ---- one end

-- there is no core that could come to an end
pub ends_of_no_core : HasOneEnd two_parts (record two { cores = [] })
ends_of_no_core core bound journal lt = let less : core < 0 = lt in absurd (omega (arith, less))

-- the code lacks a core of the program
pub no_end_in_the_code : HasOneEnd (record two_parts { entries = []; names = [] }) two → ⊥
no_end_in_the_code h = let runs = (h 0 100 [] (omega arith)).1.comes in let entry = runs.begins.entry_is in cc
