-- The plain code of small statements and programs, with a call that stands alone and with one that does not.
-- Each goes by its form; a nested call has no plain code, so that of its program is another.
use Rattle.std.proofs.Common.{◌≡◌, refl, sym, ap, ◌∙◌, ℕ, List, [], ◌∷◌, map, codes, length, true, false, Some, None, arith}
use Rattle.std.specs.Prelude.{pos}
use Rattle.ac_tree.specs.declared.expr.BinaryOp.TheVariants as b
use Rattle.ac_commands.specs.declared.value.Place.TheVariants as p
use Rattle.ac_commands.specs.declared.value.Array.TheVariants as a
use Rattle.ac_commands.specs.declared.value.Action.TheVariants.{Call}
use Rattle.ac_commands.specs.declared.value.Value.{Value, out-Value, out-roll-Value}
use Rattle.ac_commands.specs.declared.value.Value.TheVariants as v
use Rattle.ac_commands.specs.declared.value.Value.TheOpen.{Value-F}
use Rattle.ac_commands.specs.declared.value.ValueLink.{ValueLink}
use Rattle.ac_commands.specs.declared.command.Target.TheVariants as t
use Rattle.ac_commands.specs.declared.command.Command.{fold-roll-Command}
use Rattle.ac_commands.specs.declared.command.Command.TheVariants as c
use Rattle.ac_commands.specs.declared.command.Command.TheOpen.{Command-F}
use Rattle.ac_commands.specs.declared.program.Function.{Function}
use Rattle.stack_code.specs.declared.instr.Instr.TheVariants.{Step, Push, Load, LoadG, StoreG, ArrG, SetElem, Add, Mul, Jz, Call as Calls, Ret}
use Rattle.stack_code.specs.Parts.{Parts}
use Rattle.ac_translation.specs.Pieces.{Piece, one, ◌⨾◌}
use Rattle.ac_translation.specs.Translation.{chained_code, no_exits, code_of}
use Rattle.ac_semantics.proofs.Examples.{two_functions, prints_a_call, gives_back, with_a_call, joins, link, number, call}
use Rattle.ac_compile.specs.PlainCode.{plain_step, plain_code, row_code, alone_form, alone_code, plain_target, plain_test, plain_operand, plain_command_step, plain_command}
use Rattle.ac_compile.specs.PlainCode.{plain_function, plain_from, plain_code_of, HasPlainCode}
use Rattle.ac_compile.proofs.Forms.{number_form, variable_form, chain_form, link_form, act_form, print_form, return_form}
use Rattle.ac_compile.proofs.PlainCoding.{plain_link, plain_form, plain_link_form, plainly_coded}
use Rattle.ac_compile.proofs.EarlierExamples.{alone_call, gets, gets_one, they_are_alone, call_form}

number_plain : (n : ℕ) → plain_code (number n) ≡ one (Push (pos n))
number_plain n = ap plain_code (sym (v.rolls-Number (pos n))) ∙ plain_form (Value-F.Number (pos n))

variable_plain : (slot : ℕ) → plain_code (v.Variable (p.Global slot)) ≡ one (LoadG slot)
variable_plain slot = ap plain_code (sym (v.rolls-Variable (p.Global slot))) ∙ plain_form (Value-F.Variable (p.Global slot))

parameter_plain : plain_code (v.Variable (p.Local 0 0)) ≡ one (Load 0 0)
parameter_plain = ap plain_code (sym (v.rolls-Variable (p.Local 0 0))) ∙ plain_form (Value-F.Variable (p.Local 0 0))

chain_plain : (first : Value) (rest : List ValueLink) → plain_code (v.Chain first rest) ≡ plain_code first ⨾ chained_code (map plain_link rest)
chain_plain first rest = ap plain_code (sym (v.rolls-Chain first rest)) ∙ plain_form (Value-F.Chain first rest)

act_plain : (operands : List Value) → plain_code (call 0 operands) ≡ plain_step (Value-F.Act (Call 0) [])
act_plain operands = ap plain_code (sym (v.rolls-Act (Call 0) operands)) ∙ plain_form (Value-F.Act (Call 0) operands)

-- f(2), where it may stand, and 1+f(2)*3
pub its_operands_and_then_the_call : (alone_code alone_call).at no_exits 0 ≡ Push (pos 2) ∷ Calls 0 1 ∷ []
its_operands_and_then_the_call = rw (call_form, number_plain 2) refl

pub where_it_may_not : (plain_code with_a_call).at no_exits 0 ≡ Push (pos 1) ∷ Push (pos 3) ∷ Mul ∷ Add ∷ []
where_it_may_not = rw (
  chain_plain (number 1) (link b.Add (joins alone_call b.Mul (number 3)) ∷ []),
  plain_link_form (link b.Add (joins alone_call b.Mul (number 3))),
  chain_plain alone_call (link b.Mul (number 3) ∷ []),
  plain_link_form (link b.Mul (number 3)),
  act_plain (number 2 ∷ []),
  number_plain 1,
  number_plain 3,
) refl

pub a_plain_form : alone_form (Value-F.Number (pos 2)) (number 3) ≡ plain_code (number 3)
a_plain_form = refl

pub a_row : (row_code (number 1 ∷ number 2 ∷ [])).at no_exits 0 ≡ Push (pos 1) ∷ Push (pos 2) ∷ []
a_row = rw (number_plain 1, number_plain 2) refl

-- parts of statements: h[1] after its value, the test of a loop, and what is given back
pub a_target : (plain_target (t.Element (a.Global 1 2) (number 1))).at no_exits 0 ≡ ArrG 1 2 ∷ Push (pos 1) ∷ SetElem ∷ []
a_target = rw (number_plain 1) refl

pub a_test : (plain_test (Some (number 1)) 3).at no_exits 0 ≡ Step ∷ Push (pos 1) ∷ Jz 6 ∷ []
a_test = rw (number_plain 1) refl

pub no_test : (plain_test None 3).at no_exits 0 ≡ Step ∷ []
no_test = refl

pub an_operand : (plain_operand (Some alone_call)).at no_exits 0 ≡ Push (pos 2) ∷ Calls 0 1 ∷ []
an_operand = its_operands_and_then_the_call

-- x = f(2);
gets_plain : plain_command gets ≡ plain_command_step (Command-F.Set (t.Variable (p.Global 0)) alone_call)
gets_plain = ap plain_command (sym (c.rolls-Set (t.Variable (p.Global 0)) alone_call)) ∙ fold-roll-Command Piece plain_command_step (Command-F.Set (t.Variable (p.Global 0)) alone_call)

pub a_call_is_assigned : (plain_command gets).at no_exits 0 ≡ Step ∷ Push (pos 2) ∷ Calls 0 1 ∷ StoreG 0 ∷ []
a_call_is_assigned = rw (gets_plain, call_form, number_plain 2) refl

-- a program, whose calls stand alone
pub its_code_is_plain : HasPlainCode gets_one
its_code_is_plain = plainly_coded gets_one they_are_alone

-- ---- a program where a call does not

-- int f(int x) { return x; }
variable_out : out-Value (v.Variable (p.Local 0 0)) ≡ Value-F.Variable (p.Local 0 0)
variable_out = ap out-Value (sym (v.rolls-Variable (p.Local 0 0))) ∙ out-roll-Value (Value-F.Variable (p.Local 0 0))

give_plain : plain_command gives_back ≡ plain_command_step (Command-F.Return (Some (v.Variable (p.Local 0 0))))
give_plain = ap plain_command (sym (c.rolls-Return (Some (v.Variable (p.Local 0 0))))) ∙ fold-roll-Command Piece plain_command_step (Command-F.Return (Some (v.Variable (p.Local 0 0))))

abbrev gives : Function
gives = record { name = codes "f"; is_async = false; gives_int = true; params = false ∷ []; slots = 1; body = gives_back ∷ [] }

pub its_plain_code : (plain_function gives).at no_exits 0 ≡ Step ∷ Load 0 0 ∷ Ret ∷ Push (pos 0) ∷ Ret ∷ []
its_plain_code = rw (give_plain, variable_out, parameter_plain) refl

pub where_it_is_entered : plain_from 7 (gives ∷ []) ≡ record { name = codes "f"; at = 7; params = false ∷ []; words = 1 } ∷ []
where_it_is_entered = refl

-- printf("%d\n", 1+f(2)*3); the code has the call and its operand, and plainly it has not
prints_plain : plain_command prints_a_call ≡ plain_command_step (Command-F.Print 0 (with_a_call ∷ []))
prints_plain = ap plain_command (sym (c.rolls-Print 0 (with_a_call ∷ []))) ∙ fold-roll-Command Piece plain_command_step (Command-F.Print 0 (with_a_call ∷ []))

plainly_thirteen : length (plain_code_of two_functions).instrs ≡ 13
plainly_thirteen = rw (
  give_plain,
  variable_out,
  parameter_plain,
  prints_plain,
  chain_plain (number 1) (link b.Add (joins alone_call b.Mul (number 3)) ∷ []),
  plain_link_form (link b.Add (joins alone_call b.Mul (number 3))),
  chain_plain alone_call (link b.Mul (number 3) ∷ []),
  plain_link_form (link b.Mul (number 3)),
  act_plain (number 2 ∷ []),
  number_plain 1,
  number_plain 3,
) refl

fifteen : length (code_of two_functions).instrs ≡ 15
fifteen = rw (
  return_form (Some (v.Variable (p.Local 0 0))),
  variable_form (p.Local 0 0),
  print_form 0 (with_a_call ∷ []),
  chain_form (number 1) (link b.Add (joins alone_call b.Mul (number 3)) ∷ []),
  link_form (link b.Add (joins alone_call b.Mul (number 3))),
  chain_form alone_call (link b.Mul (number 3) ∷ []),
  link_form (link b.Mul (number 3)),
  act_form (Call 0) (number 2 ∷ []),
  number_form (pos 1),
  number_form (pos 2),
  number_form (pos 3),
) refl

pub its_code_is_not_plain : HasPlainCode two_functions → ⊥
its_code_is_not_plain h = let e : length (code_of two_functions).instrs ≡ length (plain_code_of two_functions).instrs = ap (λ (x : Parts). length x.instrs) h in omega
    (arith, e, plainly_thirteen, fifteen)
