-- What holds of each instruction of the code of a program that is in place: what holds of those that a form of the language has of its own,
-- of a cancel, and of the actions on its functions, channels and files.
-- By induction on the program as it is in place, with the laws of Instructions for each form.
use Rattle.std.proofs.Common.{◌≡◌, ℕ, zero, suc, List, [], ◌∷◌, length, Option, Some, true, refl, arith}
use Rattle.std.specs.Prelude.{All, slice_get}
use Rattle.ac_commands.specs.declared.value.Action.{Action}
use Rattle.ac_commands.specs.declared.value.Value.{Value}
use Rattle.ac_commands.specs.declared.value.ValueLink.{ValueLink}
use Rattle.ac_commands.specs.declared.command.Target.{Target}
use Rattle.ac_commands.specs.declared.command.Command.{Command}
use Rattle.ac_commands.specs.declared.program.Function.{Function}
use Rattle.ac_commands.specs.declared.program.Resolved.{Resolved}
use Rattle.stack_code.specs.declared.instr.Instr.{Instr}
use Rattle.stack_code.specs.declared.instr.Instr.TheVariants as i
use Rattle.ac_resolve.specs.InPlace.{Round, Want, Wants}
use Rattle.ac_resolve.specs.InPlace.{IsValue, number, variable, reference, elements, one_int, some_ints, element, part, unary}
use Rattle.ac_resolve.specs.InPlace.{chain, acts, AreLinks, no_link, one_link, AreOperands, no_operand, one_operand, AreInts}
use Rattle.ac_resolve.specs.InPlace.{IsTest, no_test, some_test, IsTarget, to_variable, to_element}
use Rattle.ac_resolve.specs.InPlace.{IsCommand, nothing, set, clear, run, print, if_alone, if_else, while_loop, for_loop, leave, go_on, give, do_finish, start, cancel, yield}
use Rattle.ac_resolve.specs.InPlace.{AreCommands, no_command, one_command, IsFunction}
use Rattle.ac_translation.specs.Translation.{action_code, values_code, functions_code}
use Rattle.ac_compile.proofs.Instructions as each
use Rattle.ac_compile.proofs.Instructions.{is_own, Each, Holds, Values, Links, Targets, Bodies, Operands}

module _ (program : Resolved) (P : Instr → Type 0) (own : (x : Instr) → is_own x ≡ true → P x) (cancels : (level slot : ℕ) → P (i.Cancel level slot))
    (actions : (action : Action) (wants : List Want) (count : ℕ) → Wants program action wants → P (action_code action count)) where
  -- ---- values

  module _ (r : Round) where
    mutual
      value_holds : (want : Want) (x : Value) → IsValue program r want x → Values P own x
      value_holds _ _ (number n) = each.number_holds P own n
      value_holds _ _ (variable place p) = each.variable_holds P own place
      value_holds _ _ (reference array p) = each.reference_holds P own array
      value_holds _ _ (elements count array p q) = each.reference_holds P own array
      value_holds _ _ (one_int x p) = value_holds _ x p
      value_holds _ _ (some_ints count array p q) = each.reference_holds P own array
      value_holds _ _ (element array index p x) = each.element_holds P own array index (value_holds _ index x)
      value_holds _ _ (part array index p x) = each.part_holds P own array index (value_holds _ index x)
      value_holds _ _ (unary op operand x) = each.unary_holds P own op operand (value_holds _ operand x)
      value_holds _ _ (chain first rest x xs) = each.chain_holds P own first rest (value_holds _ first x) (links_hold rest xs)
      value_holds _ _ (acts action wants operands w xs) =
          each.act_holds P own action operands (actions action wants (length operands) w) (operands_hold wants operands xs)

      links_hold : (links : List ValueLink) → AreLinks program r links → Links P own links
      links_hold _ no_link = each.no_link P own
      links_hold _ (one_link l rest x xs) = each.one_link P own l rest (value_holds _ l.operand x) (links_hold rest xs)

      operands_hold : (wants : List Want) (xs : List Value) → AreOperands program r wants xs → Holds P own (values_code xs)
      operands_hold _ _ no_operand = each.none_holds P own
      operands_hold _ _ (one_operand want wants x xs y ys) = each.both_hold P own _ _ (value_holds want x y) (operands_hold wants xs ys)

    ints_hold : (xs : List Value) → AreInts program r xs → Holds P own (values_code xs)
    ints_hold [] y = each.none_holds P own
    ints_hold (x ∷ xs) y = each.both_hold P own _ _ (value_holds _ x y.0) (ints_hold xs y.1)

    test_holds : (test : Option Value) → IsTest program r test → Operands P own test
    test_holds _ no_test = tt
    test_holds _ (some_test test x) = value_holds _ test x

    target_holds : (target : Target) → IsTarget program r target → Targets P own target
    target_holds _ (to_variable place p) = each.target_holds P own place
    target_holds _ (to_element array index p x) = each.put_holds P own array index (value_holds _ index x)

  -- ---- commands

  mutual
    command_holds : (r : Round) (x : Command) → IsCommand program r x → Bodies P own (x ∷ [])
    command_holds _ _ (nothing r) = each.nothing_holds P own
    command_holds _ _ (set r target value x y) = each.set_holds P own target value (value_holds r _ value y) (target_holds r target x)
    command_holds _ _ (clear r slot len x y) = each.clear_holds P own slot len
    command_holds _ _ (run r value x) = each.run_holds P own value (value_holds r _ value x)
    command_holds _ _ (print r text args format x y z) = each.print_holds P own text args (ints_hold r args z)
    command_holds _ _ (if_alone r test body x y) = each.if_alone_holds P own test body (value_holds r _ test x) (commands_hold r body y)
    command_holds _ _ (if_else r test body other x y z) =
        each.if_else_holds P own test body other (value_holds r _ test x) (commands_hold r body y) (commands_hold r other z)
    command_holds _ _ (while_loop r test body x y) = each.while_holds P own test body (value_holds r _ test x) (commands_hold _ body y)
    command_holds _ _ (for_loop r test next body x y z) = each.for_holds P own test next body (test_holds r test x) (commands_hold r next y) (commands_hold _ body z)
    command_holds _ _ (leave r x) = each.break_holds P own
    command_holds _ _ (go_on r x) = each.continue_holds P own
    command_holds _ _ (give r value x y) = each.return_holds P own value (test_holds r value y)
    command_holds _ _ (do_finish r slot body x y z) = each.do_holds P own slot body (commands_hold _ body z)
    command_holds _ _ (start r uses body x y z) = each.async_holds P own (length uses) body (commands_hold _ body z)
    command_holds _ _ (cancel r level slot x y) = each.cancel_holds P own level slot (cancels level slot)
    command_holds _ _ (yield r) = each.yield_holds P own

    commands_hold : (r : Round) (xs : List Command) → AreCommands program r xs → Bodies P own xs
    commands_hold _ _ (no_command r) = tt
    commands_hold _ _ (one_command r x xs y ys) = ((command_holds r x y).0, commands_hold r xs ys)

  -- ---- functions

  pub functions_hold : (fs : List Function) → ((number : ℕ) (f : Function) → slice_get fs number ≡ Some f → IsFunction program f) → Holds P own (functions_code fs)
  functions_hold [] h = each.none_holds P own
  functions_hold (f ∷ fs) h =
      let first = h 0 f refl in
      each.both_hold P own _ _ (each.function_holds P own f.body (commands_hold _ f.body first.body)) (functions_hold fs (λ number g e. h (suc number) g e))

pub all_each : (P : Instr → Type 0) (own : (x : Instr) → is_own x ≡ true → P x) (xs : List Instr) → Each P own xs → All P xs
all_each P own [] h k d lt = absurd (omega (arith, lt))
all_each P own (x ∷ xs) h zero d lt = h.0
all_each P own (x ∷ xs) h (suc k) d lt = all_each P own xs h.1 k d (omega (arith, lt))
