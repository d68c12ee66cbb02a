-- A program in place is well formed.
-- `ac_resolve` says what is in its place, `ac_translation` what its simulation asks for; by induction on the program the second follows
-- from the first.
use Rattle.std.proofs.Common.{◌≡◌, ℕ, List, [], ◌∷◌, length, map, Option, Some, None, Bool, true, refl, sym, ap, ◌∙◌, arith}
use Rattle.std.specs.Prelude.{◌&&◌, not}
use Rattle.std.proofs.lemmas.Bool.{eq-eqb}
use Rattle.std.proofs.lemmas.List.{length-map}
use Rattle.ac_commands.specs.declared.value.Action.{Action}
use Rattle.ac_commands.specs.declared.value.Value.{Value, roll-Value, map-Value}
use Rattle.ac_commands.specs.declared.value.Value.TheVariants as v
use Rattle.ac_commands.specs.declared.value.Value.TheOpen.{Value-F}
use Rattle.ac_commands.specs.declared.value.ValueLink.{ValueLink}
use Rattle.ac_commands.specs.declared.command.Target.{Target}
use Rattle.ac_commands.specs.declared.command.Command.{Command, fold-roll-Command}
use Rattle.ac_commands.specs.declared.command.Command.TheVariants as c
use Rattle.ac_commands.specs.declared.command.Command.TheOpen.{Command-F}
use Rattle.ac_commands.specs.declared.program.Resolved.{Resolved}
use Rattle.ac_resolve.specs.InPlace.{Round, in_loop, in_block, in_body, in_function, Want, Wants, call, send, recv, read, write, IsInPlace}
use Rattle.ac_resolve.specs.InPlace.{IsValue, number, variable, reference, elements, one_int, some_ints, element, part, unary}
use Rattle.ac_resolve.specs.InPlace.{chain, acts, AreLinks, no_link, one_link, AreOperands, no_operand, one_operand, AreInts}
use Rattle.ac_resolve.specs.InPlace.{IsTest, no_test, some_test, IsTarget, to_variable, to_element}
use Rattle.ac_resolve.specs.InPlace.{IsCommand, nothing, set, clear, run, print, if_alone, if_else, while_loop, for_loop, leave, go_on, give, do_finish, start, cancel, yield, AreCommands}
use Rattle.ac_resolve.specs.InPlace.{no_command, one_command}
use Rattle.ac_semantics.specs.Statements.{some_operand, target_operands}
use Rattle.ac_translation.proofs.WellFormed as well
use Rattle.ac_translation.proofs.WellFormed.{takes, fits_step, fits, link_fits, all_fit, links_fit, fits_form, link_fits_form, well_formed_step, is_well_formed, are_well_formed, IsWellFormed}

-- what of what is round a statement the simulation needs
abbrev round_of : Round → well.Round
round_of r = record { loop = r.loop; block = r.block }

both : (x y : Bool) → x ≡ true → y ≡ true → x && y ≡ true
both x y e f = rw (e, f) refl

-- an expression, from what is made of its form
fits_as : (x : Value) (y : Value-F Value ValueLink) → roll-Value y ≡ x → fits_step (map-Value Value ValueLink Bool Bool fits link_fits y) ≡ true → fits x ≡ true
fits_as x y e h = ap fits (sym e) ∙ fits_form y ∙ h

-- a statement, from its operands and from where it stands
formed_as : (x : Command) (operands placed : Bool) (r : well.Round) → is_well_formed x r ≡ operands && placed → operands ≡ true → placed ≡ true → is_well_formed x r ≡ true
formed_as x operands placed r e f h = e ∙ both operands placed f h

-- by the form of a statement
by_form : (x : Command) (layer : well.Round → Bool) (r : well.Round) → is_well_formed x ≡ layer → is_well_formed x r ≡ layer r
by_form x layer r e = ap (λ (f : well.Round → Bool). f r) e

module _ (program : Resolved) where
  -- ---- expressions

  takes_as_wanted : (action : Action) (wants : List Want) (count : ℕ) → Wants program action wants → count ≡ length wants → takes action count ≡ true
  takes_as_wanted _ _ count (call n f e) many = refl
  takes_as_wanted _ _ count (send k channel e) many = eq-eqb count 1 many
  takes_as_wanted _ _ count (recv k channel e) many = eq-eqb count 1 many
  takes_as_wanted _ _ count (read file lt) many = eq-eqb count 3 many
  takes_as_wanted _ _ count (write file lt) many = eq-eqb count 3 many

  module _ (r : Round) where
    as_many : (wants : List Want) (xs : List Value) → AreOperands program r wants xs → length xs ≡ length wants
    as_many _ _ no_operand = refl
    as_many _ _ (one_operand want wants x xs y ys) = let more = as_many wants xs ys in omega (arith, more)

    mutual
      value_fits : (want : Want) (x : Value) → IsValue program r want x → fits x ≡ true
      value_fits _ _ (number n) = fits_as _ (Value-F.Number n) (v.rolls-Number n) refl
      value_fits _ _ (variable place p) = fits_as _ (Value-F.Variable place) (v.rolls-Variable place) refl
      value_fits _ _ (reference array p) = fits_as _ (Value-F.Reference array) (v.rolls-Reference array) refl
      value_fits _ _ (elements count array p q) = fits_as _ (Value-F.Reference array) (v.rolls-Reference array) refl
      value_fits _ _ (one_int x p) = value_fits _ x p
      value_fits _ _ (some_ints count array p q) = fits_as _ (Value-F.Reference array) (v.rolls-Reference array) refl
      value_fits _ _ (element array index p x) = fits_as _ (Value-F.Element array index) (v.rolls-Element array index) (value_fits _ index x)
      value_fits _ _ (part array index p x) = fits_as _ (Value-F.Part array index) (v.rolls-Part array index) (value_fits _ index x)
      value_fits _ _ (unary op operand x) = fits_as _ (Value-F.Unary op operand) (v.rolls-Unary op operand) (value_fits _ operand x)
      value_fits _ _ (chain first rest x xs) = fits_as _ (Value-F.Chain first rest) (v.rolls-Chain first rest) (both (fits first) (links_fit rest) (value_fits _ first x) (links_are_fit rest xs))
      value_fits _ _ (acts action wants operands w xs) =
          fits_as _ (Value-F.Act action operands) (v.rolls-Act action operands)
          (both (takes action (length (map fits operands))) (all_fit operands)
          (takes_as_wanted action wants _ w (length-map operands fits ∙ as_many wants operands xs)) (operands_fit wants operands xs))

      links_are_fit : (links : List ValueLink) → AreLinks program r links → links_fit links ≡ true
      links_are_fit _ no_link = refl
      links_are_fit _ (one_link l rest x xs) = both (link_fits l) (links_fit rest) (link_fits_form l ∙ value_fits _ l.operand x) (links_are_fit rest xs)

      operands_fit : (wants : List Want) (xs : List Value) → AreOperands program r wants xs → all_fit xs ≡ true
      operands_fit _ _ no_operand = refl
      operands_fit _ _ (one_operand want wants x xs y ys) = both (fits x) (all_fit xs) (value_fits want x y) (operands_fit wants xs ys)

    one_fits : (want : Want) (x : Value) → IsValue program r want x → all_fit (x ∷ []) ≡ true
    one_fits want x y = both (fits x) true (value_fits want x y) refl

    ints_fit : (xs : List Value) → AreInts program r xs → all_fit xs ≡ true
    ints_fit [] y = refl
    ints_fit (x ∷ xs) y = both (fits x) (all_fit xs) (value_fits _ x y.0) (ints_fit xs y.1)

    test_fits : (test : Option Value) → IsTest program r test → all_fit (some_operand test) ≡ true
    test_fits _ no_test = refl
    test_fits _ (some_test test x) = one_fits _ test x

    target_fits : (target : Target) → IsTarget program r target → all_fit (target_operands target) ≡ true
    target_fits _ (to_variable place p) = refl
    target_fits _ (to_element array index p x) =
        both (fits (v.Reference array)) (all_fit (index ∷ [])) (fits_as _ (Value-F.Reference array) (v.rolls-Reference array) refl) (one_fits _ index x)

  -- ---- statements

  -- By the forms of statements that are in place; each gives its operands, where it stands, and its bodies.
  mutual
    command_formed : (r : Round) (x : Command) → IsCommand program r x → is_well_formed x (round_of r) ≡ true
    command_formed _ _ (nothing r) =
        formed_as _ _ _ (round_of r)
        (by_form _ _ (round_of r) (ap is_well_formed (sym c.rolls-Nothing) ∙ fold-roll-Command (well.Round → Bool) well_formed_step Command-F.Nothing))
        refl refl
    command_formed _ _ (set r target value x y) =
        formed_as _ _ _ (round_of r)
        (by_form _ _ (round_of r) (ap is_well_formed (sym (c.rolls-Set target value)) ∙ fold-roll-Command (well.Round → Bool) well_formed_step (Command-F.Set target value)))
        (both (fits value) (all_fit (target_operands target)) (value_fits r _ value y) (target_fits r target x)) refl
    command_formed _ _ (clear r slot len x y) =
        formed_as _ _ _ (round_of r)
        (by_form _ _ (round_of r) (ap is_well_formed (sym (c.rolls-Clear slot len)) ∙ fold-roll-Command (well.Round → Bool) well_formed_step (Command-F.Clear slot len)))
        refl refl
    command_formed _ _ (run r value x) =
        formed_as _ _ _ (round_of r)
        (by_form _ _ (round_of r) (ap is_well_formed (sym (c.rolls-Run value)) ∙ fold-roll-Command (well.Round → Bool) well_formed_step (Command-F.Run value)))
        (one_fits r _ value x) refl
    command_formed _ _ (print r text args format e n x) =
        formed_as _ _ _ (round_of r)
        (by_form _ _ (round_of r) (ap is_well_formed (sym (c.rolls-Print text args)) ∙ fold-roll-Command (well.Round → Bool) well_formed_step (Command-F.Print text args)))
        (ints_fit r args x) refl
    command_formed _ _ (if_alone r test body x y) =
        formed_as _ _ _ (round_of r)
        (by_form _ _ (round_of r) (ap is_well_formed (sym (c.rolls-If test body None)) ∙ fold-roll-Command (well.Round → Bool) well_formed_step (Command-F.If test body None)))
        (one_fits r _ test x) (both _ true (commands_formed r body y) refl)
    command_formed _ _ (if_else r test body other x y z) =
        formed_as _ _ _ (round_of r)
        (by_form _ _ (round_of r) (ap is_well_formed (sym (c.rolls-If test body (Some other))) ∙ fold-roll-Command (well.Round → Bool) well_formed_step (Command-F.If test body (Some other))))
        (one_fits r _ test x) (both _ _ (commands_formed r body y) (commands_formed r other z))
    command_formed _ _ (while_loop r test body x y) =
        formed_as _ _ _ (round_of r)
        (by_form _ _ (round_of r) (ap is_well_formed (sym (c.rolls-While test body)) ∙ fold-roll-Command (well.Round → Bool) well_formed_step (Command-F.While test body)))
        (one_fits r _ test x) (commands_formed (in_loop r) body y)
    command_formed _ _ (for_loop r test next body x y z) =
        formed_as _ _ _ (round_of r)
        (by_form _ _ (round_of r) (ap is_well_formed (sym (c.rolls-For test next body)) ∙ fold-roll-Command (well.Round → Bool) well_formed_step (Command-F.For test next body)))
        (test_fits r test x) (both _ _ (commands_formed (in_loop r) body z) (commands_formed r next y))
    command_formed _ _ (leave r e) =
        formed_as _ _ _ (round_of r)
        (by_form _ _ (round_of r) (ap is_well_formed (sym c.rolls-Break) ∙ fold-roll-Command (well.Round → Bool) well_formed_step Command-F.Break))
        refl e
    command_formed _ _ (go_on r e) =
        formed_as _ _ _ (round_of r)
        (by_form _ _ (round_of r) (ap is_well_formed (sym c.rolls-Continue) ∙ fold-roll-Command (well.Round → Bool) well_formed_step Command-F.Continue))
        refl e
    command_formed _ _ (give r value e x) =
        formed_as _ _ _ (round_of r)
        (by_form _ _ (round_of r) (ap is_well_formed (sym (c.rolls-Return value)) ∙ fold-roll-Command (well.Round → Bool) well_formed_step (Command-F.Return value)))
        (test_fits r value x) (ap not e)
    command_formed _ _ (do_finish r slot body x e y) =
        formed_as _ _ _ (round_of r)
        (by_form _ _ (round_of r) (ap is_well_formed (sym (c.rolls-Do slot body)) ∙ fold-roll-Command (well.Round → Bool) well_formed_step (Command-F.Do slot body)))
        refl (commands_formed (in_block slot r) body y)
    command_formed _ _ (start r uses body e n y) =
        formed_as _ _ _ (round_of r)
        (by_form _ _ (round_of r) (ap is_well_formed (sym (c.rolls-Async (length uses) body)) ∙ fold-roll-Command (well.Round → Bool) well_formed_step (Command-F.Async (length uses) body)))
        refl (both _ _ e (commands_formed (in_body uses r) body y))
    command_formed _ _ (cancel r level slot lt e) =
        formed_as _ _ _ (round_of r)
        (by_form _ _ (round_of r) (ap is_well_formed (sym (c.rolls-Cancel level slot)) ∙ fold-roll-Command (well.Round → Bool) well_formed_step (Command-F.Cancel level slot)))
        refl refl
    command_formed _ _ (yield r) =
        formed_as _ _ _ (round_of r)
        (by_form _ _ (round_of r) (ap is_well_formed (sym c.rolls-Yield) ∙ fold-roll-Command (well.Round → Bool) well_formed_step Command-F.Yield))
        refl refl

    commands_formed : (r : Round) (xs : List Command) → AreCommands program r xs → are_well_formed xs (round_of r) ≡ true
    commands_formed _ _ (no_command r) = refl
    commands_formed _ _ (one_command r x xs y ys) = both _ _ (command_formed r x y) (commands_formed r xs ys)

pub well_formed : (program : Resolved) → IsInPlace program → IsWellFormed program
well_formed program p = record { bodies = λ number f e. let own = p.functions number f e in commands_formed program (in_function _) f.body own.body }
