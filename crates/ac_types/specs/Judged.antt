-- The rules that each form of node is judged by, with whether it breaks them.
use Rattle.std.specs.Prelude.{ℕ, ℤ, pos, negsuc, ◌+◌, List, [], ◌∷◌, Option, Some, None}
use Rattle.std.specs.Prelude.{Bool, true, false, not, nat_eq, nat_le, if◌then◌else◌}
use Rattle.ac_types.specs.declared.around.Around.{Around}
use Rattle.ac_types.specs.declared.around.Position.{Position}
use Rattle.ac_types.specs.declared.around.Position.TheVariants as p
use Rattle.ac_types.specs.declared.rule.Rule.{Rule}
use Rattle.ac_types.specs.declared.rule.Rule.TheVariants as rule
use Rattle.ac_names.specs.declared.kind.NameKind.TheVariants as k
use Rattle.ac_names.specs.declared.meaning.Meaning.{Meaning}
use Rattle.ac_types.specs.declared.numbered.Callee.{Callee}
use Rattle.ac_types.specs.declared.numbered.Ends.{Ends}
use Rattle.ac_reach.specs.declared.reached.Reached.{Reached}
use Rattle.ac_names.specs.Kinds.{is_other, is_undeclared, is_declared, either, both}
use Rattle.ac_types.specs.Around.{is_array_position, is_used, is_closed, is_reached_by_another}

abbrev pub Tests : Type 0
Tests = List (Rule × Bool)

-- Of two names of one node one is not declared. That node breaks the rule on undeclared names and none that asks what its
-- names are.
abbrev pub lacks_one : Option Meaning → Option Meaning → Bool
lacks_one one other = either (is_undeclared one) (is_undeclared other)

-- ---- expressions

-- what is no name: no argument for an array parameter
abbrev pub value_tests : Position → Tests
value_tests position = (rule.NameFitsItsPlace, is_array_position position) ∷ []

-- a name at its position
abbrev pub is_misplaced : Option Meaning → Position → Bool
is_misplaced meaning p.Array = is_other k.Array meaning
is_misplaced meaning p.Message = both (is_other k.Int meaning) (is_other k.Array meaning)
is_misplaced meaning _ = is_other k.Int meaning

abbrev pub name_tests : Option Meaning → Position → Tests
name_tests meaning position = (rule.NameIsDeclared, is_undeclared meaning) ∷ (rule.NameFitsItsPlace, is_misplaced meaning position) ∷ []

abbrev pub index_tests : Option Meaning → Position → Tests
index_tests meaning position =
    (rule.NameIsDeclared, is_undeclared meaning)
    ∷ (rule.NameFitsItsPlace, either (is_other k.Array meaning) (is_array_position position)) ∷ []

abbrev pub is_miscounted : Option Callee → ℕ → Bool
is_miscounted None args = false
is_miscounted (Some f) args = not (nat_eq f.params args)

abbrev pub calls_async : Option Callee → Around → Bool
calls_async None a = false
calls_async (Some f) a = both f.is_async (not a.is_async)

abbrev pub uses_void : Option Callee → Position → Bool
uses_void None position = false
uses_void (Some f) position = both (not f.gives_int) (is_used position)

-- a call of what the name means, with that many arguments
abbrev pub call_tests : Option Meaning → Option Callee → ℕ → Around → Position → Tests
call_tests meaning f args a position =
    (rule.NameIsDeclared, is_undeclared meaning)
    ∷ (rule.ArgumentsMatchParameters, is_miscounted f args)
    ∷ (rule.NameFitsItsPlace, either (is_other k.Function meaning) (is_array_position position))
    ∷ (rule.AsyncIsCalledInAsync, calls_async f a)
    ∷ (rule.ValueFitsFunction, uses_void f position) ∷ []

abbrev pub sends_away : Reached → Option Ends → Bool
sends_away reached None = false
sends_away reached (Some e) = is_reached_by_another reached e.from

abbrev pub takes_away : Reached → Option Ends → Bool
takes_away reached None = false
takes_away reached (Some e) = is_reached_by_another reached e.to

-- a Send or a Recv, by whether it names another number of ints than a message of its channel has, and whether a core reaches
-- it that is not that end
abbrev pub channel_tests : Option Meaning → Bool → Bool → Around → Position → Tests
channel_tests meaning unlike away a position =
    (rule.NameIsDeclared, is_undeclared meaning)
    ∷ (rule.NameFitsItsPlace, either (is_other k.Channel meaning) (either unlike (is_array_position position)))
    ∷ (rule.StandsInAsyncFunction, not a.is_async)
    ∷ (rule.OnlyItsEndUsesChannel, away) ∷ []

-- a Read or a Write
abbrev pub file_tests : Option Meaning → Option Meaning → Around → Position → Tests
file_tests file array a position =
    (rule.NameIsDeclared, lacks_one file array)
    ∷ (
      rule.NameFitsItsPlace,
      either (both (not (lacks_one file array)) (either (is_other k.File file) (is_other k.Array array)))
          (is_array_position position),
    )
    ∷ (rule.StandsInAsyncFunction, not a.is_async) ∷ []

-- ---- statements

-- a declaration, by what its name means in its scope before it
abbrev pub once_tests : Option Meaning → Tests
once_tests before = (rule.DeclaredOnce, is_declared before) ∷ []

-- the elements of an array
abbrev pub is_size : ℤ → Bool
is_size (pos n) = both (nat_le 1 n) (nat_le n 4096)
is_size (negsuc n) = false

abbrev pub array_tests : Option Meaning → ℤ → Tests
array_tests before size = (rule.DeclaredOnce, is_declared before) ∷ (rule.ArraySizeIsAllowed, not (is_size size)) ∷ []

-- the number of `%d` and `%c` from a place on, after so many, or none where a `%` begins nothing; by whether a `%` is before
abbrev pub holes : Bool → ℕ → List ℕ → Option ℕ
holes true count [] = None
holes false count [] = Some count
holes false count (b ∷ bs) = if nat_eq b 37 then holes true count bs else holes false count bs
holes true count (b ∷ bs) =
    if nat_eq b 100 then holes false (count + 1) bs
    else (if nat_eq b 99 then holes false (count + 1) bs
    else (if nat_eq b 37 then holes false count bs else None))

abbrev pub is_misprinted : Option ℕ → ℕ → Bool
is_misprinted None args = true
is_misprinted (Some count) args = not (nat_eq count args)

abbrev pub print_tests : List ℕ → ℕ → Tests
print_tests format args = (rule.FormatFitsArguments, is_misprinted (holes false 0 format) args) ∷ []

abbrev pub leave_tests : Around → Tests
leave_tests a = (rule.JumpStaysInside, not a.in_loop) ∷ []

abbrev pub differs : Bool → Bool → Bool
differs true b = not b
differs false b = b

abbrev pub return_tests : Around → Bool → Tests
return_tests a gives = (rule.JumpStaysInside, is_closed a) ∷ (rule.ValueFitsFunction, differs a.gives_int gives) ∷ []

abbrev pub async_tests : Around → Tests
async_tests a = (rule.StandsInAsyncFunction, not a.is_async) ∷ []

abbrev pub body_tests : Around → Tests
body_tests a = (rule.StandsInAsyncFunction, not a.is_async) ∷ (rule.AsyncStandsInDo, not a.in_do) ∷ []

abbrev pub cancel_tests : Option Meaning → Around → Tests
cancel_tests label a = (rule.StandsInAsyncFunction, not a.is_async) ∷ (rule.CancelStandsInItsDo, is_undeclared label) ∷ []
