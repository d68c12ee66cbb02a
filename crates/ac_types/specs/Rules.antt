-- The numbers of the rules, and the order of the pairs of a node and a rule.
use Rattle.std.specs.Prelude.{◌≡◌, ℕ, ◌<◌, ◌≤◌, ◌⊎◌}
use Rattle.ac_types.specs.declared.rule.Rule.{Rule}
use Rattle.ac_types.specs.declared.rule.Rule.TheVariants as r

abbrev pub rule_number : Rule → ℕ
rule_number r.DeclaredOnce = 1
rule_number r.NameIsDeclared = 2
rule_number r.ArgumentsMatchParameters = 3
rule_number r.NameFitsItsPlace = 4
rule_number r.AsyncIsCalledInAsync = 5
rule_number r.StandsInAsyncFunction = 6
rule_number r.AsyncStandsInDo = 7
rule_number r.CancelStandsInItsDo = 8
rule_number r.JumpStaysInside = 9
rule_number r.EntryIsAsyncWithoutParameters = 10
rule_number r.OnlyItsEndUsesChannel = 11
rule_number r.ValueFitsFunction = 12
rule_number r.ArraySizeIsAllowed = 13
rule_number r.ChannelIsAllowed = 14
rule_number r.NumberOfCoresIsAllowed = 15
rule_number r.FormatFitsArguments = 16
rule_number r.FileIsAllowed = 17

-- a pair of a node's number and a rule's is another, or comes before it
abbrev pub IsUpTo : ℕ → ℕ → ℕ → ℕ → Type 0
IsUpTo number rule n r = (number < n) ⊎ ((number ≡ n) × (rule ≤ r))
