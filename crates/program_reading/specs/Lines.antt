-- The lines of what refuses a call, and their statuses.
use Rattle.std.specs.Prelude.{ℕ, pos, List, [], ◌∷◌, ◌++◌, codes}
use Rattle.std.specs.Fmt.{decimal, signed_decimal}
use Rattle.program_reading.specs.declared.refusal.BrokenRule.{BrokenRule}
use Rattle.program_reading.specs.declared.refusal.Refusal.{Refusal}
use Rattle.program_reading.specs.declared.refusal.Refusal.TheVariants as r

abbrev pub library_line : List ℕ
library_line = codes "library fault" ++ 10 ∷ []

abbrev pub disk_line : List ℕ
disk_line = codes "disk fault" ++ 10 ∷ []

abbrev pub limit_source_line : List ℕ
limit_source_line = codes "limit: source" ++ 10 ∷ []

abbrev pub limit_trace_line : List ℕ
limit_trace_line = codes "limit: trace" ++ 10 ∷ []

abbrev pub limit_steps_line : List ℕ
limit_steps_line = codes "limit: steps" ++ 10 ∷ []

-- words and a place
abbrev pub place_line : List ℕ → ℕ → List ℕ
place_line words at = words ++ (decimal at ++ 10 ∷ [])

abbrev pub limit_file_line : ℕ → List ℕ
limit_file_line file = place_line (codes "limit: file ") file

abbrev pub rule_line : BrokenRule → List ℕ
rule_line rule = codes "rule C" ++ (signed_decimal (pos rule.rule) ++ (codes " at " ++ (signed_decimal (pos rule.at) ++ 10 ∷ [])))

-- the line of each refusal of a source
abbrev pub refusal_line : Refusal → List ℕ
refusal_line r.TooLong = limit_source_line
refusal_line (r.BadByte at) = place_line (codes "bad byte at ") at
refusal_line (r.NumberTooLarge at) = place_line (codes "number too large at ") at
refusal_line (r.OpenComment at) = place_line (codes "open comment at ") at
refusal_line (r.OpenText at) = place_line (codes "open text at ") at
refusal_line (r.Unexpected at) = place_line (codes "unexpected token at ") at
refusal_line (r.TooDeep at) = place_line (codes "limit: nesting at ") at
refusal_line (r.Broken rule) = rule_line rule
refusal_line r.TooManySteps = limit_steps_line

-- and its status
abbrev pub refusal_status : Refusal → ℕ
refusal_status r.TooLong = 10
refusal_status (r.BadByte at) = 2
refusal_status (r.NumberTooLarge at) = 2
refusal_status (r.OpenComment at) = 2
refusal_status (r.OpenText at) = 2
refusal_status (r.Unexpected at) = 2
refusal_status (r.TooDeep at) = 10
refusal_status (r.Broken rule) = 3
refusal_status r.TooManySteps = 10

-- a line of a text that tells no trace, counted from 1
abbrev pub trace_fault_line : ℕ → List ℕ
trace_fault_line line = place_line (codes "trace fault at line ") line

-- where a trace is no run: an entry, counted from 0, that may not come after those before it, or an end that is not that of the run
abbrev pub no_at_line : ℕ → List ℕ
no_at_line entry = place_line (codes "no at ") entry

abbrev pub no_at_end_line : List ℕ
no_at_end_line = codes "no at end" ++ 10 ∷ []
