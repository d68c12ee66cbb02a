-- The lines that the program writes beside those of refusals: of usage, of a check and of an audit.
use Rattle.std.specs.Prelude.{ℕ, List, [], ◌∷◌, ◌++◌, codes}
use Rattle.trace_audit.specs.declared.verdict.Verdict.{Verdict}
use Rattle.trace_audit.specs.declared.verdict.Verdict.TheVariants.{Yes, NoAt, NoAtEnd}
use Rattle.program_reading.specs.Lines.{no_at_line, no_at_end_line}

abbrev pub usage_line : List ℕ
usage_line = codes "usage: ac run|trace FILE [--steps N], ac code|check FILE, ac audit FILE TRACE, ac load N [--steps N]" ++ 10 ∷ []

abbrev pub accepted_line : List ℕ
accepted_line = codes "accepted" ++ 10 ∷ []

-- the line of each verdict on a trace; an entry is counted from 0
abbrev pub verdict_line : Verdict → List ℕ
verdict_line Yes = codes "yes" ++ 10 ∷ []
verdict_line (NoAt entry) = no_at_line entry
verdict_line NoAtEnd = no_at_end_line

-- and its status
abbrev pub verdict_status : Verdict → ℕ
verdict_status Yes = 0
verdict_status (NoAt entry) = 13
verdict_status NoAtEnd = 13
