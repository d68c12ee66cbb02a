-- The report of a run and the status of its cores.
use Rattle.std.specs.Prelude.{ℕ, ◌-◌, Bool, true, false, not, List, [], ◌∷◌, ◌++◌, length}
use Rattle.std.specs.Prelude.{slice_get, codes, Option, None, Some, ◌==◌, if◌then◌else◌}
use Rattle.std.specs.List.{list_any}
use Rattle.std.specs.Fmt.{decimal}
use Rattle.ac_base.specs.declared.ends.Trap.{Trap}
use Rattle.ac_base.specs.declared.ends.Trap.TheVariants.{ZeroDivisor, Index, StackFull, OutputFull, FileRange}
use Rattle.ac_base.specs.declared.ends.EndWord.{EndWord}
use Rattle.ac_base.specs.declared.ends.EndWord.TheVariants.{Finished, Trapped, OutOfSteps, Stalled}
use Rattle.ac_base.specs.declared.ends.MachineEnd.{MachineEnd}

abbrev pub trap_text : Trap → List ℕ
trap_text ZeroDivisor = codes "zero-divisor"
trap_text Index = codes "index"
trap_text StackFull = codes "stack-full"
trap_text OutputFull = codes "output-full"
trap_text FileRange = codes "file-range"

abbrev pub word_text : EndWord → List ℕ
word_text Finished = codes "finished"
word_text (Trapped trap) = trap_text trap
word_text OutOfSteps = codes "out-of-steps"
word_text Stalled = codes "stalled"

-- how the core ended, its steps and its instructions
abbrev pub ending_of : MachineEnd → List ℕ
ending_of end =
    codes ": " ++ word_text end.core.word ++ codes " after " ++ decimal end.core.steps ++ codes " steps, " ++ decimal end.instructions
    ++ codes " instructions" ++ 10 ∷ []

-- a core's line
abbrev pub line_of : List ℕ → MachineEnd → List ℕ
line_of name end = name ++ ending_of end

-- whether a last byte leaves its line open
abbrev pub is_open : Option ℕ → Bool
is_open None = false
is_open (Some b) = not (b == 10)

-- an output whose last line is ended
abbrev pub closed : List ℕ → List ℕ
closed bs = if is_open (slice_get bs (length bs - 1)) then bs ++ 10 ∷ [] else bs

-- for each core in order its line, and then its output
abbrev pub report_of : List (List ℕ) → List MachineEnd → List ℕ
report_of [] ends = []
report_of (name ∷ names) [] = []
report_of (name ∷ names) (end ∷ ends) = (line_of name end ++ closed end.core.output) ++ report_of names ends

abbrev pub is_trapped : EndWord → Bool
is_trapped (Trapped trap) = true
is_trapped _ = false

abbrev pub is_out_of_steps : EndWord → Bool
is_out_of_steps OutOfSteps = true
is_out_of_steps _ = false

abbrev pub is_stalled : EndWord → Bool
is_stalled Stalled = true
is_stalled _ = false

abbrev pub any_ends : (EndWord → Bool) → List MachineEnd → Bool
any_ends p ends = list_any (λ end. p end.core.word) ends

-- 4 where a core trapped, else 6 where one is out of steps, else 5 where one is stalled, else 0
abbrev pub status_of : List MachineEnd → ℕ
status_of ends = if any_ends is_trapped ends then 4
    else (if any_ends is_out_of_steps ends then 6 else (if any_ends is_stalled ends then 5 else 0))
