-- What a trace tells of the ends of the cores, against those ends.
use Rattle.std.specs.Prelude.{◌≡◌, ℕ, List, length, slice_get, Some, Bool, true, ◌&&◌, ◌==◌}
use Rattle.std.specs.Str.{bytes_eq}
use Rattle.ac_base.specs.declared.ends.EndWord.{EndWord}
use Rattle.ac_base.specs.declared.ends.EndWord.TheVariants.{Finished, Trapped, OutOfSteps, Stalled}
use Rattle.ac_base.specs.declared.ends.Trap.{Trap}
use Rattle.ac_base.specs.declared.ends.Trap.TheVariants.{ZeroDivisor, Index, StackFull, OutputFull, FileRange}
use Rattle.ac_base.specs.declared.ends.CoreEnd.{CoreEnd}
use Rattle.trace_text.specs.declared.trace.TraceEnd.{TraceEnd}

abbrev pub trap_number : Trap → ℕ
trap_number ZeroDivisor = 3
trap_number Index = 4
trap_number StackFull = 5
trap_number OutputFull = 6
trap_number FileRange = 7

-- a number for each word
abbrev pub word_number : EndWord → ℕ
word_number Finished = 0
word_number OutOfSteps = 1
word_number Stalled = 2
word_number (Trapped trap) = trap_number trap

abbrev pub is_told : TraceEnd → CoreEnd → Bool
is_told told end = (word_number told.word == word_number end.word) && ((told.steps == end.steps) && bytes_eq told.output end.output)

-- there are as many, and the trace tells each
pub record AreTold (told : List TraceEnd) (ends : List CoreEnd) : Type 0 where
  pub count : length told ≡ length ends
  pub each : (k : ℕ) (t : TraceEnd) (end : CoreEnd) → slice_get told k ≡ Some t → slice_get ends k ≡ Some end → is_told t end ≡ true
