-- What adding lines behind a text gives.
use Rattle.std.specs.Prelude.{◌≡◌, ℕ, ◌<◌, List, ◌++◌, length, Result, Ok, Err}
use Rattle.trace_text.specs.declared.faults.WriteFault.{WriteFault}
use Rattle.trace_text.specs.declared.faults.WriteFault.TheVariants as w
use Rattle.trace_text.specs.Outcomes.{trace_limit}

-- more stands behind the text that was there, or the two are too long together, unless memory ran out
abbrev pub Adds : List ℕ → List ℕ → List ℕ → Result (Unit {0}) WriteFault → Type 0
Adds old new more (Ok _) = new ≡ old ++ more
Adds old new more (Err w.TooLong) = trace_limit < length (old ++ more)
Adds old new more (Err w.NoMemory) = Unit {0}
