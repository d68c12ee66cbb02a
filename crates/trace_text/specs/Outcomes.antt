-- What writing and reading a trace give.
use Rattle.std.specs.Prelude.{◌≡◌, ℕ, ◌<◌, ◌≤◌, List, length, Result, Ok, Err}
use Rattle.trace_text.specs.declared.trace.Trace.{Trace}
use Rattle.trace_text.specs.declared.faults.WriteFault.{WriteFault}
use Rattle.trace_text.specs.declared.faults.WriteFault.TheVariants as w
use Rattle.trace_text.specs.declared.faults.TraceFault.{TraceFault}
use Rattle.trace_text.specs.declared.faults.TraceFault.TheVariants as fault
use Rattle.trace_text.specs.Text.{trace_text}
use Rattle.trace_text.specs.Spelling.{IsTheTrace, IsFirstWrong}

-- the greatest length of a text, in bytes
abbrev pub trace_limit : ℕ
trace_limit = 268435456

-- the trace's text where it is within the limit, unless memory ran out
abbrev pub Writes : Trace → Result (List ℕ) WriteFault → Type 0
Writes trace (Ok text) = (text ≡ trace_text trace) × (length text ≤ trace_limit)
Writes trace (Err w.TooLong) = trace_limit < length (trace_text trace)
Writes trace (Err w.NoMemory) = Unit {0}

-- the trace that the text spells, or its first wrong line, unless memory ran out
abbrev pub Reads : List ℕ → Result Trace TraceFault → Type 0
Reads text (Ok trace) = IsTheTrace text trace
Reads text (Err (fault.Line line)) = IsFirstWrong text line
Reads text (Err fault.NoMemory) = Unit {0}
