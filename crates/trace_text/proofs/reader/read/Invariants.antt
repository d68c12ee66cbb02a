use Rattle.std.proofs.Common.{◌≡◌, ◌+◌, ◌-◌, ◌≤◌, length, drop}
use Rattle.trace_text.specs.inner.Reading.{lines_of, read_lines, read_text}
use Rattle.trace_text.proofs.reader.read.Given as goal

abbrev pub invariant-lines : goal.invariant-lines
invariant-lines l = record {
  same : read_lines l.line l.so_far (lines_of (drop l.at l.text)).0 (lines_of (drop l.at l.text)).1 ≡ read_text l.text;
  within : l.at ≤ length l.text;
  counted : l.line ≤ l.at + 1;
}

abbrev pub decreases-lines : goal.decreases-lines
decreases-lines l = length l.text - l.at
