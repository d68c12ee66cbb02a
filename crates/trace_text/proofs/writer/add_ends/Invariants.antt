use Rattle.std.proofs.Common.{◌≡◌, ◌++◌, drop, take}
use Rattle.std.specs.Prelude.{All}
use Rattle.trace_text.specs.Text.{end_lines, joined}
use Rattle.trace_text.specs.Spelling.{IsEnd}
use Rattle.trace_text.proofs.writer.add_ends.Given as goal

abbrev pub invariant-loop-number : goal.invariant-loop-number
invariant-loop-number l = record {
  adds : l.text.items ++ joined (end_lines l.number (drop l.number l.ends)) ≡ l.fn.text.items ++ joined (end_lines 0 l.ends);
  fits : All IsEnd (take l.number l.ends);
}
