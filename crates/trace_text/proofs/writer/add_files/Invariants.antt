use Rattle.std.proofs.Common.{◌≡◌, ◌++◌, drop, take}
use Rattle.std.specs.Prelude.{All}
use Rattle.trace_text.specs.Text.{file_lines, joined}
use Rattle.trace_text.specs.Spelling.{AreBytes}
use Rattle.trace_text.proofs.writer.add_files.Given as goal

abbrev pub invariant-loop-number : goal.invariant-loop-number
invariant-loop-number l = record {
  adds : l.text.items ++ joined (file_lines l.number (drop l.number l.files)) ≡ l.fn.text.items ++ joined (file_lines 0 l.files);
  fits : All AreBytes (take l.number l.files);
}
