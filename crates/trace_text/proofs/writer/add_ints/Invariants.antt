use Rattle.std.proofs.Common.{◌≡◌, ◌++◌, drop, take}
use Rattle.std.specs.Prelude.{All}
use Rattle.trace_text.specs.Text.{ints_text}
use Rattle.trace_text.specs.Spelling.{IsValue}
use Rattle.trace_text.proofs.writer.add_ints.Given as goal

abbrev pub invariant-loop-int : goal.invariant-loop-int
invariant-loop-int l = record {
  adds : l.text.items ++ ints_text (drop l.int-index l.ints) ≡ l.fn.text.items ++ ints_text l.ints;
  fits : All IsValue (take l.int-index l.ints);
}
