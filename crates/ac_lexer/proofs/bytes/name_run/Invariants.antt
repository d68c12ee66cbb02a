use Rattle.std.proofs.Common.{◌≡◌, ◌+◌, drop}
use Rattle.ac_lexer.specs.inner.Reading.{run}
use Rattle.ac_lexer.specs.Spelling.{is_name}
use Rattle.ac_lexer.proofs.bytes.name_run.Given as goal

abbrev pub invariant-loop-i : goal.invariant-loop-i
invariant-loop-i l = l.i + run is_name (drop l.i l.bytes) ≡ run is_name l.bytes
