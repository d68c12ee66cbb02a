use Rattle.std.proofs.Common.{◌≡◌, ◌+◌, drop}
use Rattle.ac_lexer.specs.inner.Reading.{run}
use Rattle.ac_lexer.specs.Tokens.{not_feed}
use Rattle.ac_lexer.proofs.bytes.line_run.Given as goal

abbrev pub invariant-loop-i : goal.invariant-loop-i
invariant-loop-i l = l.i + run not_feed (drop l.i l.bytes) ≡ run not_feed l.bytes
