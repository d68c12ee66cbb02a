use Rattle.std.proofs.Common.{◌≡◌, ◌+◌, drop}
use Rattle.ac_lexer.specs.inner.Reading.{run}
use Rattle.ac_lexer.specs.Spelling.{is_digit}
use Rattle.ac_lexer.proofs.bytes.digit_run.Given as goal

abbrev pub invariant-loop-i : goal.invariant-loop-i
invariant-loop-i l = l.i + run is_digit (drop l.i l.bytes) ≡ run is_digit l.bytes
