use Rattle.std.proofs.Common.{◌≡◌, drop, false, [], None}
use Rattle.ac_lexer.specs.inner.Reading.{text_from}
use Rattle.ac_lexer.proofs.text.text_piece.Given as goal

abbrev pub invariant-bytes : goal.invariant-bytes
invariant-bytes l = text_from l.at l.i l.escaped l.bad l.value (drop l.i l.bytes) ≡ text_from l.at 0 false None [] l.bytes
