use Rattle.std.proofs.Common.{◌≡◌, ◌+◌, drop, false}
use Rattle.std.specs.Prelude.{option_map}
use Rattle.ac_lexer.specs.inner.Reading.{block_end}
use Rattle.ac_lexer.proofs.bytes.comment_len.Given as goal

abbrev pub invariant-loop-i : goal.invariant-loop-i
invariant-loop-i l = option_map (λ n. l.i + n) (block_end l.star (drop l.i l.bytes)) ≡ block_end false l.bytes
