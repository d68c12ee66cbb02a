use Rattle.std.proofs.Common.{◌≡◌, ◌++◌, drop, take}
use Rattle.ac_base.specs.Hexadecimal.{hex_digits}
use Rattle.std.specs.Prelude.{◌<◌, All}
use Rattle.trace_text.proofs.writer.add_digits.Given as goal

abbrev pub invariant-loop-byte : goal.invariant-loop-byte
invariant-loop-byte l = record {
  adds : l.text.items ++ hex_digits (drop l.byte-index l.bytes) ≡ l.fn.text.items ++ hex_digits l.bytes;
  fits : All (λ b. b < 256) (take l.byte-index l.bytes);
}
