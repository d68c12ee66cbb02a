use Rattle.std.proofs.Common.{◌≡◌, ◌++◌, drop}
use Rattle.ac_base.specs.Hexadecimal.{hex_digits}
use Rattle.ac_base.proofs.hexadecimal.hex.Given as goal

abbrev pub invariant-loop-byte : goal.invariant-loop-byte
invariant-loop-byte l = l.text ++ hex_digits (drop l.byte-index l.bytes) ≡ hex_digits l.bytes
