use Rattle.std.proofs.Common.{◌≡◌, ◌<◌, ◌^◌, drop}
use Rattle.ac_lexer.specs.Spelling.{value_of}
use Rattle.ac_lexer.proofs.bytes.number.Given as goal

abbrev pub invariant-loop-b : goal.invariant-loop-b
invariant-loop-b l = record { same : value_of l.n (drop l.b-index l.bytes) ≡ value_of 0 l.bytes; fits : l.n < 2 ^ 63 }
