use Rattle.std.proofs.Common.{◌↔◌, ℕ, List, [], map, drop, string_bytes, Option, None}
use Rattle.ac_words.specs.inner.Scanning.{CompletesAny, Completes}
use Rattle.ac_words.proofs.scan.read_arguments.Given as goal

-- the words that are left decide
abbrev pub invariant-loop-word : goal.invariant-loop-word
invariant-loop-word l = (operands : List (List ℕ)) (given : Option ℕ) → CompletesAny [] None (map string_bytes l.words) operands given ↔ Completes l.scan (map string_bytes
    (drop l.word-index l.words)) operands given
