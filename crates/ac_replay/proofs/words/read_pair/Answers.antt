use Rattle.std.proofs.Common.{arith}
use Rattle.std.proofs.lemmas.List.{length-map}
use Rattle.std.proofs.lemmas.Bool.Decides.{nat_tests}
use Rattle.ac_replay.proofs.Calls.{no_call_of_few, no_call_of_many}
use Rattle.ac_replay.proofs.words.read_pair.Goals as goal
use Rattle.ac_replay.proofs.words.read_pair.Goals.{in_default-via-then-words-lt2, in_default-via-else-words-lt2+else-words-lt3+else-words-lt4}

pub returns-in_default-clause-none : goal.returns-in_default-clause-none
returns-in_default-clause-none c = λ _. elim c.in_default.branch [
  | in_default-via-then-words-lt2 w ↦ no_call_of_few _ (simp length-map (grind (arith, nat_tests)))
  | in_default-via-else-words-lt2+else-words-lt3+else-words-lt4 w ↦ no_call_of_many _ (simp length-map (grind (arith, nat_tests)))
]
