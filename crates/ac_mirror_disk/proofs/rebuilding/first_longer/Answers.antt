use Rattle.std.proofs.Common.{arith}
use Rattle.std.proofs.lemmas.Grind.{common_steps}
use Rattle.ac_mirror_disk.proofs.rebuilding.first_longer.Goals as goal

pub returns-then-others-file-clause-some : goal.returns-then-others-file-clause-some
returns-then-others-file-clause-some c = record {
  within = grind (arith, common_steps, c.loop-file-test.true);
  longer = grind (arith, common_steps, c.if-others-file.true);
  first = c.loop-file.invariant;
}
