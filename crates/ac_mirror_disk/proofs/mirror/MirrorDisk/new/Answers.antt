-- No file is bound, and both sides are in use.
use Rattle.std.proofs.Common.{arith}
use Rattle.std.proofs.lemmas.Grind.{common_steps}
use Rattle.ac_mirror_disk.proofs.mirror.MirrorDisk.new.Goals as goal

pub invariant_of-result : goal.invariant_of-result
invariant_of-result g c = record {
  few = grind (arith, common_steps);
  ready = λ _. record {
    some = grind (arith, common_steps);
    differ = grind (arith, common_steps);
    on_a = grind (arith, common_steps);
    on_b = grind (arith, common_steps);
    equal = grind (arith, common_steps);
    alike = grind (arith, common_steps);
    first = grind (arith, common_steps);
    second = grind (arith, common_steps);
  };
}
