use Rattle.std.proofs.Common.{arith}
use Rattle.std.proofs.lemmas.Grind.{common_steps}
use Rattle.ac_resolve.proofs.Rooms.{body_few}
use Rattle.ac_resolve.proofs.items.functions_in.Goals as goal

pub loop-item-preserved : goal.loop-item-preserved
loop-item-preserved c = (
  grind (arith, common_steps),
  grind (arith, common_steps),
  grind (arith, common_steps),
  grind (arith, common_steps),
  grind (arith, common_steps, body_few),
)
