use Rattle.std.proofs.Common.{rules, length, ◌-◌}
use Rattle.request_ends.proofs.Skipping.{skips_one}
use Rattle.request_ends.proofs.marks.Marks.skip.Goals as goal

pub loop-self-preserved : goal.loop-self-preserved
loop-self-preserved c = skips_one _ (record { list = c.loop-self.self-inside.list.items; places = c.loop-self.self-inside.list.cap - length c.loop-self.self-inside.list.items }) _
    c.loop-self.invariant (search rules) (search rules)
