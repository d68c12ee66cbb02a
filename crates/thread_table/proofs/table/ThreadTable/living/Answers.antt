use Rattle.std.proofs.Common.{◌+◌, ◌<◌, ◌^◌, ap, ◌∙◌, subst}
use Rattle.thread_table.specs.Table.{Table}
use Rattle.thread_table.proofs.Handed.{count_living}
use Rattle.thread_table.proofs.table.ThreadTable.living.Goals as goal

pub returns-clause-number : goal.returns-clause-number
returns-clause-number c =
    c.living.ensures.number
    ∙ count_living c.self.inside.parked.items c.self.inside.handed c.args.self.now.lives (ap (λ (t : Table). t.lives) c.self.view_is)

pub returns-clause-few : goal.returns-clause-few
returns-clause-few c = subst (λ (t : Table). c.living.result + t.spare < 2 ^ 64) c.self.view_is c.living.ensures.few
