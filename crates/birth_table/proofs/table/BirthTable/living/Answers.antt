use Rattle.std.proofs.Common.{◌+◌, ◌-◌, ◌<◌, ◌^◌, ap, ◌∙◌, subst, count_by, is_some}
use Rattle.birth_table.specs.Births.{Births}
use Rattle.birth_table.proofs.Living.{many_live, few_live}
use Rattle.birth_table.proofs.table.BirthTable.living.Goals as goal

pub returns-clause-number : goal.returns-clause-number
returns-clause-number g c =
    let i = c.self.inside in
    many_live i.slots.items i.ends i.recent _ i.entries i.births i.spare c.self.invariant ∙ ap (λ (b : Births g.row.T.Denot). count_by is_some b.items) c.self.view_is

pub returns-clause-few : goal.returns-clause-few
returns-clause-few g c =
    let i = c.self.inside in
    subst (λ (b : Births g.row.T.Denot). (i.ends.top - i.ends.gone) + b.spare < 2 ^ 64) c.self.view_is
    (few_live i.slots.items i.ends i.recent _ i.entries i.births i.spare c.self.invariant)
