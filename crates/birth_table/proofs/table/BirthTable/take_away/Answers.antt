use Rattle.std.proofs.Common.{None, set, ap, ◌∙◌}
use Rattle.std.specs.Prelude.{vec_capacity}
use Rattle.birth_table.specs.Births.{Births}
use Rattle.birth_table.proofs.Ending.{has_life, items_ended}
use Rattle.birth_table.proofs.table.BirthTable.take_away.Goals as goal

pub take_away-self-inside-requires-clause-alive : goal.take_away-self-inside-requires-clause-alive
take_away-self-inside-requires-clause-alive g c =
    let i = c.self.inside in
    (has_life i.slots.items i.ends i.recent (vec_capacity i.slots) i.entries i.births i.spare c.args.number c.self.invariant c.args.self.now c.self.view_is c.requires).0

pub returns-clause-items : goal.returns-clause-items
returns-clause-items g c =
    let i = c.self.inside in
    let t = c.take_away-self-inside in
    let given = (has_life i.slots.items i.ends i.recent (vec_capacity i.slots) i.entries i.births i.spare c.args.number c.self.invariant c.args.self.now c.self.view_is c.requires).1 in
    items_ended i.slots.items i.ends i.recent (vec_capacity i.slots) i.entries i.births i.spare c.args.number c.self.invariant t.new.slots.items t.result t.new.entries t.ensures.without
    t.ensures.shrinks given
    ∙ ap (λ (b : Births g.row.T.Denot). set b.items c.args.number None) c.self.view_is
