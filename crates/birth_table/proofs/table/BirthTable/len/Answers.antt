use Rattle.std.proofs.Common.{sym, ap, ◌∙◌, length, take}
use Rattle.birth_table.specs.Kept.{value_at}
use Rattle.birth_table.specs.Births.{Births}
use Rattle.birth_table.proofs.Items.{items_long}
use Rattle.birth_table.proofs.table.BirthTable.len.Goals as goal

pub returns : goal.returns
returns g c =
    let i = c.self.inside in
    sym (items_long (value_at (take i.ends.top i.slots.items) i.entries) i.births) ∙ ap (λ (b : Births g.row.T.Denot). length b.items) c.self.view_is
