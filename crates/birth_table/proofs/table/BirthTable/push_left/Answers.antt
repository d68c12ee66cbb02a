use Rattle.std.proofs.Common.{◌<◌, ◌++◌, ◌∷◌, [], sym, ap, ◌∙◌, subst, IsSome, length, take}
use Rattle.std.specs.Prelude.{vec_capacity}
use Rattle.birth_table.specs.Births.{Births}
use Rattle.birth_table.specs.Kept.{value_at}
use Rattle.birth_table.proofs.Items.{items_long}
use Rattle.birth_table.proofs.Standing.{kept_revived, items_revived}
use Rattle.birth_table.proofs.table.BirthTable.push_left.Goals as goal

pub invariant_of-self : goal.invariant_of-self
invariant_of-self g c =
    let i = c.self.inside in
    let some = subst (λ (b : Births g.row.T.Denot). IsSome b.left) (sym c.self.view_is) c.requires.left in
    let room : 0 < i.spare = subst (λ (b : Births g.row.T.Denot). 0 < b.spare) (sym c.self.view_is) c.requires.spare in
    kept_revived i.slots.items i.ends i.recent c.index_mut-slot.result.now (vec_capacity i.slots) i.entries i.births i.spare c.self.invariant some c.index_mut-slot.ensures.value room

pub returns-clause-number : goal.returns-clause-number
returns-clause-number g c =
    let i = c.self.inside in
    sym (items_long (value_at (take i.ends.top i.slots.items) i.entries) i.births) ∙ ap (λ (b : Births g.row.T.Denot). length b.items) c.self.view_is

pub returns-clause-items : goal.returns-clause-items
returns-clause-items g c =
    let i = c.self.inside in
    let some = subst (λ (b : Births g.row.T.Denot). IsSome b.left) (sym c.self.view_is) c.requires.left in
    items_revived i.slots.items i.ends i.recent c.index_mut-slot.result.now (vec_capacity i.slots) i.entries i.births i.spare c.self.invariant some c.index_mut-slot.ensures.value
    ∙ ap (λ (b : Births g.row.T.Denot). b.items ++ b.left ∷ []) c.self.view_is
