use Rattle.std.proofs.Common.{◌≡◌, sym, ap, ◌∙◌, arith, subst, List, take}
use Rattle.birth_table.specs.Births.{Births, item_at}
use Rattle.birth_table.specs.declared.index.Slot.{Slot}
use Rattle.birth_table.specs.Keys.{key_of, told}
use Rattle.birth_table.proofs.Steps.{item_is, under_key}
use Rattle.birth_table.proofs.table.BirthTable.get.Goals as goal

pub returns : goal.returns
returns g c =
    let i = c.self.inside in
    let xs = take i.ends.top i.slots.items in
    let key = c.key_near-key.result in
    let is : key_of xs c.args.number ≡ told (record { number = c.args.number; key = key }) =
    subst (λ (read : List Slot). key_of (take i.ends.top read) c.args.number ≡ told (record { number = c.args.number; key = key })) c.deref.ensures.value c.key_near-key.ensures in
    c.get.ensures ∙ under_key xs i.entries c.args.number key (omega (arith, c.if-prove.false, c.capacity.ensures.slots)) is
    ∙ sym (item_is xs i.entries i.births c.args.number c.self.invariant.rise) ∙ ap (λ (b : Births g.row.T.Denot). item_at b c.args.number) c.self.view_is
