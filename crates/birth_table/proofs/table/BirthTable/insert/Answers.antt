use Rattle.std.proofs.Common.{◌<◌, ◌+◌, ◌-◌, ◌++◌, ◌∷◌, [], ℕ, Some, sym, ap, ◌∙◌, arith, subst, List, length, take}
use Rattle.std.specs.Prelude.{vec_capacity}
use Rattle.birth_table.specs.Births.{Births}
use Rattle.birth_table.specs.declared.index.Slot.{Slot}
use Rattle.birth_table.specs.Kept.{value_at, items_of, IsKept}
use Rattle.birth_table.proofs.Items.{items_long}
use Rattle.birth_table.proofs.Standing.{kept_inserted, items_inserted}
use Rattle.birth_table.proofs.table.BirthTable.insert.Goals as goal

pub invariant_of-self : goal.invariant_of-self
invariant_of-self g c =
    let i = c.self.inside in
    let h = c.insert_reserved-key.ensures in
    let after = c.insert_reserved-key.new.self in
    let t : Slot = record { number = i.births; key = c.insert_reserved-key.result } in
    let none = ap (λ (b : Births g.row.T.Denot). b.left) c.self.view_is ∙ c.requires.left in
    let some : 0 < i.spare = subst (λ (b : Births g.row.T.Denot). 0 < b.spare) (sym c.self.view_is) c.requires.spare in
    let below : c.insert_reserved-key.result < 18446744073709551615 = omega (arith, c.if-prove.false, c.capacity.type_inv) in
    let kept = kept_inserted i.slots.items i.ends i.recent (vec_capacity i.slots) i.entries after i.births i.spare c.insert_reserved-key.result c.args.value c.self.invariant none
    below h.was_vacant h.updates some h.len h.capacity in
    let right = subst (λ (xs : List Slot). IsKept xs (record { top = i.ends.top + 1; gone = i.ends.gone }) t (vec_capacity i.slots) after (i.births + 1) (i.spare - 1))
    (sym c.put.ensures.items) kept in
    subst (λ (n : ℕ). IsKept c.put.new.slots.items (record { top = i.ends.top + 1; gone = i.ends.gone }) t n after (i.births + 1) (i.spare - 1)) (sym c.put.ensures.capacity) right

pub returns-clause-number : goal.returns-clause-number
returns-clause-number g c =
    let i = c.self.inside in
    sym (items_long (value_at (take i.ends.top i.slots.items) i.entries) i.births) ∙ ap (λ (b : Births g.row.T.Denot). length b.items) c.self.view_is

pub returns-clause-items : goal.returns-clause-items
returns-clause-items g c =
    let i = c.self.inside in
    let h = c.insert_reserved-key.ensures in
    let after = c.insert_reserved-key.new.self in
    let none = ap (λ (b : Births g.row.T.Denot). b.left) c.self.view_is ∙ c.requires.left in
    let below : c.insert_reserved-key.result < 18446744073709551615 = omega (arith, c.if-prove.false, c.capacity.type_inv) in
    ap (λ (xs : List Slot). items_of (value_at (take (i.ends.top + 1) xs) after) (i.births + 1)) c.put.ensures.items
    ∙ items_inserted i.slots.items i.ends i.recent (vec_capacity i.slots) i.entries after i.births i.spare c.insert_reserved-key.result c.args.value c.self.invariant none below
    h.was_vacant h.updates
    ∙ ap (λ (b : Births g.row.T.Denot). b.items ++ Some c.args.value ∷ []) c.self.view_is
