use Rattle.std.proofs.Common.{◌≡◌, ◌+◌, ◌-◌, ◌≤◌, List, None, length, take, set, sym, ap, ◌∙◌, subst, arith}
use Rattle.std.specs.Prelude.{vec_capacity}
use Rattle.birth_table.specs.Births.{Births}
use Rattle.birth_table.specs.declared.index.Slot.{Slot}
use Rattle.birth_table.specs.Keys.{Tells}
use Rattle.birth_table.specs.inner.Slots.{IsRising}
use Rattle.birth_table.proofs.Ending.{some_top, read_there, has_life, still_rises, kept_last, items_last}
use Rattle.birth_table.proofs.table.BirthTable.give_back.Goals as goal

pub overflow_sub-last : goal.overflow_sub-last
overflow_sub-last g c =
    let i = c.self.inside in
    let life = has_life i.slots.items i.ends i.recent (vec_capacity i.slots) i.entries i.births i.spare c.args.number c.self.invariant c.args.self.now c.self.view_is c.requires in
    omega (arith, some_top i.slots.items i.ends.top c.args.number life.0)

pub index-requires : goal.index-requires
index-requires g c =
    let i = c.self.inside in
    let life = has_life i.slots.items i.ends i.recent (vec_capacity i.slots) i.entries i.births i.spare c.args.number c.self.invariant c.args.self.now c.self.view_is c.requires in
    omega (arith, some_top i.slots.items i.ends.top c.args.number life.0, c.self.invariant.ends_are.within, i.slots.ok.0)

pub last_slot-self-inside-requires : goal.last_slot-self-inside-requires
last_slot-self-inside-requires g c =
    let i = c.self.inside in
    let slots = i.slots.items in
    let last = i.ends.top - 1 in
    let life = has_life slots i.ends i.recent (vec_capacity i.slots) i.entries i.births i.spare c.args.number c.self.invariant c.args.self.now c.self.view_is c.requires in
    let some = some_top slots i.ends.top c.args.number life.0 in
    let is : last + 1 ≡ i.ends.top = omega (arith, some) in
    let its = ap (λ (s : Slot). s.number) (read_there slots last c.index.result.now (omega (arith, some, c.self.invariant.ends_are.within)) c.index.ensures) ∙ c.if-index-number.false in
    subst (λ (xs : List Slot). IsRising (take last xs)) (sym c.deref.ensures.value)
    (still_rises slots i.ends i.recent (vec_capacity i.slots) i.entries i.births i.spare c.args.number c.self.invariant last is its life.0)

pub invariant_of-self : goal.invariant_of-self
invariant_of-self g c =
    let i = c.self.inside in
    let slots = i.slots.items in
    let last = i.ends.top - 1 in
    let seen = c.last_slot-self-inside.result in
    let life = has_life slots i.ends i.recent (vec_capacity i.slots) i.entries i.births i.spare c.args.number c.self.invariant c.args.self.now c.self.view_is c.requires in
    let some = some_top slots i.ends.top c.args.number life.0 in
    let is : last + 1 ≡ i.ends.top = omega (arith, some) in
    let its = ap (λ (s : Slot). s.number) (read_there slots last c.index.result.now (omega (arith, some, c.self.invariant.ends_are.within)) c.index.ensures) ∙ c.if-index-number.false in
    let left : length slots ≤ last + 256 = omega (arith, c.if-len-last.false, c.len.ensures, i.slots.ok.0) in
    let tells : Tells (take last slots) seen = subst (λ (xs : List Slot). Tells (take last xs) seen) c.deref.ensures.value c.last_slot-self-inside.ensures in
    kept_last slots i.ends i.recent (vec_capacity i.slots) i.entries i.births i.spare c.args.number c.self.invariant last is its life.0 seen left
    (omega (arith, c.if-self-gt-SPARE_SLOTS.false)) tells

pub returns-clause-items : goal.returns-clause-items
returns-clause-items g c =
    let i = c.self.inside in
    let slots = i.slots.items in
    let last = i.ends.top - 1 in
    let life = has_life slots i.ends i.recent (vec_capacity i.slots) i.entries i.births i.spare c.args.number c.self.invariant c.args.self.now c.self.view_is c.requires in
    let some = some_top slots i.ends.top c.args.number life.0 in
    let is : last + 1 ≡ i.ends.top = omega (arith, some) in
    let its = ap (λ (s : Slot). s.number) (read_there slots last c.index.result.now (omega (arith, some, c.self.invariant.ends_are.within)) c.index.ensures) ∙ c.if-index-number.false in
    items_last slots i.ends i.recent (vec_capacity i.slots) i.entries i.births i.spare c.args.number c.self.invariant last is its life.0 life.1
    ∙ ap (λ (b : Births g.row.T.Denot). set b.items c.args.number None) c.self.view_is
