use Rattle.std.proofs.Common.{◌+◌, sym, subst, List, take}
use Rattle.birth_table.specs.declared.index.Slot.{Slot}
use Rattle.birth_table.specs.Kept.{AreBelow}
use Rattle.birth_table.specs.inner.Slots.{IsWithout}
use Rattle.birth_table.proofs.Going.{place_is, last_goes, older_goes}
use Rattle.birth_table.proofs.leaving.unlist.Goals as goal

pub returns-then-place-ends-clause-ends : goal.returns-then-place-ends-clause-ends
returns-then-place-ends-clause-ends g c =
    let at = place_is c.args.slots.now.items c.deref.result.now c.args.ends.top c.args.number c.unwrap-place.result c.place_of.result c.place_of.ensures.found c.unwrap-place.ensures
    c.deref.ensures.value in
    (last_goes c.args.slots.now.items c.args.ends c.unwrap-place.result c.args.number c.requires.ends c.if-place-ends.true c.requires.rising at c.requires.alive).1

pub returns-then-place-ends-clause-without : goal.returns-then-place-ends-clause-without
returns-then-place-ends-clause-without g c =
    let at = place_is c.args.slots.now.items c.deref.result.now c.args.ends.top c.args.number c.unwrap-place.result c.place_of.result c.place_of.ensures.found c.unwrap-place.ensures
    c.deref.ensures.value in
    (last_goes c.args.slots.now.items c.args.ends c.unwrap-place.result c.args.number c.requires.ends c.if-place-ends.true c.requires.rising at c.requires.alive).0

pub empty-requires-clause-lives : goal.empty-requires-clause-lives
empty-requires-clause-lives g c =
    let at = place_is c.args.slots.now.items c.deref.result.now c.args.ends.top c.args.number c.unwrap-place.result c.place_of.result c.place_of.ensures.found c.unwrap-place.ensures
    c.deref.ensures.value in
    (older_goes c.args.slots.now.items c.args.ends c.unwrap-place.result c.args.number c.requires.ends c.requires.rising at c.requires.alive).0

pub returns-clause-ends : goal.returns-clause-ends
returns-clause-ends g c =
    let at = place_is c.args.slots.now.items c.deref.result.now c.args.ends.top c.args.number c.unwrap-place.result c.place_of.result c.place_of.ensures.found c.unwrap-place.ensures
    c.deref.ensures.value in
    subst (λ (xs : List Slot). AreBelow xs (record { top = c.args.ends.top; gone = c.args.ends.gone + 1 })) (sym c.empty.ensures.items)
    (older_goes c.args.slots.now.items c.args.ends c.unwrap-place.result c.args.number c.requires.ends c.requires.rising at c.requires.alive).2

pub returns-clause-without : goal.returns-clause-without
returns-clause-without g c =
    let at = place_is c.args.slots.now.items c.deref.result.now c.args.ends.top c.args.number c.unwrap-place.result c.place_of.result c.place_of.ensures.found c.unwrap-place.ensures
    c.deref.ensures.value in
    subst (λ (xs : List Slot). IsWithout (take c.args.ends.top c.args.slots.now.items) c.args.number (take c.args.ends.top xs)) (sym c.empty.ensures.items)
    (older_goes c.args.slots.now.items c.args.ends c.unwrap-place.result c.args.number c.requires.ends c.requires.rising at c.requires.alive).1
