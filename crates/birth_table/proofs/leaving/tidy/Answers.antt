use Rattle.std.proofs.Common.{◌-◌, List, take, sym, subst}
use Rattle.birth_table.specs.declared.index.Slot.{Slot}
use Rattle.birth_table.specs.Kept.{AreBelow}
use Rattle.birth_table.specs.inner.Slots.{HaveSameKeys, AreFewer}
use Rattle.birth_table.proofs.Keys.{keys_then}
use Rattle.birth_table.proofs.Going.{ends_trimmed, squeezed, fewer_filter}
use Rattle.birth_table.proofs.leaving.tidy.Goals as goal

pub returns-clause-ends : goal.returns-clause-ends
returns-clause-ends c =
    let slots = c.args.slots.now.items in
    let top = c.trim-top.result in
    let gone = c.args.ends.gone - (c.args.ends.top - top) in
    let keys : HaveSameKeys (take c.args.ends.top slots) (take top slots) =
    subst (λ (xs : List Slot). HaveSameKeys (take c.args.ends.top xs) (take top xs)) c.as_slice.ensures.value c.trim-top.ensures.keys in
    let trimmed = (ends_trimmed slots c.args.ends top c.requires c.trim-top.ensures.below keys).1 in
    subst (λ (xs : List Slot). AreBelow xs (record { top = top - gone; gone = 0 })) (sym c.squeeze.ensures.items) (squeezed slots top gone trimmed).0

pub returns-clause-keys : goal.returns-clause-keys
returns-clause-keys c =
    let slots = c.args.slots.now.items in
    let top = c.trim-top.result in
    let gone = c.args.ends.gone - (c.args.ends.top - top) in
    let keys : HaveSameKeys (take c.args.ends.top slots) (take top slots) =
    subst (λ (xs : List Slot). HaveSameKeys (take c.args.ends.top xs) (take top xs)) c.as_slice.ensures.value c.trim-top.ensures.keys in
    let trimmed = (ends_trimmed slots c.args.ends top c.requires c.trim-top.ensures.below keys).1 in
    keys_then (take c.args.ends.top slots) (take top slots) (take (top - gone) c.squeeze.new.slots.items) keys
    (subst (λ (xs : List Slot). HaveSameKeys (take top slots) (take (top - gone) xs)) (sym c.squeeze.ensures.items) (squeezed slots top gone trimmed).1)

pub returns-clause-slots : goal.returns-clause-slots
returns-clause-slots c =
    subst (λ (xs : List Slot). AreFewer c.args.slots.now.items xs) (sym c.squeeze.ensures.items) (fewer_filter c.args.slots.now.items)
