use Rattle.std.proofs.Common.{◌≡◌, ◌<◌, ◌≤◌, length, ◌-◌, arith, ◌⊎◌, inl, inr}
use Rattle.birth_table.proofs.Rising.{entry_at, read, outside, by_ends, rises_apart}
use Rattle.birth_table.proofs.index.place_of.Goals as goal
use Rattle.birth_table.proofs.index.place_of.Goals.{then-back-end, else-back-end, then-ahead-end, else-ahead-end}

pub returns-then-number-first-clause-absent : goal.returns-then-number-first-clause-absent
returns-then-number-first-clause-absent c =
    let slots = c.args.slots.now in
    let some : 0 < length slots = grind (arith, c.if-is_empty.ensures) in
    let end = length slots - 1 in
    outside slots c.args.number c.requires end (entry_at slots 0) (entry_at slots end) (read slots 0 some) (read slots end (omega arith)) (omega arith)
    (elim c.then-number-first.either as (λ _. (c.args.number < (entry_at slots 0).number) ⊎ ((entry_at slots end).number < c.args.number)) [ inl h ↦ inl h | inr h ↦ inr h.1 ])

low_is : (c : goal.Else-slots-low) → c.if-back-end.low ≡ (length c.args.slots.now - 1) - ((entry_at c.args.slots.now (length c.args.slots.now - 1)).number - c.args.number)
low_is c = elim c.if-back-end.branch [ then-back-end w ↦ omega (arith, w.if-back-end.true, w.low-is) | else-back-end w ↦ omega (arith, w.if-back-end.false, w.low-is) ]

high_is : (c : goal.Else-slots-low) → (c.if-ahead-end.high ≡ length c.args.slots.now - 1) ⊎ (c.if-ahead-end.high ≡ c.args.number - (entry_at c.args.slots.now 0).number)
high_is c = elim c.if-ahead-end.branch [ then-ahead-end w ↦ inr w.high-is | else-ahead-end w ↦ inl w.high-is ]

pub search-requires-clause-order : goal.search-requires-clause-order
search-requires-clause-order c =
    let slots = c.args.slots.now in
    let some : 0 < length slots = grind (arith, c.if-is_empty.ensures) in
    let end = length slots - 1 in
    let apart = rises_apart 0 slots c.requires.0 c.requires.1 0 end (entry_at slots 0) (entry_at slots end) (read slots 0 some) (read slots end (omega arith)) (omega arith) in
    let low = low_is c in
    elim (high_is c) as (λ _. c.if-back-end.low ≤ c.if-ahead-end.high) [ inl h ↦ omega arith | inr h ↦ omega (arith, c.if-number-first.false, c.if-last-number.false) ]

pub search-requires-clause-between : goal.search-requires-clause-between
search-requires-clause-between c =
    let slots = c.args.slots.now in
    let some : 0 < length slots = grind (arith, c.if-is_empty.ensures) in
    let end = length slots - 1 in
    let low = low_is c in
    by_ends slots c.args.number c.requires end (entry_at slots 0) (entry_at slots end) (read slots 0 some) (read slots end (omega arith)) (omega arith)
    c.if-back-end.low c.if-ahead-end.high (omega arith) (high_is c)
