use Rattle.std.proofs.Common.{◌≡◌, ◌+◌, ◌<◌, ◌≤◌, length, ◌-◌, ◌/◌, arith, sym, subst}
use Rattle.birth_table.specs.inner.Slots.{LiesBetween}
use Rattle.birth_table.proofs.Rising.{entry_at, read, above, below, not_there}
use Rattle.birth_table.proofs.index.search.Goals as goal

pub loop-low-preserved-then-slots-middle : goal.loop-low-preserved-then-slots-middle
loop-low-preserved-then-slots-middle c =
    let slots = c.args.slots.now in
    let l = c.loop-low in
    let middle = l.low + (l.high - l.low) / 2 in
    let order : middle + 1 ≤ l.high = omega (arith, c.loop-low-test.true) in
    let lt : middle < length slots = omega (arith, l.invariant.within) in
    record {
      order = order;
      within = l.invariant.within;
      between = above slots c.args.number l.low l.high c.requires.rising l.invariant.between middle (entry_at slots middle) (read slots middle lt) c.if-slots-middle.true;
    }

pub loop-low-preserved : goal.loop-low-preserved
loop-low-preserved c =
    let slots = c.args.slots.now in
    let l = c.loop-low in
    let middle = l.low + (l.high - l.low) / 2 in
    let under : middle < l.high = omega (arith, c.loop-low-test.true) in
    let lt : middle < length slots = omega (arith, l.invariant.within) in
    record {
      order = omega arith;
      within = lt;
      between = below slots c.args.number l.low l.high c.requires.rising l.invariant.between middle (entry_at slots middle) (read slots middle lt) c.if-slots-middle.false;
    }

pub returns-then-slots-low-clause-found : goal.returns-then-slots-low-clause-found
returns-then-slots-low-clause-found c =
    let l = c.loop-low in
    let lt : l.low < length c.args.slots.now = omega (arith, l.invariant.order, l.invariant.within) in
    (entry_at c.args.slots.now l.low, read c.args.slots.now l.low lt, c.if-slots-low.true)

pub returns-else-slots-low-clause-absent : goal.returns-else-slots-low-clause-absent
returns-else-slots-low-clause-absent c =
    let slots = c.args.slots.now in
    let l = c.loop-low in
    let lt : l.low < length slots = omega (arith, l.invariant.order, l.invariant.within) in
    let one : l.low ≡ l.high = omega (arith, l.invariant.order, c.loop-low-test.false) in
    let there : LiesBetween slots c.args.number l.low l.low = subst (λ h. LiesBetween slots c.args.number l.low h) (sym one) l.invariant.between in
    not_there slots c.args.number l.low there (entry_at slots l.low) (read slots l.low lt) c.if-slots-low.false
