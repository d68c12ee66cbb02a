use Rattle.std.proofs.Common.{sym, arith}
use Rattle.trace_text.proofs.Growing.{too_great}
use Rattle.trace_text.proofs.cursor.value_within.Goals as goal
use Rattle.trace_text.proofs.cursor.value_within.Goals.{then-d-most-via-then-d-most, then-d-most-via-else-d-most+then-n-most}

pub returns-then-d-most-clause-none : goal.returns-then-d-most-clause-none
returns-then-d-most-clause-none c =
    let digit = sym c.if-not-is_digit_byte.ensures in
    let value = c.from-d.ensures in
    too_great c.args.most c.loop-b.n c.loop-b.b-index c.args.bytes.now c.loop-b-test.true digit c.loop-b.invariant.same
    (elim c.then-d-most.branch [
      | then-d-most-via-then-d-most w ↦ omega (arith, w.if-d-most.true, value)
      | then-d-most-via-else-d-most+then-n-most w ↦ omega (arith, w.if-d-most.false, w.if-n-most.true, value)
    ])
