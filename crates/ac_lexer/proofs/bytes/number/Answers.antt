use Rattle.std.proofs.Common.{◌≡◌, ◌+◌, ◌-◌, ◌*◌, ◌≤◌, ◌<◌, ◌^◌, ◌∷◌, suc, length, get_or, drop, sym, arith, drop-cons}
use Rattle.ac_lexer.proofs.Values.{too_large}
use Rattle.ac_lexer.proofs.bytes.number.Goals as goal

pub returns-then-n-d-clause-none : goal.returns-then-n-d-clause-none
returns-then-n-d-clause-none c =
    let lt : c.loop-b.b-index < length c.args.bytes.now = omega arith in
    let d : drop c.loop-b.b-index c.args.bytes.now ≡ get_or c.args.bytes.now c.loop-b.b-index 0 ∷ drop (suc c.loop-b.b-index) c.args.bytes.now = rw (drop-cons c.args.bytes.now c.loop-b.b-index 0) in
    let big : 2 ^ 63 ≤ c.loop-b.n * 10 + (get_or c.args.bytes.now c.loop-b.b-index 0 - 48) = omega arith in
    rw (← c.loop-b.invariant.same, d) (too_large c.loop-b.n (get_or c.args.bytes.now c.loop-b.b-index 0) (drop (suc c.loop-b.b-index) c.args.bytes.now) (sym c.if-not-is_digit_byte.ensures) big)
