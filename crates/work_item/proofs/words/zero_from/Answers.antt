use Rattle.std.proofs.Common.{◌+◌, ◌≤◌, pos, length, length-set, set, ◌∙◌, arith}
use Rattle.work_item.proofs.Laying.{zeroed_all, zeroed_one, zeroed_two, zeroed_rest}
use Rattle.work_item.proofs.words.zero_from.Goals as goal

pub returns-then-from-len-2 : goal.returns-then-from-len-2
returns-then-from-len-2 c =
    let words = c.args.words.now in
    let from = c.args.from in
    let one = set words from (pos 0) in
    zeroed_all one (from + 1) (omega (arith, c.if-from-len-2.true, length-set words from (pos 0))) ∙ zeroed_one words from (omega (arith, c.if-from-len-2.true))

pub returns-then-from-len-3 : goal.returns-then-from-len-3
returns-then-from-len-3 c =
    let words = c.args.words.now in
    let from = c.args.from in
    let one = set words from (pos 0) in
    let two = set one (from + 1) (pos 0) in
    zeroed_all two (from + 2) (omega (arith, c.if-from-len-3.true, length-set one (from + 1) (pos 0), length-set words from (pos 0)))
    ∙ zeroed_two words from (omega (arith, c.if-from-len-3.true))

pub returns : goal.returns
returns c =
    let words = c.args.words.now in
    let from = c.args.from in
    let one = set words from (pos 0) in
    let two = set one (from + 1) (pos 0) in
    let le : from + 2 ≤ length words = omega (arith, c.requires, c.if-from-len.false, c.if-from-len-2.false, c.if-from-len-3.false) in
    zeroed_rest two (from + 2) c.fill.new.self (omega (arith, le, length-set one (from + 1) (pos 0), length-set words from (pos 0))) (c.fill.ensures.after (λ y e. e))
    ∙ zeroed_two words from (omega (arith, le))
