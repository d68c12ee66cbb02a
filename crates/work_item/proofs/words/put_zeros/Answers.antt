use Rattle.std.proofs.Common.{◌≡◌, ◌-◌, ◌++◌, length, replicate, pos, ap, ◌∙◌, arith}
use Rattle.work_item.proofs.words.put_zeros.Goals as goal

pub returns : goal.returns
returns c =
    let old = c.args.words.now.items in
    let n : c.loop.counter - length old ≡ c.args.count - length old =
    omega (arith, c.loop-test.false, c.loop.invariant.most, c.args.words.now.ok.0) in
    c.loop.invariant.items ∙ ap (λ m. old ++ replicate m (pos 0)) n
