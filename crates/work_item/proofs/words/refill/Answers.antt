use Rattle.std.proofs.Common.{◌≡◌, pos, length, refl, ap, ◌∙◌, arith, set, slice_index_or, w64, SFits, rules}
use Rattle.std.proofs.lemmas.Int.{to_z-of_z}
use Rattle.work_item.proofs.Laying.{laid, laid_more, refilled}
use Rattle.work_item.proofs.words.refill.Goals as goal

pub loop-index-init : goal.loop-index-init
loop-index-init c = refl

pub loop-index-preserved : goal.loop-index-preserved
loop-index-preserved c =
    let word = slice_index_or c.args.first.now c.loop-index.index (pos 0) in
    let fits : SFits w64 word = search rules in
    ap (set c.loop-index.words c.loop-index.index) (to_z-of_z w64 word fits) ∙ ap (λ xs. set xs c.loop-index.index word) c.loop-index.invariant
    ∙ laid_more c.loop-index.index c.args.first.now c.args.words.now (omega (arith, c.loop-index-test.true)) (omega (arith, c.loop-index-test.true, c.requires))

pub returns : goal.returns
returns c =
    let n : c.loop-index.index ≡ length c.args.first.now = omega (arith, c.loop-index-test.false, c.loop-index.auto.index-end) in
    c.zero_from.ensures
    ∙ refilled c.args.first.now c.args.words.now c.loop-index.words c.requires (c.loop-index.invariant ∙ ap (λ k. laid k c.args.first.now c.args.words.now) n)
