use Rattle.std.proofs.Common.{◌≡◌, ◌+◌, length, map, pos, sym, ap, ◌∙◌, arith, set}
use Rattle.std.proofs.lemmas.List.{map-set, length-map}
use Rattle.work_item.specs.Store.{no_int, int_in, cleared}
use Rattle.work_item.proofs.Clearing.{cleared_more, cleared_none}
use Rattle.work_item.proofs.words.clear_words.Goals as goal

pub loop-index-init : goal.loop-index-init
loop-index-init c cells e = e ∙ ap (map int_in) (cleared_none c.args.start cells)

pub loop-index-preserved : goal.loop-index-preserved
loop-index-preserved c cells e =
    let at = c.args.start + c.loop-index.index in
    let n : length c.args.words.now ≡ length cells = ap length e ∙ length-map cells int_in in
    ap (λ w. set w at (pos 0)) (c.loop-index.invariant cells e) ∙ sym (map-set int_in (cleared c.args.start c.loop-index.index cells) at no_int)
    ∙ ap (map int_in) (cleared_more c.args.start c.loop-index.index cells (omega (arith, n, c.requires, c.loop-index-test.true)))
