use Rattle.std.proofs.Common.{◌≡◌, arith, ap, sym, subst, ◌+◌, ◌++◌, [], ◌∷◌, ◌∙◌, add-one}
use Rattle.merge_run.specs.inner.Making.{AreWaysOf}
use Rattle.merge_run.proofs.Made.{AreWaysBelow, way, none_below, one_below, all_ways}
use Rattle.merge_run.proofs.making.ways_of.Goals as goal

pub loop-tag-init : goal.loop-tag-init
loop-tag-init c = subst (λ ws. AreWaysBelow c.args.width 0 ws) (sym c.new-ways.ensures.items) (none_below c.args.width)

pub loop-tag-preserved : goal.loop-tag-preserved
loop-tag-preserved c =
    subst (λ ws. AreWaysBelow c.args.width (c.loop-tag.tag + 1) ws) (sym c.in_ok-push.ensures.items) (one_below c.args.width c.loop-tag.tag c.loop-tag.ways.items c.loop-tag.invariant)

pub returns : goal.returns
returns c =
    let ways = c.loop-tag.ways.items in
    let whole : c.loop-tag.tag ≡ c.args.width = (let f = c.loop-tag-test.false in let t = c.loop-tag.auto.tag-end in omega (arith, f, t)) in
    subst (λ ws. AreWaysOf c.args.width ws) (sym (c.in_ok-push-2.ensures.items ∙ ap (λ t. ways ++ way c.args.width t ∷ []) (add-one c.args.width)))
    (all_ways c.args.width ways (subst (λ n. AreWaysBelow c.args.width n ways) whole c.loop-tag.invariant))
