use Rattle.std.proofs.Common.{◌≡◌, ◌∙◌, sym, subst, true, false, is_some}
use Rattle.std.specs.Prelude.{◌||◌}
use Rattle.core_channels.proofs.Opens.{open_more, open_stop, open_end}
use Rattle.core_channels.proofs.kept_link.open_from.Goals as goal

pub loop-n-preserved : goal.loop-n-preserved
loop-n-preserved c =
    open_more c.args.offers.now c.loop-n.n c.index-offers-n.result c.loop-n.invariant c.loop-n-test.true
    (subst (λ x. (is_some x.withdrawn || is_some x.reply) ≡ true) c.index-offers-n.is (sym c.is_closed.ensures ∙ c.if-is_closed.true))

pub returns-else-is_closed : goal.returns-else-is_closed
returns-else-is_closed c =
    open_stop c.args.offers.now c.loop-n.n c.index-offers-n.result c.loop-n.invariant c.loop-n-test.true
    (subst (λ x. (is_some x.withdrawn || is_some x.reply) ≡ false) c.index-offers-n.is (sym c.is_closed.ensures ∙ c.if-is_closed.false))

pub returns-after-loop-n : goal.returns-after-loop-n
returns-after-loop-n c = open_end c.args.offers.now c.loop-n.n c.loop-n.invariant c.loop-n-test.false
