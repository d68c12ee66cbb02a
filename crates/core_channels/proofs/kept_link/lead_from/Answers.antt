use Rattle.std.proofs.Common.{◌≡◌, ◌∙◌, sym, subst, true, false, is_some}
use Rattle.core_channels.proofs.Leads.{lead_more, lead_stop, lead_end}
use Rattle.core_channels.proofs.kept_link.lead_from.Goals as goal

pub loop-n-preserved : goal.loop-n-preserved
loop-n-preserved c =
    lead_more c.args.offers.now c.loop-n.n c.index-offers-n.result c.loop-n.invariant c.loop-n-test.true
    (subst (λ x. is_some x.known ≡ true) c.index-offers-n.is (sym c.is_known.ensures ∙ c.if-is_known.true))

pub returns-else-is_known : goal.returns-else-is_known
returns-else-is_known c =
    lead_stop c.args.offers.now c.loop-n.n c.index-offers-n.result c.loop-n.invariant c.loop-n-test.true
    (subst (λ x. is_some x.known ≡ false) c.index-offers-n.is (sym c.is_known.ensures ∙ c.if-is_known.false))

pub returns-after-loop-n : goal.returns-after-loop-n
returns-after-loop-n c = lead_end c.args.offers.now c.loop-n.n c.loop-n.invariant c.loop-n-test.false
