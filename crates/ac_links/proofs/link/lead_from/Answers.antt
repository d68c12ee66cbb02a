use Rattle.ac_links.proofs.Leading.{lead_more, lead_stop, lead_end}
use Rattle.ac_links.proofs.link.lead_from.Goals as goal

pub loop-n-preserved : goal.loop-n-preserved
loop-n-preserved c = lead_more c.args.offers.now c.loop-n.n c.index-offers-n.result c.loop-n.invariant c.loop-n-test.true c.if-offers-n.true

pub returns-else-offers-n : goal.returns-else-offers-n
returns-else-offers-n c = lead_stop c.args.offers.now c.loop-n.n c.index-offers-n.result c.loop-n.invariant c.loop-n-test.true c.if-offers-n.false

pub returns-after-loop-n : goal.returns-after-loop-n
returns-after-loop-n c = lead_end c.args.offers.now c.loop-n.n c.loop-n.invariant c.loop-n-test.false
