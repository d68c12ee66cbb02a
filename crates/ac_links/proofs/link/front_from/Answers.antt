use Rattle.std.proofs.Common.{◌∙◌, sym}
use Rattle.ac_links.proofs.Leading.{front_more, front_stop, front_end}
use Rattle.ac_links.proofs.link.front_from.Goals as goal

pub loop-n-preserved : goal.loop-n-preserved
loop-n-preserved c = front_more c.args.offers.now c.loop-n.n c.index-offers-n.result c.loop-n.invariant c.loop-n-test.true (sym c.is_decided.ensures ∙ c.if-is_decided.true)

pub returns-else-is_decided : goal.returns-else-is_decided
returns-else-is_decided c = front_stop c.args.offers.now c.loop-n.n c.index-offers-n.result c.loop-n.invariant c.loop-n-test.true (sym c.is_decided.ensures ∙ c.if-is_decided.false)

pub returns-after-loop-n : goal.returns-after-loop-n
returns-after-loop-n c = front_end c.args.offers.now c.loop-n.n c.loop-n.invariant c.loop-n-test.false
