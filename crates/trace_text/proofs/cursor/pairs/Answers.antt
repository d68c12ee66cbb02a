use Rattle.std.proofs.Common.{◌∙◌}
use Rattle.trace_text.proofs.Pairs.{next_pair}
use Rattle.trace_text.proofs.cursor.pairs.Goals as goal

pub pairs-preserved : goal.pairs-preserved
pairs-preserved c =
    next_pair c.pairs.bytes c.push.new.self c.pairs.rest.now c.in-Some.byte c.pairs-test.true c.in-Some.ensures c.in_ok-push-in-Some.ensures.ok ∙ c.pairs.invariant
