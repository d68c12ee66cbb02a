use Rattle.std.proofs.Common.{◌∙◌, sym}
use Rattle.trace_audit.proofs.Comparing.{told_more, all_compared}
use Rattle.trace_audit.proofs.ends.are_told.Goals as goal

pub loop-core-preserved : goal.loop-core-preserved
loop-core-preserved c = told_more c.args.told.now c.args.ends.now c.loop-core.core c.index-told-core.result c.index-ends-core.result c.index-told-core.is c.index-ends-core.is
    c.loop-core.invariant (sym c.is_told.ensures ∙ c.if-not-is_told.false)

pub returns : goal.returns
returns c = all_compared c.args.told.now c.args.ends.now c.loop-core.core c.if-told-ends.false c.loop-core-test.false c.loop-core.invariant
