use Rattle.std.proofs.Common.{arith}
use Rattle.thread_table.proofs.Tops.{none_more}
use Rattle.thread_table.proofs.callers.extend.Goals as goal

pub returns-then-len-eq0-clause-ok : goal.returns-then-len-eq0-clause-ok
returns-then-len-eq0-clause-ok c = none_more c.args.cells.now c.args.more.now (omega (arith, c.len.ensures.value, c.if-len-eq0.true))
