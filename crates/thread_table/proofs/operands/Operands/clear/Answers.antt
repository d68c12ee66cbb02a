use Rattle.std.proofs.Common.{reverse, ap}
use Rattle.thread_table.proofs.operands.Operands.clear.Goals as goal

pub returns : goal.returns
returns c = ap reverse c.truncate.ensures
