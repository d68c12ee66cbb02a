use Rattle.std.proofs.Common.{length, sym}
use Rattle.stack_code.proofs.Apart.{free_at}
use Rattle.stack_code.proofs.uses.Reserved.is_free.Goals as goal

pub returns : goal.returns
returns c = free_at c.args.code.now c.args.table.now c.args.self.now c.args.at
    (length c.args.code.now.instrs) c.in-Some.named c.row.result.now c.has_any.result c.from-from.result c.from.result c.requires.tabled c.requires.reserve.reserves
    (sym c.in-Some.ensures) c.row.ensures c.from-from.ensures c.from.ensures c.has_any.ensures
