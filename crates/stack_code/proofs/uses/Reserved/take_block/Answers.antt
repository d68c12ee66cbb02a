use Rattle.std.proofs.Common.{sym, subst}
use Rattle.stack_code.specs.inner.Reserve.{Adds}
use Rattle.stack_code.proofs.Apart.{param_conflict, block_row, take_more}
use Rattle.stack_code.proofs.uses.Reserved.take_block.Goals as goal

pub add-requires : goal.add-requires
add-requires c = block_row c.args.code.now c.args.table.now c.args.self.now c.args.at c.args.at c.in-Some.named c.requires.tabled c.requires.reserves (sym c.in-Some.ensures)

pub returns-in-Some-param : goal.returns-in-Some-param
returns-in-Some-param c = param_conflict c.args.code.now c.args.table.now c.args.at c.in-Some.named c.param.result _ c.requires.tabled (sym c.in-Some.ensures) c.param.ensures c.in-Some-param.is

pub returns-in_ok-add-in-None : goal.returns-in_ok-add-in-None
returns-in_ok-add-in-None c = take_more c.args.code.now c.args.table.now c.args.self.now c.add.new.self c.args.at c.in-Some.named c.requires.tabled c.requires.reserves (sym c.in-Some.ensures)
    (subst (Adds c.args.self.now c.add.new.self c.in-Some.named.home) c.from.ensures c.in_ok-add-in-None.ensures) (sym c.in-None.ensures)
