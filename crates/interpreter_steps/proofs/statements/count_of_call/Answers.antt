use Rattle.std.proofs.Common.{arith}
use Rattle.interpreter_steps.proofs.Calling.{length-first_cells}
use Rattle.interpreter_steps.proofs.statements.count_of_call.Goals as goal

pub returns : goal.returns
returns c =
    let e = length-first_cells c.args.params.now c.args.operands.now c.args.slots in
    omega (arith, e, c.min-count.ensures, c.from.ensures, c.max.ensures)
