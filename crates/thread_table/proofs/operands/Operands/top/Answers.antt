use Rattle.std.proofs.Common.{◌≡◌, ◌-◌, length, ◌∙◌, arith}
use Rattle.thread_table.proofs.Tops.{taken}
use Rattle.thread_table.proofs.operands.Operands.top.Goals as goal

pub returns : goal.returns
returns c =
    let cells = c.self.inside.cells in
    let from = c.len.result - c.args.count in
    let lies : from ≡ length cells - c.args.count = omega (arith, c.len.ensures) in
    c.from.ensures ∙ taken cells c.args.self.now from c.args.count c.self.view_is c.requires lies
