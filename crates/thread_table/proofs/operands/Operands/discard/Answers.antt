use Rattle.std.proofs.Common.{◌≡◌, ◌-◌, length, ap, ◌∙◌, arith, reverse}
use Rattle.thread_table.proofs.Tops.{left}
use Rattle.thread_table.proofs.operands.Operands.discard.Goals as goal

pub returns : goal.returns
returns c =
    let cells = c.self.inside.cells in
    let end = c.len.result - c.args.count in
    let lies : end ≡ length cells - c.args.count = omega (arith, c.len.ensures) in
    ap reverse c.truncate.ensures ∙ left cells c.args.self.now end c.args.count c.self.view_is c.requires lies
