use Rattle.std.proofs.Common.{◌≡◌, ◌-◌, length, sym, ap, ◌∙◌, arith, Some}
use Rattle.work_item.specs.Store.{no_int}
use Rattle.thread_table.proofs.Tops.{read_below}
use Rattle.thread_table.proofs.operands.Operands.get.Goals as goal

pub returns : goal.returns
returns c =
    let cells = c.self.inside.cells in
    let index = c.len.result - 1 - c.args.below in
    let at : index ≡ length cells - 1 - c.args.below = omega (arith, c.len.ensures) in
    read_below cells c.args.self.now c.args.below index no_int c.self.view_is c.requires at ∙ ap Some (sym c.get.ensures)
