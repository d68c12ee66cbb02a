use Rattle.std.proofs.Common.{◌≡◌, ◌∷◌, ◌-◌, length, take, reverse, sym, ap, ◌∙◌, arith}
use Rattle.work_item.specs.Store.{no_int}
use Rattle.thread_table.proofs.Tops.{popped}
use Rattle.thread_table.proofs.operands.Operands.pop.Goals as goal

pub returns : goal.returns
returns c =
    let cells = c.self.inside.cells in
    let top = c.len-top.result - 1 in
    let at : top ≡ length cells - 1 = omega (arith, c.len-top.ensures) in
    popped cells c.args.self.now top no_int c.self.view_is c.requires at ∙ ap (λ x. x ∷ reverse (take top cells)) (sym c.get-cell.ensures)
    ∙ ap (λ l. c.get-cell.result ∷ reverse l) (sym c.truncate.ensures)
