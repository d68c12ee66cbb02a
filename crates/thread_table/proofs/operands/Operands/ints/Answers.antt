use Rattle.std.proofs.Common.{◌≡◌, ◌-◌, length, map, drop, ap, ◌∙◌, arith}
use Rattle.std.specs.List.{drop-map}
use Rattle.std.proofs.lemmas.List.{take_rest}
use Rattle.work_item.specs.Store.{int_in}
use Rattle.thread_table.proofs.Tops.{taken}
use Rattle.thread_table.proofs.operands.Operands.ints.Goals as goal

pub returns : goal.returns
returns c =
    let cells = c.self.inside.cells in
    let from = c.len.result - c.args.count in
    let lies : from ≡ length cells - c.args.count = omega (arith, c.len.ensures) in
    take_rest c.ints.result.now from ∙ ap (drop from) c.ints.ensures ∙ drop-map int_in from cells
    ∙ ap (map int_in) (taken cells c.args.self.now from c.args.count c.self.view_is c.requires lies)
