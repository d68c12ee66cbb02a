use Rattle.std.proofs.Common.{◌≡◌, ◌+◌, ◌-◌, length, ap, ◌∙◌, arith, set, w64, SFits, rules}
use Rattle.std.proofs.lemmas.Int.{to_z-of_z}
use Rattle.work_item.specs.declared.cell.Cell.TheVariants as cell
use Rattle.work_item.proofs.RowCalls.{last_set}
use Rattle.work_item.proofs.cells.Cells.replace.Goals as goal

pub returns : goal.returns
returns c front x e =
    let n : c.len-last.result - 1 + 1 ≡ length c.args.self.now = omega (arith, c.requires, c.len-last.ensures) in
    let fits : SFits w64 c.args.value = search rules in
    c.set_int.ensures ∙ ap (λ z. set c.args.self.now (c.len-last.result - 1) (cell.Int z)) (to_z-of_z w64 c.args.value fits)
    ∙ last_set c.args.self.now front x (cell.Int c.args.value) (c.len-last.result - 1) e n
