use Rattle.std.proofs.Common.{◌∷◌, drop, ap, ◌∙◌, w64, SFits, rules, to_z, of_z}
use Rattle.std.proofs.lemmas.Int.{to_z-of_z}
use Rattle.work_item.specs.declared.cell.Cell.TheVariants as cell
use Rattle.thread_table.proofs.Tops.{ended_by}
use Rattle.thread_table.proofs.operands.Operands.replace.Goals as goal

pub returns : goal.returns
returns c =
    let fits : SFits w64 c.args.value = search rules in
    ended_by c.self.inside.cells c.args.self.now c.replace.new.self (cell.Int (to_z w64 (of_z w64 c.args.value))) c.self.view_is c.requires c.replace.ensures
    ∙ ap (λ z. cell.Int z ∷ drop 1 c.args.self.now) (to_z-of_z w64 c.args.value fits)
