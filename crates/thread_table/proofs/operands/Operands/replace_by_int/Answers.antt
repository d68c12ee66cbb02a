use Rattle.std.proofs.Common.{◌∷◌, drop, ap, ◌∙◌, w64, SFits, rules, to_z, of_z}
use Rattle.std.proofs.lemmas.Int.{to_z-of_z}
use Rattle.work_item.specs.declared.cell.Cell.TheVariants as cell
use Rattle.thread_table.specs.Operands.{is_reference}
use Rattle.thread_table.proofs.Tops.{ends_in_place, ended_by, one_at_least}
use Rattle.thread_table.proofs.operands.Operands.replace_by_int.Goals as goal

pub replace_by_int-requires : goal.replace_by_int-requires
replace_by_int-requires c = ends_in_place c.self.inside.cells c.args.self.now c.self.view_is c.requires

pub returns : goal.returns
returns c =
    let fits : SFits w64 c.args.value = search rules in
    ended_by c.self.inside.cells c.args.self.now c.replace_by_int.new.self (cell.Int (to_z w64 (of_z w64 c.args.value))) c.self.view_is
    (one_at_least c.args.self.now is_reference c.requires) c.replace_by_int.ensures
    ∙ ap (λ z. cell.Int z ∷ drop 1 c.args.self.now) (to_z-of_z w64 c.args.value fits)
