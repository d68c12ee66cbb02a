use Rattle.std.proofs.Common.{◌∷◌, drop, ap, ◌∙◌, w64, SFits, rules, to_z, of_z}
use Rattle.std.proofs.lemmas.Int.{to_z-of_z}
use Rattle.work_item.specs.declared.cell.Cell.TheVariants as cell
use Rattle.code_safety.specs.Fit.{is_int}
use Rattle.thread_table.proofs.Tops.{ends_in_int, ended_by, one_at_least}
use Rattle.thread_table.proofs.operands.Operands.replace_int.Goals as goal

pub replace_int-requires : goal.replace_int-requires
replace_int-requires c = ends_in_int c.self.inside.cells c.args.self.now c.self.view_is c.requires

pub returns : goal.returns
returns c =
    let fits : SFits w64 c.args.value = search rules in
    ended_by c.self.inside.cells c.args.self.now c.replace_int.new.self (cell.Int (to_z w64 (of_z w64 c.args.value))) c.self.view_is
    (one_at_least c.args.self.now is_int c.requires) c.replace_int.ensures
    ∙ ap (λ z. cell.Int z ∷ drop 1 c.args.self.now) (to_z-of_z w64 c.args.value fits)
