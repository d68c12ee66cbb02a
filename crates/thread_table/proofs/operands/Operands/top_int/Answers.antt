use Rattle.std.proofs.Common.{◌∷◌, drop, sym, ap, ◌∙◌, w64, SFits, rules}
use Rattle.std.proofs.lemmas.Int.{to_z-of_z}
use Rattle.work_item.specs.declared.cell.Cell.TheVariants as cell
use Rattle.thread_table.proofs.Tops.{ends_in_int, ended}
use Rattle.thread_table.proofs.operands.Operands.top_int.Goals as goal

pub last_int-requires : goal.last_int-requires
last_int-requires c = ends_in_int c.self.inside.cells c.args.self.now c.self.view_is c.requires

pub returns : goal.returns
returns c =
    let v = c.last_int.result in
    let fits : SFits w64 v = search rules in
    ended c.self.inside.cells c.args.self.now c.last_int.ensures.0 (cell.Int v) c.self.view_is c.last_int.ensures.1
    ∙ ap (λ z. cell.Int z ∷ drop 1 c.args.self.now) (sym (to_z-of_z w64 v fits))
