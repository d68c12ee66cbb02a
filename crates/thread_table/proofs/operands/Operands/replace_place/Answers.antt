use Rattle.work_item.specs.declared.cell.Cell.TheVariants as cell
use Rattle.thread_table.specs.Operands.{is_reference}
use Rattle.thread_table.proofs.Tops.{ends_in_place, ended_by, one_at_least}
use Rattle.thread_table.proofs.operands.Operands.replace_place.Goals as goal

pub replace_place-requires : goal.replace_place-requires
replace_place-requires c = ends_in_place c.self.inside.cells c.args.self.now c.self.view_is c.requires

pub returns : goal.returns
returns c =
    ended_by c.self.inside.cells c.args.self.now c.replace_place.new.self (cell.Array c.args.place) c.self.view_is
    (one_at_least c.args.self.now is_reference c.requires) c.replace_place.ensures
