use Rattle.work_item.specs.declared.cell.Cell.TheVariants as cell
use Rattle.thread_table.proofs.Tops.{ends_in_place, ended}
use Rattle.thread_table.proofs.operands.Operands.top_place.Goals as goal

pub last_place-requires : goal.last_place-requires
last_place-requires c = ends_in_place c.self.inside.cells c.args.self.now c.self.view_is c.requires

pub returns : goal.returns
returns c = ended c.self.inside.cells c.args.self.now c.last_place.ensures.0 (cell.Array c.last_place.result) c.self.view_is c.last_place.ensures.1
