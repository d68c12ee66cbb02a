use Rattle.thread_table.proofs.Tops.{ends_in_place}
use Rattle.thread_table.proofs.operands.Operands.pop_place.Goals as goal

pub pop_place-requires : goal.pop_place-requires
pop_place-requires c = ends_in_place c.self.inside.cells c.args.self.now c.self.view_is c.requires
