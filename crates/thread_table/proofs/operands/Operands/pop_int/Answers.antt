use Rattle.thread_table.proofs.Tops.{ends_in_int}
use Rattle.thread_table.proofs.operands.Operands.pop_int.Goals as goal

pub pop_int-requires : goal.pop_int-requires
pop_int-requires c = ends_in_int c.self.inside.cells c.args.self.now c.self.view_is c.requires
