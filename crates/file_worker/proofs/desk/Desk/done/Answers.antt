-- The link of a core is within the range of links.
use Rattle.std.proofs.Common.{rules, ◌+◌, ◌<◌}
use Rattle.file_worker.proofs.Turning.{has_core}
use Rattle.file_worker.proofs.desk.Desk.done.Goals as goal

pub overflow_add-self-inside : goal.overflow_add-self-inside
overflow_add-self-inside c =
    let has = has_core c.self.inside c.args.self.now c.args.core c.self.view_is c.self.invariant c.requires in
    let small : c.self.inside.first + c.args.core < 4294967296 = has.2 in
    search rules
