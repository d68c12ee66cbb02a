use Rattle.std.proofs.Common.{sym}
use Rattle.birth_table.proofs.Steps.{dropped_live}
use Rattle.birth_table.proofs.leaving.drop_last.Goals as goal

pub returns-then-lives-clause-keys : goal.returns-then-lives-clause-keys
returns-then-lives-clause-keys g c =
    let r = c.remove.ensures in
    let last = c.take_last-slot in
    (dropped_live c.args.slots.now.items last.new.self.items last.result c.args.entries.now c.requires.keys last.ensures.items c.remove.new.self (sym c.if-lives.ensures) r.updates r.len
    r.capacity).0

pub returns-then-lives-clause-shrinks : goal.returns-then-lives-clause-shrinks
returns-then-lives-clause-shrinks g c =
    let r = c.remove.ensures in
    let last = c.take_last-slot in
    (dropped_live c.args.slots.now.items last.new.self.items last.result c.args.entries.now c.requires.keys last.ensures.items c.remove.new.self (sym c.if-lives.ensures) r.updates r.len
    r.capacity).1
