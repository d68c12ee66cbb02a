use Rattle.birth_table.proofs.Steps.{shrinks_then, shrinks_fewer}
use Rattle.birth_table.proofs.leaving.take_away.Goals as goal

pub returns-clause-shrinks : goal.returns-clause-shrinks
returns-clause-shrinks g c =
    let slots = c.args.slots.now.items in
    let listed = c.unlist-listed.new in
    let tidy = c.tidy-ends.new.slots.items in
    let few = shrinks_fewer listed.slots.items tidy listed.entries c.tidy-ends.ensures.slots in
    let first = shrinks_then slots listed.slots.items tidy c.args.entries.now listed.entries listed.entries c.unlist-listed.ensures.shrinks few in
    shrinks_then slots tidy c.shed.new.slots.items c.args.entries.now listed.entries c.shed.new.entries first c.shed.ensures.shrinks
