use Rattle.ac_reach.proofs.Rows.{finished}
use Rattle.ac_reach.proofs.reached.reach_table.Goals as goal

pub returns : goal.returns
returns c = finished c.args.calls.now c.args.entries.now c.loop-entry.table c.loop-entry.entry-index c.loop-entry-test.false c.loop-entry.invariant
