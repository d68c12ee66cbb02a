use Rattle.ac_reach.proofs.Rows.{few_rows, rows_are}
use Rattle.ac_reach.proofs.reached.find_reach.Goals as goal

pub rows-requires : goal.rows-requires
rows-requires c = few_rows c.args.calls.now c.args.entries.now c.in_ok-flags.flags c.as_slice.result.now c.in_ok-flags.ensures c.as_slice.ensures c.requires

pub returns-clause-rows : goal.returns-clause-rows
returns-clause-rows c = rows_are c.args.calls.now c.args.entries.now c.in_ok-flags.flags c.as_slice.result.now c.in_ok-rows.rows c.as_slice.ensures c.in_ok-flags.ensures c.in_ok-rows.ensures
