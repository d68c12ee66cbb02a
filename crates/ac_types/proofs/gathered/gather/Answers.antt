use Rattle.ac_types.proofs.Gathering.{gathered_told, few_entered}
use Rattle.ac_types.proofs.gathered.gather.Goals as goal

pub find_reach-requires : goal.find_reach-requires
find_reach-requires c =
    few_entered c.args.items.now c.args.walk.now.names.scopes c.in_ok-entered.entered c.as_slice-3.result.now c.requires.scopes c.in_ok-entered.ensures c.as_slice-3.ensures c.requires.few

pub returns-clause-tables : goal.returns-clause-tables
returns-clause-tables c =
    gathered_told c.args.items.now c.args.walk.now.names.scopes c.requires.scopes c.in_ok-signatures.field-0 c.in_ok-all_ends.field-0 c.new.result c.new-2.result c.in_ok-signatures.ensures
    c.in_ok-all_ends.ensures c.new.ensures c.new-2.ensures c.in_ok-calls.calls c.as_slice-2.result.now c.in_ok-entered.entered c.as_slice-3.result.now c.in_ok-reach.reach.flags
    c.in_ok-reach.reach.rows
    c.new-3.result.carried c.all_calls.new.walk.seen.carried c.as_slice.result.now c.len.result _
    c.in_ok-calls.ensures.calls c.in_ok-entered.ensures c.as_slice-2.ensures c.as_slice-3.ensures c.in_ok-reach.ensures.flags c.in_ok-reach.ensures.rows
    c.new-3.ensures.carried c.in_ok-calls.ensures.carried c.as_slice.ensures c.len.ensures c.in_ok-tables.ensures
