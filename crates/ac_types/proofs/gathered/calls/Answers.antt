use Rattle.ac_reach.specs.declared.reached.Reached.TheVariants as r
use Rattle.std.proofs.Common.{refl}
use Rattle.ac_types.proofs.Called.{calls_told, carried_told}
use Rattle.ac_types.proofs.gathered.calls.Goals as goal

pub returns-clause-calls : goal.returns-clause-calls
returns-clause-calls c =
    calls_told c.args.tables.now c.args.function.now r.ByNone (record { first = c.args.walk.now.seen.first; calls = c.new.result; carried = c.args.walk.now.seen.carried }) c.args.walk.now
    c.see_function.new.walk c.replace-calls.result c.new.ensures c.in_ok-see_function.ensures c.replace-calls.ensures.value

pub returns-clause-carried : goal.returns-clause-carried
returns-clause-carried c =
    carried_told c.args.tables.now c.args.function.now r.ByNone (record { first = c.args.walk.now.seen.first; calls = c.new.result; carried = c.args.walk.now.seen.carried }) c.args.walk.now
    c.see_function.new.walk refl c.in_ok-see_function.ensures
