use Rattle.std.proofs.Common.{arith}
use Rattle.ac_reach.proofs.Searches.{begins_at, goes_on, over_at, ends_at}
use Rattle.ac_reach.proofs.search.reached_from.Goals as goal

pub loop-next-init : goal.loop-next-init
loop-next-init c = begins_at c.args.calls.now c.args.entry c.in_ok-search.search c.add_entry.new.self c.in_ok-search.ensures c.in_ok-add_entry.ensures

pub loop-next-preserved : goal.loop-next-preserved
loop-next-preserved c =
    goes_on c.args.calls.now c.args.entry c.loop-next.next c.loop-next.search c.add_calls.new.self c.in-Some.function c.loop-next.invariant c.in-Some.ensures c.in_ok-add_calls-in-Some.ensures

pub returns-in-None : goal.returns-in-None
returns-in-None c = over_at c.args.calls.now c.args.entry c.loop-next.next c.loop-next.search c.into_flags.result c.loop-next.invariant c.in-None.ensures c.into_flags.ensures

pub returns : goal.returns
returns c = ends_at c.args.calls.now c.args.entry c.loop-next.next c.loop-next.search c.into_flags-2.result c.loop-next.invariant (omega arith) c.into_flags-2.ensures
