use Rattle.std.proofs.Common.{refl, length}
use Rattle.std.proofs.lemmas.Option.{slice_get_read, slice_get_past}
use Rattle.trace_audit.proofs.Stepping.{core_result, all_result, worker_takes}
use Rattle.trace_audit.proofs.replays.Replays.step.Goals as goal

pub returns-in-Some-clause-takes : goal.returns-in-Some-clause-takes
returns-in-Some-clause-takes c =
    core_result c.take.result c.args.self.now.cores.items c.args.stamped.now c.in-Some.core.now c.take.new.self
    (slice_get_read c.args.self.now.cores.items (length c.args.self.now.cores.items) c.args.stamped.now.party c.in-Some.core.now refl c.in-Some.ensures.item.3.0 c.in-Some.ensures.value)
    c.take.ensures.same c.take.ensures.took c.take.ensures.refused c.take.ensures.runs

pub take-requires : goal.take-requires
take-requires c = c.requires c.args.stamped.now.party c.in-Some.core.now
    (slice_get_read c.args.self.now.cores.items (length c.args.self.now.cores.items) c.args.stamped.now.party c.in-Some.core.now refl c.in-Some.ensures.item.3.0 c.in-Some.ensures.value)

pub returns-in-Some-clause-took_all : goal.returns-in-Some-clause-took_all
returns-in-Some-clause-took_all c = all_result c.take.result c.args.self.now.cores.items c.args.stamped.now.party c.take.new.self c.requires c.take.ensures.took_all

pub returns-in-None-clause-takes : goal.returns-in-None-clause-takes
returns-in-None-clause-takes c = worker_takes c.args.self.now.cores.items c.args.stamped.now (slice_get_past c.args.self.now.cores.items c.args.stamped.now.party c.in-None.ensures.item.3)
