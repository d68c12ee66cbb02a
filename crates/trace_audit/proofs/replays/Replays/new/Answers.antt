use Rattle.std.proofs.Common.{sym, subst, ◌+◌, List}
use Rattle.core_replay.specs.Replayed.{Replayed}
use Rattle.trace_audit.proofs.Stepping.{AreFirst, one_more_core}
use Rattle.trace_audit.proofs.replays.Replays.new.Goals as goal

pub loop-core-preserved : goal.loop-core-preserved
loop-core-preserved c =
    let r = c.in_ok-new.ensures in
    subst (λ rs. AreFirst c.args.code.now c.args.steps rs (c.loop-core.core + 1)) (sym {A = List Replayed} c.in_ok-push.ensures.items)
    (one_more_core c.args.code.now c.args.steps c.loop-core.cores.items c.in_ok-new.field-0 c.loop-core.core c.loop-core.invariant r.code r.core r.bound r.journal r.took_all)
