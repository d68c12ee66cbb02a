use Rattle.std.proofs.Common.{◌≡◌, ◌+◌, List, ap, length, subst, sym, arith}
use Rattle.ac_base.specs.declared.ends.MachineEnd.{MachineEnd}
use Rattle.ac_replay.proofs.Ending.{AreFirst, all_replayed, first_more, first_none, runs_whole}
use Rattle.ac_replay.proofs.replaying.ends_of.Goals as goal

pub loop-core-init : goal.loop-core-init
loop-core-init c =
    subst (λ (ends : List MachineEnd). AreFirst c.args.code.now c.args.trace.now ends 0) (sym {A = List MachineEnd} c.new-ends.ensures) (first_none c.args.code.now c.args.trace.now)

pub end_of-requires-clause-run : goal.end_of-requires-clause-run
end_of-requires-clause-run c =
    let r = c.requires in
    let same = ap length c.entries.ensures in
    runs_whole r.0 c.args.code.now c.args.trace.now r.1 r.2 r.3 c.loop-core.core (omega (arith, same))

pub loop-core-preserved : goal.loop-core-preserved
loop-core-preserved c =
    subst (λ (ends : List MachineEnd). AreFirst c.args.code.now c.args.trace.now ends (c.loop-core.core + 1)) (sym c.in_ok-push.ensures.ok)
    (first_more c.args.code.now c.args.trace.now c.loop-core.ends c.in_ok-end_of.field-0 c.loop-core.core c.loop-core.invariant c.in_ok-end_of.ensures)

pub returns : goal.returns
returns c = λ program is.
    let same = ap length c.entries.ensures in
    let many : c.loop-core.core ≡ length c.args.code.now.entries = omega (arith, same) in
    all_replayed program c.args.code.now c.args.trace.now c.loop-core.ends is (subst (λ n. AreFirst c.args.code.now c.args.trace.now c.loop-core.ends n) many c.loop-core.invariant)
