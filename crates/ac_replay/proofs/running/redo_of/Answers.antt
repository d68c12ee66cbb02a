use Rattle.std.proofs.Common.{ap, length, ◌∙◌}
use Rattle.ac_resolve.specs.Resolution.{resolved}
use Rattle.ac_replay.proofs.Redoing.{as_many_names, is_redo}
use Rattle.ac_replay.proofs.running.redo_of.Goals as goal

pub report-requires : goal.report-requires
report-requires c =
    let r = c.requires in ap length c.names.ensures ∙ as_many_names r.0 c.args.code.now c.args.trace.now c.in_ok-ends.ends r.1 (c.in_ok-ends.ensures r.0 r.1)

pub returns : goal.returns
returns c = λ program is.
    is_redo program c.args.code.now c.args.trace.now is _ c.in_ok-ends.ends c.names.result.now c.as_slice.result.now c.as_slice-2.result.now (c.in_ok-ends.ensures (resolved program) is)
    c.status.ensures c.names.ensures c.in_ok-report.ensures (c.as_slice.ensures ∙ c.capacities.ensures) c.as_slice-2.ensures c.in_ok-writes.ensures
