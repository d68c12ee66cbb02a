use Rattle.std.proofs.Common.{◌∙◌}
use Rattle.ac_program.proofs.Said.{judged_as}
use Rattle.ac_program.proofs.auditing.judged.Goals as goal

pub returns : goal.returns
returns c =
    let within = c.if-from-trace-gt-MOST_STEPS.false in
    judged_as c.args.checked.now c.args.trace.now c.in_ok-verdict.verdict c.said-2.result c.verdict_status.result c.in_ok-verdict_line.field-0 c.said-2.ensures
    c.verdict_status.ensures c.in_ok-verdict_line.ensures c.from.result (c.from.ensures ∙ c.cores.ensures) within c.in_ok-verdict.ensures
