use Rattle.std.proofs.Common.{sym, ap, ◌∙◌}
use Rattle.std.specs.Prelude.{if◌then◌else◌}
use Rattle.ac_history.specs.Served.{state_after}
use Rattle.trace_audit.proofs.Stepping.{steps_result}
use Rattle.trace_audit.proofs.auditing.step.Goals as goal

pub returns-clause-steps : goal.returns-clause-steps
returns-clause-steps c = steps_result c.step-2.result c.args.legal.now c.step.new.self c.args.replays.now.cores.items c.step-2.new.self.cores.items c.args.stamped.now
    (sym c.in_ok-step.ensures.answer ∙ c.if-not-branch.false)
    (c.in_ok-step.ensures.state ∙ ap (λ b. if b then state_after c.args.legal.now c.args.stamped.now else c.args.legal.now) c.if-not-branch.false) c.step-2.ensures.takes
