use Rattle.std.proofs.Common.{refl, subst, inr}
use Rattle.ac_words.specs.declared.task.Task.TheVariants.{Check}
use Rattle.program_reading.specs.Source.{Stops}
use Rattle.ac_program.specs.Auditing.{IsDueOfSource, IsDueOfTrace}
use Rattle.ac_program.specs.Auditing.IsDueOfSource.{refused, ready}
use Rattle.ac_program.proofs.Said.{answered_refusal, answered_as}
use Rattle.ac_program.proofs.auditing.audit_source.Goals as goal

pub returns-in-Err-Refused-clause-answered : goal.returns-in-Err-Refused-clause-answered
returns-in-Err-Refused-clause-answered g c =
    let r = c.in-Err-Refused in
    let a = c.refuse_source in
    let h = subst (Stops c.args.source.now Check) r.field-0-is r.ensures in
    answered_refusal (IsDueOfSource c.args.source.now c.args.trace.now _ _) r.refusal _ _ a.result (refused r.refusal refl refl h refl)
    a.ensures.run a.ensures.status a.ensures.whole a.ensures.part a.ensures.memory a.ensures.sink a.ensures.other.0 a.ensures.other.1.1

pub returns-in-Ok-clause-answered : goal.returns-in-Ok-clause-answered
returns-in-Ok-clause-answered g c =
    answered_as (IsDueOfTrace c.in-Ok.checked c.args.trace.now _ _) (IsDueOfSource c.args.source.now c.args.trace.now _ _) (λ n t due. ready c.in-Ok.checked c.in-Ok.ensures due)
    _ _ c.audit_trace.result c.audit_trace.ensures.answered

pub returns-in-Ok-clause-read : goal.returns-in-Ok-clause-read
returns-in-Ok-clause-read g c = λ is. inr (record { program = c.in-Ok.checked; is_ready = c.in-Ok.ensures; read = c.audit_trace.ensures.read is })
