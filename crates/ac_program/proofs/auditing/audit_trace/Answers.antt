use Rattle.std.proofs.Common.{Err, refl, ap, subst, arith}
use Rattle.program_reading.specs.Lines.{library_line, limit_trace_line}
use Rattle.ac_program.specs.Auditing.{IsDueOfTrace, IsDueOfTraced}
use Rattle.ac_program.specs.Auditing.IsDueOfTrace.{library_fault, too_long, read}
use Rattle.ac_program.proofs.Said.{answered, answered_as}
use Rattle.ac_program.proofs.auditing.audit_trace.Goals as goal

pub returns-in-Err-Failed-clause-answered : goal.returns-in-Err-Failed-clause-answered
returns-in-Err-Failed-clause-answered g c = let a = c.refuse in let r = c.in-Err-Failed in
    answered (IsDueOfTrace c.args.checked.now c.args.trace.now _ _) 7 library_line _ _ a.result (library_fault refl refl (record { just = r.ensures.just; reads = r.ensures.tried }) (r.ensures.failed
    (ap Err r.field-0-is)))
    a.ensures.run a.ensures.status a.ensures.whole a.ensures.part a.ensures.sink (omega arith) (omega arith) (omega arith)

pub returns-in-Err-TooLong-clause-answered : goal.returns-in-Err-TooLong-clause-answered
returns-in-Err-TooLong-clause-answered g c = let a = c.refuse-in-Err-TooLong in let r = c.in-Err-TooLong in
    answered (IsDueOfTrace c.args.checked.now c.args.trace.now _ _) 10 limit_trace_line _ _ a.result
    (too_long refl refl (record { just = r.ensures.just; well = r.ensures.well (λ e. cc (e, r.field-0-is)); reads = r.ensures.took (λ e. cc (e, r.field-0-is)) }) (r.ensures.long
    (ap Err r.field-0-is)))
    a.ensures.run a.ensures.status a.ensures.whole a.ensures.part a.ensures.sink (omega arith) (omega arith) (omega arith)

pub returns-in-Ok-clause-answered : goal.returns-in-Ok-clause-answered
returns-in-Ok-clause-answered g c = let r = c.in-Ok in
    answered_as (IsDueOfTraced c.args.checked.now c.as_slice.result.now) (IsDueOfTrace c.args.checked.now c.args.trace.now _ _)
    (λ n t due. read r.text (record {
      read = record {
        just = r.ensures.just;
        well = r.ensures.well (λ e. cc (e));
        reads = r.ensures.took (λ e. cc
            (e));
      };
      few = r.ensures.few;
    }) r.ensures.whole r.ensures.short
    (subst (λ bytes. IsDueOfTraced c.args.checked.now bytes n t) c.as_slice.ensures due)) _ _ c.audit_text.result c.audit_text.ensures
