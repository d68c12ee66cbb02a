use Rattle.std.proofs.Common.{◌≡◌, ◌⊎◌, Err, refl, ap, subst, arith}
use Rattle.program_reading.specs.Lines.{library_line, limit_source_line}
use Rattle.program_reading.specs.Files.{IsTraceRead}
use Rattle.ac_program.specs.Auditing.{IsDueOfAudit, IsDueOfSource}
use Rattle.ac_program.specs.Auditing.IsDueOfAudit.{library_fault, too_long, source}
use Rattle.program_reading.proofs.TwoFiles.{files_read}
use Rattle.ac_program.proofs.Said.{answered, answered_as}
use Rattle.ac_program.proofs.auditing.audit_files.Goals as goal

pub returns-in-Err-Failed-clause-answered : goal.returns-in-Err-Failed-clause-answered
returns-in-Err-Failed-clause-answered g c = let a = c.refuse in let r = c.in-Err-Failed in
    answered (IsDueOfAudit c.args.file.now c.args.trace.now _ _) 7 library_line _ _ a.result (library_fault refl refl (record { just = r.ensures.just; reads = r.ensures.tried }) (r.ensures.failed
    (ap Err r.field-0-is)))
    a.ensures.run a.ensures.status a.ensures.whole a.ensures.part a.ensures.sink (omega arith) (omega arith) (omega arith)

pub returns-in-Err-TooLong-clause-answered : goal.returns-in-Err-TooLong-clause-answered
returns-in-Err-TooLong-clause-answered g c = let a = c.refuse-in-Err-TooLong in let r = c.in-Err-TooLong in
    answered (IsDueOfAudit c.args.file.now c.args.trace.now _ _) 10 limit_source_line _ _ a.result
    (too_long refl refl (record { just = r.ensures.just; well = r.ensures.well (λ e. cc (e, r.field-0-is)); reads = r.ensures.took (λ e. cc (e, r.field-0-is)) }) (r.ensures.long
    (ap Err r.field-0-is)))
    a.ensures.run a.ensures.status a.ensures.whole a.ensures.part a.ensures.sink (omega arith) (omega arith) (omega arith)

pub returns-in-Ok-clause-answered : goal.returns-in-Ok-clause-answered
returns-in-Ok-clause-answered g c = let r = c.in-Ok in
    answered_as (IsDueOfSource c.as_slice.result.now c.args.trace.now (g.L.Library.told c.read_text.new.library) (g.L.Library.told c.audit_source.new.library))
    (IsDueOfAudit c.args.file.now c.args.trace.now _ _)
    (λ n t due. source r.source (g.L.Library.told c.read_text.new.library) (record {
      read = record {
        just = r.ensures.just;
        well = r.ensures.well (λ e. cc (e));
        reads = r.ensures.took (λ e. cc
            (e));
      };
      few = r.ensures.few;
    }) r.ensures.whole r.ensures.short r.ensures.same
    (subst (λ bytes. IsDueOfSource bytes c.args.trace.now (g.L.Library.told c.read_text.new.library) (g.L.Library.told c.audit_source.new.library) n t) c.as_slice.ensures due))
    _ _ c.audit_source.result c.audit_source.ensures.answered

pub returns-in-Ok-clause-read : goal.returns-in-Ok-clause-read
returns-in-Ok-clause-read g c = let r = c.in-Ok in
    λ is. files_read c.args.file.now c.args.trace.now r.source (g.L.Library.told c.args.library.now) (g.L.Library.told c.read_text.new.library) (g.L.Library.told c.audit_source.new.library)
    (record { read = record { just = r.ensures.just; well = r.ensures.well (λ e. cc (e)); reads = r.ensures.took (λ e. cc (e)) }; few = r.ensures.few }) r.ensures.whole r.ensures.short
    (subst (λ bytes. (g.L.Library.told c.audit_source.new.library ≡ g.L.Library.told c.read_text.new.library) ⊎ IsTraceRead bytes c.args.trace.now (g.L.Library.told c.read_text.new.library)
    (g.L.Library.told c.audit_source.new.library)) c.as_slice.ensures (c.audit_source.ensures.read is))
