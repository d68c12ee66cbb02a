use Rattle.std.proofs.Common.{Err, None, refl, ap, subst}
use Rattle.std.specs.Prelude.{Some}
use Rattle.program_reading.specs.Lines.{library_line, limit_source_line}
use Rattle.ac_program.specs.Headline.{IsDueOfFile, IsLeft}
use Rattle.ac_program.specs.Making.{IsDueOf}
use Rattle.ac_program.specs.Headline.IsDueOfFile.{library_fault, too_long, source}
use Rattle.ac_program.proofs.Endings.{part_of, whole_as, part_as}
use Rattle.ac_program.proofs.Left.{left_as}
use Rattle.ac_program.proofs.answering.do_file.Goals as goal

pub returns-in-Err-Failed-clause-part : goal.returns-in-Err-Failed-clause-part
returns-in-Err-Failed-clause-part g c = let a = c.refuse in let r = c.in-Err-Failed in
    part_of (IsDueOfFile _ _ _ _ _ _) 7 a.result.status.number library_line None a.result.run _ _
    (library_fault refl refl refl (record { just = r.ensures.just; reads = r.ensures.tried }) (r.ensures.failed (ap Err r.field-0-is)) refl)
    a.ensures.run a.ensures.part

pub returns-in-Err-TooLong-clause-part : goal.returns-in-Err-TooLong-clause-part
returns-in-Err-TooLong-clause-part g c = let a = c.refuse-in-Err-TooLong in let r = c.in-Err-TooLong in
    part_of (IsDueOfFile _ _ _ _ _ _) 10 a.result.status.number limit_source_line None a.result.run _ _
    (too_long refl refl refl (record { just = r.ensures.just; well = r.ensures.well (λ e. cc (e, r.field-0-is)); reads = r.ensures.took (λ e. cc (e, r.field-0-is)) }) (r.ensures.long
    (ap Err r.field-0-is)) refl)
    a.ensures.run a.ensures.part

pub returns-in-Ok-clause-whole : goal.returns-in-Ok-clause-whole
returns-in-Ok-clause-whole g c = let r = c.in-Ok in
    λ well kept. whole_as (IsDueOf c.as_slice.result.now c.args.task (g.D.Disk.told c.args.disk.now) (g.D.Disk.told c.do_source.new.disk)) (IsDueOfFile _ _ _ _ _ _)
    (λ n t run due. source r.source (record {
      read = record {
        just = r.ensures.just;
        well = r.ensures.well (λ e. cc (e));
        reads = r.ensures.took (λ e. cc
            (e));
      };
      few = r.ensures.few;
    }) r.ensures.whole r.ensures.short
    (subst (λ bytes. IsDueOf bytes c.args.task (g.D.Disk.told c.args.disk.now) (g.D.Disk.told c.do_source.new.disk) n t run) c.as_slice.ensures due))
    c.do_source.result.run _ _ c.do_source.result.status.number (c.do_source.ensures.whole well kept)

pub returns-in-Ok-clause-part : goal.returns-in-Ok-clause-part
returns-in-Ok-clause-part g c = let r = c.in-Ok in
    λ failed. part_as (IsDueOf c.as_slice.result.now c.args.task (g.D.Disk.told c.args.disk.now) (g.D.Disk.told c.do_source.new.disk)) (IsDueOfFile _ _ _ _ _ _)
    (λ n t run due. source r.source (record {
      read = record {
        just = r.ensures.just;
        well = r.ensures.well (λ e. cc (e));
        reads = r.ensures.took (λ e. cc
            (e));
      };
      few = r.ensures.few;
    }) r.ensures.whole r.ensures.short
    (subst (λ bytes. IsDueOf bytes c.args.task (g.D.Disk.told c.args.disk.now) (g.D.Disk.told c.do_source.new.disk) n t run) c.as_slice.ensures due))
    c.do_source.result.run _ _ (c.do_source.ensures.part failed)

pub returns-in-Ok-clause-left : goal.returns-in-Ok-clause-left
returns-in-Ok-clause-left g c =
    let disk = g.D.Disk.told c.args.disk.now in
    let later = g.D.Disk.told c.do_source.new.disk in
    λ is. left_as _ c.in-Ok.source c.args.task disk later c.in-Ok.ensures.whole
    (subst (λ bytes. IsLeft (Some bytes) c.args.task disk later) c.as_slice.ensures (c.do_source.ensures.left is))
