use Rattle.std.proofs.Common.{List, ℕ, length, sym, ◌∙◌, subst}
use Rattle.std.specs.Prelude.{Some}
use Rattle.ac_program.specs.Headline.{IsLeft, TookWhole, TookPart, summed}
use Rattle.ac_program.specs.Making.{IsDueOf}
use Rattle.program_reading.specs.Reading.{IsShort}
use Rattle.ac_program.proofs.Loads.{far_below}
use Rattle.ac_program.proofs.loading.load.Goals as goal

pub do_source-requires-clause-short : goal.do_source-requires-clause-short
do_source-requires-clause-short g c κs within = subst IsShort (sym c.as_slice.ensures) (far_below (length c.in-Ok.text) c.in-Ok.ensures.short)

pub returns-in-Ok-clause-whole : goal.returns-in-Ok-clause-whole
returns-in-Ok-clause-whole g c =
    λ well kept. subst (λ (bytes : List ℕ). TookWhole (IsDueOf bytes (summed c.args.turns c.args.steps) (g.D.Disk.told c.args.disk.now)
    (g.D.Disk.told c.do_source.new.disk)) c.do_source.result.status.number c.do_source.result.run
    (g.K.Sink.told c.args.sink.now) (g.K.Sink.told c.do_source.new.sink)) (c.as_slice.ensures ∙ c.in-Ok.ensures.same) (c.do_source.ensures.whole well kept)

pub returns-in-Ok-clause-part : goal.returns-in-Ok-clause-part
returns-in-Ok-clause-part g c =
    λ failed. subst (λ (bytes : List ℕ). TookPart (IsDueOf bytes (summed c.args.turns c.args.steps) (g.D.Disk.told c.args.disk.now) (g.D.Disk.told c.do_source.new.disk)) c.do_source.result.run
    (g.K.Sink.told c.args.sink.now) (g.K.Sink.told c.do_source.new.sink)) (c.as_slice.ensures ∙ c.in-Ok.ensures.same) (c.do_source.ensures.part failed)

pub returns-in-Ok-clause-left : goal.returns-in-Ok-clause-left
returns-in-Ok-clause-left g c =
    λ is. subst (λ (bytes : List ℕ). IsLeft (Some bytes) (summed c.args.turns c.args.steps) (g.D.Disk.told c.args.disk.now) (g.D.Disk.told c.do_source.new.disk)) (c.as_slice.ensures
    ∙ c.in-Ok.ensures.same) (c.do_source.ensures.left is)
