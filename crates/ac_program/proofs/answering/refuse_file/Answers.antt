use Rattle.std.proofs.Common.{ap, ◌∙◌, codes, subst}
use Rattle.ac_outside.specs.Told.{GrewBy}
use Rattle.program_reading.specs.Lines.{place_line}
use Rattle.ac_program.proofs.answering.refuse_file.Goals as goal

pub returns-in-Ok-clause-whole : goal.returns-in-Ok-clause-whole
returns-in-Ok-clause-whole g c = λ well _.
    subst (λ text. GrewBy (g.K.Sink.told c.args.sink.now).held (g.K.Sink.told c.refuse_with.new.sink).held text)
    (c.as_slice.ensures ∙ c.in-Ok.ensures ∙ ap (place_line (codes "limit: file ")) c.from.ensures) (c.refuse_with.ensures.whole well)
