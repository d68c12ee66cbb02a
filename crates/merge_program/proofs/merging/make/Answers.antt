use Rattle.std.proofs.Common.{ap, sym, ◌∙◌, subst}
use Rattle.merge_run.specs.Series.{IsMerged}
use Rattle.merge_program.specs.Lines.{merge_text}
use Rattle.merge_program.proofs.merging.make.Goals as goal

pub returns : goal.returns
returns g c = record {
  merged = subst (λ ms. IsMerged c.args.call.messages c.args.call.producers ms) (sym c.from_vec.ensures) c.in_ok-received.ensures;
  text_is = c.in_ok-text.ensures ∙ ap (λ ms. merge_text c.args.call.producers ms) (c.as_slice.ensures.value ∙ sym c.from_vec.ensures);
}
