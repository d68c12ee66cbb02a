use Rattle.std.proofs.Common.{ap, ◌∙◌, refl}
use Rattle.order_program.specs.Lines.{states_text}
use Rattle.order_program.proofs.states.told_of_closed.Goals as goal

pub returns : goal.returns
returns c = record {
  ends = c.in_ok-ends.ends;
  status = refl;
  text_is = c.in_ok-states_text.ensures ∙ ap (λ names. states_text names c.as_slice-2.result.now) (c.as_slice.ensures ∙ c.names.ensures)
      ∙ ap (λ ends. states_text c.args.code.now.names ends) c.as_slice-2.ensures;
  are_states = λ program h s. c.in_ok-ends.ensures _ (c.requires.code ∙ h) (rw c.requires.code s);
}
