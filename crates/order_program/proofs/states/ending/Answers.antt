use Rattle.std.proofs.Common.{◌∙◌, append_assoc}
use Rattle.order_program.proofs.states.ending.Goals as goal

pub returns : goal.returns
returns c = c.in_ok-format.ensures.ok ∙ simp (c.end_word-word.ensures, append_assoc)
