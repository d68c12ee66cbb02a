use Rattle.std.proofs.Common.{◌≡◌, ◌++◌, drop}
use Rattle.order_program.specs.Lines.{states_text}
use Rattle.order_program.proofs.states.states_text.Given as goal

abbrev pub invariant-loop-place : goal.invariant-loop-place
invariant-loop-place l = l.text.items ++ states_text (drop l.place l.names) (drop l.place l.ends) ≡ states_text l.names l.ends
