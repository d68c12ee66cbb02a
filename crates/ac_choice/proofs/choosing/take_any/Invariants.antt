use Rattle.std.proofs.Common.{◌≡◌}
use Rattle.ac_choice.proofs.Asked.{Asked}
use Rattle.ac_choice.proofs.choosing.take_any.Given as goal

abbrev pub invariant-loop-asked : goal.invariant-loop-asked
invariant-loop-asked g l =
    record { asked : Asked l.fn.ends l.first l.fn.clock l.asked l.waits l.ends; clock : l.clock ≡ l.fn.clock }
