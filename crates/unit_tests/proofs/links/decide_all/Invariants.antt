use Rattle.completion_word.specs.Seats.{IsPeerOf}
use Rattle.unit_tests.proofs.links.decide_all.Given as goal

abbrev pub invariant-loop-turn : goal.invariant-loop-turn
invariant-loop-turn l = IsPeerOf l.peer l.words
