use Rattle.std.proofs.Common.{length, drop, ◌-◌, ◌≤◌}
use Rattle.ac_lexer.proofs.WholeText.{So}
use Rattle.ac_lexer.proofs.lexer.tokens_of.Given as goal

abbrev pub invariant-pieces : goal.invariant-pieces
invariant-pieces l = record { so : So l.text l.tokens l.at (drop l.at l.text); within : l.at ≤ length l.text }

abbrev pub decreases-pieces : goal.decreases-pieces
decreases-pieces l = length l.text - l.at
