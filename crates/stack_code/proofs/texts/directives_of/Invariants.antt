use Rattle.std.proofs.Common.{◌≡◌, ◌+◌, ◌≤◌, drop}
use Rattle.stack_code.specs.Shapes.{directives, directives_in}
use Rattle.stack_code.proofs.texts.directives_of.Given as goal

abbrev pub invariant-loop-b : goal.invariant-loop-b
invariant-loop-b l = record {
  rest : l.count + directives l.directly (drop l.b-index l.text) ≡ directives_in l.text;
  few : l.count ≤ l.b-index;
}
