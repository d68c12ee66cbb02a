use Rattle.std.proofs.Common.{◌≡◌, map, take}
use Rattle.stack_code.specs.Shapes.{directives_in}
use Rattle.stack_code.proofs.texts.all_directives.Given as goal

abbrev pub invariant-loop-text : goal.invariant-loop-text
invariant-loop-text l = l.counts ≡ map directives_in (take l.text-index l.texts)
