use Rattle.std.proofs.Common.{◌≡◌, ◌≤◌, length, take}
use Rattle.stack_code.specs.Shapes.{taken, arguments}
use Rattle.stack_code.proofs.operands.take_arguments.Given as goal

abbrev pub invariant-loop-left : goal.invariant-loop-left
invariant-loop-left l = record {
  same : taken (arguments l.params) l.fn.shape.operands ≡ taken (arguments (take l.left l.params)) l.operands;
  inside : l.left ≤ length l.params;
}

abbrev pub decreases-loop-left : goal.decreases-loop-left
decreases-loop-left l = l.left
