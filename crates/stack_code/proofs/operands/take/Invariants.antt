use Rattle.std.proofs.Common.{◌≡◌, drop}
use Rattle.stack_code.specs.Shapes.{taken}
use Rattle.stack_code.proofs.operands.take.Given as goal

abbrev pub invariant-loop-want : goal.invariant-loop-want
invariant-loop-want l = taken l.wants l.fn.shape.operands ≡ taken (drop l.want-index l.wants) l.operands
