use Rattle.std.proofs.Common.{◌≡◌, ◌-◌, replicate}
use Rattle.stack_code.specs.declared.shape.Want.TheVariants as want
use Rattle.stack_code.specs.Shapes.{taken}
use Rattle.stack_code.proofs.operands.take_ints.Given as goal

abbrev pub invariant-loop : goal.invariant-loop
invariant-loop l = taken (replicate l.count want.Int) l.fn.shape.operands ≡ taken (replicate (l.count - l.counter) want.Int) l.operands
