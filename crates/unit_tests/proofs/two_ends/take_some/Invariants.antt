use Rattle.channel_ends.specs.Pairs.{IsSameRecv}
use Rattle.unit_tests.proofs.two_ends.take_some.Given as goal

abbrev pub invariant-loop-call : goal.invariant-loop-call
invariant-loop-call l = IsSameRecv l.initial.recv l.recv
