use Rattle.std.proofs.Common.{◌≡◌, drop}
use Rattle.stack_code.specs.inner.Rises.{rising_from}
use Rattle.stack_code.proofs.lists.rise.Given as goal

abbrev pub invariant-loop-start : goal.invariant-loop-start
invariant-loop-start l = rising_from 0 l.starts ≡ rising_from l.next (drop l.start-index l.starts)
