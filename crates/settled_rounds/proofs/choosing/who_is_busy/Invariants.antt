use Rattle.std.proofs.Common.{length}
use Rattle.settled_rounds.specs.inner.Choosing.{IsPlaceIn}
use Rattle.settled_rounds.proofs.choosing.who_is_busy.Given as goal

abbrev pub invariant-loop-place : goal.invariant-loop-place
invariant-loop-place g l = IsPlaceIn (length l.parties) l.found

abbrev pub invariant-loop-link : goal.invariant-loop-link
invariant-loop-link g l = IsPlaceIn (length l.parties) l.found
