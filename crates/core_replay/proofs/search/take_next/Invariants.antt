use Rattle.std.proofs.Common.{◌≡◌, false}
use Rattle.core_machine.specs.Machine.{has_ended}
use Rattle.core_machine.specs.Points.{work_left}
use Rattle.core_replay.specs.Standing.{IsPlayed}
use Rattle.core_replay.specs.inner.Replaying.{Awaits, IsSameOne}
use Rattle.core_replay.proofs.search.take_next.Given as goal

abbrev pub invariant-moves : goal.invariant-moves
invariant-moves l = record {
  same : IsSameOne l.fn.machine l.machine;
  journal : l.machine.journal ≡ l.fn.machine.journal;
  going : has_ended l.machine.state ≡ false;
  played : IsPlayed l.machine l.offers;
  awaits : Awaits l.machine l.entry.turn;
}

abbrev pub decreases-moves : goal.decreases-moves
decreases-moves l = work_left l.ranks l.machine
