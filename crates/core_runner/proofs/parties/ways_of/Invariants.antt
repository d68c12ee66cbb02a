use Rattle.std.proofs.Common.{◌≡◌, ◌+◌, length}
use Rattle.core_runner.proofs.Ways.{AreWaysSoFar}
use Rattle.core_runner.proofs.parties.ways_of.Given as goal

abbrev pub invariant-loop-channel : goal.invariant-loop-channel
invariant-loop-channel l = record {
  count : length l.ways.items ≡ l.channel-index;
  each : AreWaysSoFar l.ends l.cores l.ways.items;
}

abbrev pub invariant-loop-core : goal.invariant-loop-core
invariant-loop-core l = record {
  count : length l.ways.items ≡ length l.ends + l.core;
  each : AreWaysSoFar l.ends l.cores l.ways.items;
}
