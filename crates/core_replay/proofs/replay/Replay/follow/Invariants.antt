use Rattle.std.proofs.Common.{◌≡◌, take, true}
use Rattle.replay_laws.specs.Given.{HasRun}
use Rattle.core_replay.specs.Replayed.{IsSameCore}
use Rattle.core_replay.proofs.Following.{HasFollowed}
use Rattle.core_replay.proofs.replay.Replay.follow.Given as goal

abbrev pub invariant-loop-place : goal.invariant-loop-place
invariant-loop-place l = record {
  took_all : l.self.took_all ≡ true;
  same : IsSameCore l.initial.self l.self;
  taken : l.self.journal ≡ take l.place l.journal.entries;
  runs : HasRun l.self.code l.self.core l.self.bound l.self.journal;
  followed : HasFollowed l.initial.self l.journal.entries l.place;
}
