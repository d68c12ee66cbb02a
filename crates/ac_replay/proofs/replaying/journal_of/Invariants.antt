use Rattle.std.proofs.Common.{◌≡◌, ◌++◌, drop}
use Rattle.trace_audit.specs.RunTrace.{journal_of}
use Rattle.ac_replay.proofs.replaying.journal_of.Given as goal

abbrev pub invariant-loop-stamped : goal.invariant-loop-stamped
invariant-loop-stamped l = l.journal.entries ++ journal_of l.core (drop l.stamped-index l.entries) ≡ journal_of l.core l.entries
