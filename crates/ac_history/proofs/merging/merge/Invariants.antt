use Rattle.std.proofs.Common.{◌≡◌, ◌++◌, drop, map}
use Rattle.ac_history.specs.Merged.{all_from, entries_of}
use Rattle.ac_history.proofs.merging.merge.Given as goal

abbrev pub invariant-loop-party : goal.invariant-loop-party
invariant-loop-party l = l.all ++ all_from l.party (map entries_of (drop l.party l.journals)) ≡ all_from 0 (map entries_of l.journals)
