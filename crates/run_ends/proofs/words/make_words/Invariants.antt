use Rattle.std.proofs.Common.{◌≡◌, ◌+◌, ◌<◌, ◌≤◌, ◌++◌, [], length}
use Rattle.run_ends.specs.Unused.{AreUnusedAt}
use Rattle.run_ends.proofs.words.make_words.Given as goal

abbrev pub invariant-loop-at : goal.invariant-loop-at
invariant-loop-at l = record {
  words : length l.words.items ≡ l.at;
  seats : length l.first.items + length l.others.items ≡ l.at;
  first : length l.first.items ≤ l.channels;
  others : length l.first.items < l.channels → l.others.items ≡ [];
  unused : AreUnusedAt l.capacities l.words.items (l.first.items ++ l.others.items);
}
