-- What has been appended and what is left are all items.
use Rattle.std.proofs.Common.{◌≡◌, ◌+◌, ◌≤◌, ◌++◌, drop, length}
use Rattle.ac_base.proofs.draft.Draft.append.Given as goal

abbrev pub invariant-loop-item : goal.invariant-loop-item
invariant-loop-item g l =
    (l.self.0 ++ drop l.item-index l.items ≡ l.initial.self.0 ++ l.items)
    × (l.self.1 + l.item-index ≡ l.initial.self.1) × (l.item-index ≤ length l.items)
