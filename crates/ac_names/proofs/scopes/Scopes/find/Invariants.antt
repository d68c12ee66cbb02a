use Rattle.std.proofs.Common.{◌≡◌, ◌≤◌, take, length, reverse}
use Rattle.ac_names.specs.Scopes.{visible}
use Rattle.ac_names.proofs.scopes.Scopes.find.Given as goal

abbrev pub invariant-loop-left : goal.invariant-loop-left
invariant-loop-left l = (l.left ≤ length l.self-inside.tables.items) × (visible l.name (reverse (take l.left l.self-inside.tables.items)) ≡ visible l.name l.self)

abbrev pub decreases-loop-left : goal.decreases-loop-left
decreases-loop-left l = l.left
