use Rattle.std.proofs.Common.{◌≡◌, ◌++◌, drop}
use Rattle.ac_resolve.specs.Resolution.{cores_in}
use Rattle.ac_resolve.proofs.items.cores_in.Given as goal

abbrev pub invariant-loop-item : goal.invariant-loop-item
invariant-loop-item l = l.list ++ cores_in (drop l.item-index l.items) l.scopes ≡ cores_in l.items l.scopes
