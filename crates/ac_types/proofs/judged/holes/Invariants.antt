use Rattle.std.proofs.Common.{◌≡◌, ◌≤◌, false, drop}
use Rattle.ac_types.specs.Judged.{holes}
use Rattle.ac_types.proofs.judged.holes.Given as goal

abbrev pub invariant-loop-byte : goal.invariant-loop-byte
invariant-loop-byte l = (holes l.is_open l.count (drop l.byte-index l.format) ≡ holes false 0 l.format) × (l.count ≤ l.byte-index)
