use Rattle.std.proofs.Common.{◌≡◌, ◌++◌, drop}
use Rattle.code_listing.specs.Listing.{core_lines}
use Rattle.code_listing.proofs.lines.add_cores.Given as goal

abbrev pub invariant-loop-place : goal.invariant-loop-place
invariant-loop-place l = l.text.items ++ core_lines (drop l.place l.names) (drop l.place l.entries) ≡ l.fn.text.items ++ core_lines l.names l.entries
