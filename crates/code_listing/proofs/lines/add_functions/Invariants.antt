use Rattle.std.proofs.Common.{◌≡◌, ◌++◌, drop}
use Rattle.code_listing.specs.Listing.{function_lines}
use Rattle.code_listing.proofs.lines.add_functions.Given as goal

abbrev pub invariant-loop-place : goal.invariant-loop-place
invariant-loop-place l = l.text.items ++ function_lines (drop l.place l.functions) l.instrs ≡ l.fn.text.items ++ function_lines l.functions l.instrs
