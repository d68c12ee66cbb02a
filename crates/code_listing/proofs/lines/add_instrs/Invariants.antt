use Rattle.std.proofs.Common.{◌≡◌, ◌+◌, ◌++◌, drop}
use Rattle.code_listing.specs.Listing.{instr_lines}
use Rattle.code_listing.proofs.lines.add_instrs.Given as goal

abbrev pub invariant-loop-place : goal.invariant-loop-place
invariant-loop-place l = l.text.items ++ instr_lines (l.from + l.place) (drop l.place l.instrs) ≡ l.fn.text.items ++ instr_lines l.from l.instrs
