use Rattle.std.proofs.Common.{◌≡◌, ◌++◌, drop}
use Rattle.code_listing.specs.Listing.{text_lines}
use Rattle.code_listing.proofs.lines.add_texts.Given as goal

abbrev pub invariant-loop-number : goal.invariant-loop-number
invariant-loop-number l = l.text.items ++ text_lines l.number (drop l.number l.texts) ≡ l.fn.text.items ++ text_lines 0 l.texts
