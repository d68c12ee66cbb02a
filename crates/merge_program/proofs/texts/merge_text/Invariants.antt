use Rattle.std.proofs.Common.{◌≡◌}
use Rattle.merge_program.specs.Lines.{end_lines}
use Rattle.merge_program.proofs.texts.merge_text.Given as goal

abbrev pub invariant-loop-tag : goal.invariant-loop-tag
invariant-loop-tag l = l.text.items ≡ end_lines l.tag l.messages
