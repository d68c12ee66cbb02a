use Rattle.std.proofs.Common.{◌≡◌, ◌++◌, drop, take}
use Rattle.std.specs.Prelude.{All}
use Rattle.trace_text.specs.Text.{entry_lines, joined}
use Rattle.trace_text.specs.Fitting.{EntryFits}
use Rattle.trace_text.proofs.writer.add_entries.Given as goal

abbrev pub invariant-loop-entry : goal.invariant-loop-entry
invariant-loop-entry l = record {
  adds : l.text.items ++ joined (entry_lines l.version (drop l.entry-index l.entries)) ≡ l.fn.text.items ++ joined (entry_lines l.version l.entries);
  fits : All EntryFits (take l.entry-index l.entries);
}
