use Rattle.std.proofs.Common.{◌≡◌, ◌++◌, drop, List, ℕ}
use Rattle.core_state.specs.Shared.{formatted, formatted_from}
use Rattle.core_operators.proofs.format.append_formatted.Given as goal

abbrev pub invariant-loop-byte : goal.invariant-loop-byte
invariant-loop-byte l = record {
  whole : l.output.items ++ formatted_from l.scan.directive (drop l.byte-index l.text) l.scan.values.now ≡ l.fn.output.items ++ formatted l.text l.fn.values;
  front : (added : List ℕ) × (l.output.items ≡ l.fn.output.items ++ added);
}
