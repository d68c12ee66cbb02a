use Rattle.std.proofs.Common.{◌≡◌, drop}
use Rattle.ac_types.specs.inner.Seen.{values_seen}
use Rattle.ac_types.proofs.expressions.see_values.Given as goal

abbrev pub invariant-loop-value : goal.invariant-loop-value
invariant-loop-value l = values_seen (drop l.value-index l.values) l.tables l.scopes l.around l.seen ≡ values_seen l.values l.tables l.scopes l.around l.fn.seen
