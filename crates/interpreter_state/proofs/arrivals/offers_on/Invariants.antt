use Rattle.std.proofs.Common.{◌≡◌, ◌+◌, ◌≤◌, drop}
use Rattle.core_state.specs.Arrivals.{offers_on}
use Rattle.interpreter_state.proofs.arrivals.offers_on.Given as goal

abbrev pub invariant-loop-entry : goal.invariant-loop-entry
invariant-loop-entry l = record {
  counted : l.count + offers_on l.link (drop l.entry-index l.past) ≡ offers_on l.link l.past;
  most : l.count ≤ l.entry-index;
}
