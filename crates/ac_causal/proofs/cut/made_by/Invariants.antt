use Rattle.std.proofs.Common.{◌≡◌, ◌≤◌}
use Rattle.ac_causal.specs.Cuts.{made_by}
use Rattle.ac_causal.proofs.cut.made_by.Given as goal

abbrev pub invariant-loop-stamped : goal.invariant-loop-stamped
invariant-loop-stamped l = record {
  count : l.count ≡ made_by l.entries l.party l.stamped-index;
  few : l.count ≤ l.stamped-index;
}
