use Rattle.std.proofs.Common.{◌≡◌, drop, length}
use Rattle.ac_compile.specs.inner.Emission.{jumps_set, AreBelow}
use Rattle.ac_compile.proofs.emit.emitter.Emitter.fill.Given as goal

abbrev pub invariant-loop-at : goal.invariant-loop-at
invariant-loop-at l = record {
  code : jumps_set l.to (drop l.at-index l.jumps) l.self-inside.instrs.items ≡ jumps_set l.to l.jumps l.initial.self-inside.instrs.items;
  below : AreBelow (length l.self-inside.instrs.items) (drop l.at-index l.jumps);
  outs : l.self-inside.outs ≡ l.initial.self-inside.outs;
}
