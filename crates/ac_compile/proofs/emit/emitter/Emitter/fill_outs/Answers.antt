use Rattle.std.proofs.Common.{sym, subst}
use Rattle.ac_compile.specs.inner.Emission.{AreBelow}
use Rattle.ac_compile.proofs.Emissions.{filled_length}
use Rattle.ac_compile.proofs.emit.emitter.Emitter.fill_outs.Goals as goal

pub fill-requires-2 : goal.fill-requires-2
fill-requires-2 c =
    let same = filled_length c.args.past c.as_slice.result.now c.args.self.now c.fill.new.self c.fill.ensures in
    subst (λ n. AreBelow n c.as_slice-2.result.now) (sym same) (subst (AreBelow _) (sym c.as_slice-2.ensures.value) c.requires.turns)
