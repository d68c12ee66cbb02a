use Rattle.std.proofs.Common.{sym, ap, ◌∙◌, arith, length, refl}
use Rattle.interpreter_state.specs.inner.Released.{kept_from}
use Rattle.interpreter_state.proofs.Releasing.{none_yet, length-kept_from, one_ended_more, all_kept}
use Rattle.interpreter_state.proofs.memory.Memory.release.Goals as goal

pub loop-index-init : goal.loop-index-init
loop-index-init c =
    record {
      globals = refl;
      frames = sym (none_yet c.end.new.self.frames 0) ∙ ap (λ n. kept_from n 0 c.end.new.self.frames) (sym c.count-count.ensures);
      inside = omega (arith, c.count-count.ensures);
    }

pub end_one-requires : goal.end_one-requires
end_one-requires c =
    let e = ap length c.loop-index.invariant.frames ∙ length-kept_from c.loop-index.index 0 c.end.new.self.frames in
    omega (arith, e, c.loop-index-test.true, c.loop-index.invariant.inside)

pub loop-index-preserved : goal.loop-index-preserved
loop-index-preserved c = record {
  globals = c.end_one.ensures.globals ∙ c.loop-index.invariant.globals;
  frames =
      c.end_one.ensures.frames
      ∙ one_ended_more c.loop-index.index c.end.new.self.frames c.loop-index.self.frames c.loop-index-test.true c.loop-index.invariant.inside c.loop-index.invariant.frames;
  inside = omega (arith, c.loop-index.invariant.inside);
}

pub returns : goal.returns
returns c =
    all_kept c.loop-index.self c.args.self.now c.end.new.self c.args.frame c.loop-index.index (omega (arith, c.loop-index-test.false)) c.loop-index.invariant.globals c.loop-index.invariant.frames
    c.end.ensures
