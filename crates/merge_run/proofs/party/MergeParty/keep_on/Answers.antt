use Rattle.std.proofs.Common.{arith}
use Rattle.merge_run.specs.inner.Keeping.{later_then}
use Rattle.merge_run.proofs.party.MergeParty.keep_on.Goals as goal

pub returns-in_err-step-clause-later : goal.returns-in_err-step-clause-later
returns-in_err-step-clause-later g c =
    later_then c.args.self.now c.loop-in_vain.self c.step.new.self c.loop-in_vain.invariant.later c.step.ensures.later

pub loop-in_vain-preserved-then-before-last : goal.loop-in_vain-preserved-then-before-last
loop-in_vain-preserved-then-before-last g c = record {
  later = later_then c.args.self.now c.loop-in_vain.self c.step.new.self c.loop-in_vain.invariant.later c.step.ensures.later;
  rises = let a = c.loop-in_vain.invariant.rises in let b = c.step.ensures.rises in omega (arith, a, b);
  few = omega arith;
}

pub loop-in_vain-preserved : goal.loop-in_vain-preserved
loop-in_vain-preserved g c = record {
  later = later_then c.args.self.now c.loop-in_vain.self c.step.new.self c.loop-in_vain.invariant.later c.step.ensures.later;
  rises = let a = c.loop-in_vain.invariant.rises in let b = c.step.ensures.rises in omega (arith, a, b);
  few = let l = c.loop-in_vain-test.true in omega (arith, l);
}
