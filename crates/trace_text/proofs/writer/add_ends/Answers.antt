use Rattle.trace_text.specs.Spelling.{IsEnd}
use Rattle.trace_text.proofs.Outcome.{one_end_more}
use Rattle.trace_text.proofs.Fitted.{all_more, all_of_them}
use Rattle.trace_text.proofs.writer.add_ends.Goals as goal

pub loop-number-preserved : goal.loop-number-preserved
loop-number-preserved c = record {
  adds = one_end_more c.loop-number.text.items c.add_end.new.text.items _ c.loop-number.number c.args.ends.now c.index-ends-number.result _ c.loop-number-test.true c.index-ends-number.is
      c.in_ok-add_end.ensures.adds c.loop-number.invariant.adds;
  fits = all_more IsEnd c.args.ends.now c.loop-number.number c.index-ends-number.result _ c.loop-number-test.true c.index-ends-number.is c.loop-number.invariant.fits
      c.in_ok-add_end.ensures.fits;
}

pub returns-clause-fits : goal.returns-clause-fits
returns-clause-fits c = all_of_them IsEnd c.args.ends.now c.loop-number.number c.loop-number-test.false c.loop-number.invariant.fits
