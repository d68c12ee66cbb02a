use Rattle.std.proofs.Common.{subst}
use Rattle.trace_text.specs.Spelling.{AreBytes}
use Rattle.trace_text.proofs.Outcome.{one_file_more}
use Rattle.trace_text.proofs.Fitted.{all_more, all_of_them}
use Rattle.trace_text.proofs.writer.add_files.Goals as goal

pub loop-number-preserved : goal.loop-number-preserved
loop-number-preserved c = record {
  adds = one_file_more c.loop-number.text.items c.add_file.new.text.items _ c.loop-number.number c.args.files.now c.index-files-number.result _ _ c.loop-number-test.true
      c.index-files-number.is c.as_slice-in-loop-number.ensures c.in_ok-add_file.ensures.adds c.loop-number.invariant.adds;
  fits = all_more AreBytes c.args.files.now c.loop-number.number c.index-files-number.result _ c.loop-number-test.true c.index-files-number.is c.loop-number.invariant.fits
      (subst AreBytes c.as_slice-in-loop-number.ensures c.in_ok-add_file.ensures.fits);
}

pub returns-clause-fits : goal.returns-clause-fits
returns-clause-fits c = all_of_them AreBytes c.args.files.now c.loop-number.number c.loop-number-test.false c.loop-number.invariant.fits
