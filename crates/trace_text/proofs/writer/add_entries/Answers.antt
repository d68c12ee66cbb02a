use Rattle.trace_text.specs.Fitting.{EntryFits}
use Rattle.trace_text.proofs.Outcome.{one_entry_more}
use Rattle.trace_text.proofs.Fitted.{all_more, all_of_them}
use Rattle.trace_text.proofs.writer.add_entries.Goals as goal

pub loop-entry-preserved : goal.loop-entry-preserved
loop-entry-preserved c = record {
  adds = one_entry_more c.loop-entry.text.items c.add_entry.new.text.items _ c.loop-entry.entry-index c.args.version c.args.entries.now c.entry-item.result _ c.loop-entry-test.true c.entry-item.is
      c.in_ok-add_entry.ensures.adds c.loop-entry.invariant.adds;
  fits = all_more EntryFits c.args.entries.now c.loop-entry.entry-index c.entry-item.result _ c.loop-entry-test.true c.entry-item.is c.loop-entry.invariant.fits
      c.in_ok-add_entry.ensures.fits;
}

pub returns-clause-fits : goal.returns-clause-fits
returns-clause-fits c = all_of_them EntryFits c.args.entries.now c.loop-entry.entry-index c.loop-entry-test.false c.loop-entry.invariant.fits
