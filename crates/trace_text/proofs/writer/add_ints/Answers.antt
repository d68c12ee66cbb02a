use Rattle.std.proofs.Common.{rules}
use Rattle.std.proofs.lemmas.Int.{ints, to_z-of_z}
use Rattle.trace_text.specs.Spelling.{IsValue}
use Rattle.trace_text.proofs.Fitted.{all_of_them}
use Rattle.trace_text.proofs.Ints.{one_int_written}
use Rattle.trace_text.proofs.writer.add_ints.Goals as goal

pub loop-int-preserved : goal.loop-int-preserved
loop-int-preserved c =
    let both = one_int_written c.loop-int.text.items c.push.new.self.items c.add_value.new.text.items _ c.loop-int.int-index c.args.ints.now _ c.loop-int-test.true
    c.in_ok-push.ensures.items c.in_ok-add_value.ensures.adds c.loop-int.invariant.adds c.loop-int.invariant.fits c.in_ok-add_value.ensures.fits (search (rules, ints, to_z-of_z)) in
    record { adds = both.0; fits = both.1 }

pub returns-clause-fits : goal.returns-clause-fits
returns-clause-fits c = all_of_them IsValue c.args.ints.now c.loop-int.int-index c.loop-int-test.false c.loop-int.invariant.fits
