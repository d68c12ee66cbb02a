use Rattle.std.proofs.Common.{◌+◌, ◌<◌, ◌-◌, ◌/◌, length, arith}
use Rattle.work_item.proofs.Rows.{cut_within, under_cut, over_cut}
use Rattle.work_item.proofs.others.search.Goals as goal

pub loop-low-init : goal.loop-low-init
loop-low-init c = record {
  order = omega arith;
  within = omega arith;
  cut = λ start cells e le. (omega arith, cut_within c.args.others.now start cells c.args.index e);
}

pub loop-low-preserved-then-others-middle : goal.loop-low-preserved-then-others-middle
loop-low-preserved-then-others-middle c =
    let l = c.loop-low in
    let middle = l.low + (l.high - l.low) / 2 in
    let under : middle < l.high = omega (arith, c.loop-low-test.true) in
    let lt : middle < length c.args.others.now = omega (arith, l.invariant.within) in
    record {
      order = omega arith;
      within = l.invariant.within;
      cut = λ start cells e le.
          (omega (arith, under_cut c.args.others.now start cells c.args.index middle e le lt c.if-others-middle.true), (l.invariant.cut start cells e le).1);
    }

pub loop-low-preserved : goal.loop-low-preserved
loop-low-preserved c =
    let l = c.loop-low in
    let middle = l.low + (l.high - l.low) / 2 in
    let under : middle < l.high = omega (arith, c.loop-low-test.true) in
    record {
      order = omega arith;
      within = omega (arith, l.invariant.within);
      cut = λ start cells e le. ((l.invariant.cut start cells e le).0, over_cut c.args.others.now start cells c.args.index middle e le c.if-others-middle.false);
    }

pub returns-clause-cut : goal.returns-clause-cut
returns-clause-cut c start cells e le =
    let l = c.loop-low in
    let both = l.invariant.cut start cells e le in
    omega (arith, both.0, both.1, c.loop-low-test.false, l.invariant.order)
