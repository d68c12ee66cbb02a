use Rattle.std.proofs.Common.{◌-◌, ◌<◌, length, arith}
use Rattle.work_item.proofs.Rows.{cut_within, under_cut, over_cut}
use Rattle.work_item.proofs.others.place_of.Goals as goal

pub returns-then-end-eq0-clause-cut : goal.returns-then-end-eq0-clause-cut
returns-then-end-eq0-clause-cut c start cells e le = omega (arith, cut_within c.args.others.now start cells c.args.index e, c.if-end-eq0.true)

pub returns-then-index-others-clause-cut : goal.returns-then-index-others-clause-cut
returns-then-index-others-clause-cut c start cells e le =
    omega (arith, over_cut c.args.others.now start cells c.args.index 0 e le c.if-index-others.true)

pub returns-then-others-end-clause-cut : goal.returns-then-others-end-clause-cut
returns-then-others-end-clause-cut c start cells e le =
    let others = c.args.others.now in
    let lt : length others - 1 < length others = omega (arith, c.if-end-eq0.false) in
    omega
    (arith, under_cut others start cells c.args.index (length others - 1) e le lt c.if-others-end.true, cut_within others start cells c.args.index e, lt)
