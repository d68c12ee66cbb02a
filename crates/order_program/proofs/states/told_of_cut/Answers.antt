use Rattle.std.proofs.Common.{subst}
use Rattle.std.proofs.lemmas.Result.{IfOk-weaker}
use Rattle.ac_causal.specs.Cuts.{IsCutAnswer}
use Rattle.order_program.proofs.Telling.{told_no_cut, told_open, told_closed}
use Rattle.order_program.proofs.states.told_of_cut.Goals as goal

pub returns-then-not-is_cut : goal.returns-then-not-is_cut
returns-then-not-is_cut c =
    IfOk-weaker c.say.result _ _
    (λ told s. told_no_cut c.args.code.now c.args.causal.now c.args.counts.now told c.requires.parties (λ cut. cc (c.if-not-is_cut.true, c.is_cut.ensures.1 cut)) s) c.say.ensures

pub told_of_closed-requires-clause-closed : goal.told_of_closed-requires-clause-closed
told_of_closed-requires-clause-closed c = subst (IsCutAnswer c.args.causal.now.entries c.args.counts.now) c.in-Closed.is c.cut.ensures

pub returns-in-Open : goal.returns-in-Open
returns-in-Open c =
    IfOk-weaker c.say_place.result _ _
    (λ told s. told_open c.args.code.now c.args.causal.now c.args.counts.now told c.requires.parties c.in-Open.entry (c.is_cut.ensures.0 c.if-not-is_cut.false) c.in-Open.ensures s) c.say_place.ensures

pub returns-in-Closed : goal.returns-in-Closed
returns-in-Closed c =
    IfOk-weaker c.told_of_closed.result _ _
    (λ told d. told_closed c.args.code.now c.args.causal.now c.args.counts.now told c.requires.parties (c.is_cut.ensures.0 c.if-not-is_cut.false) c.in-Closed.ensures d) c.told_of_closed.ensures
