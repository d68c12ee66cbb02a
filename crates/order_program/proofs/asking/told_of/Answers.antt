use Rattle.std.proofs.Common.{subst}
use Rattle.std.proofs.lemmas.Result.{IfOk-weaker}
use Rattle.ac_resolve.specs.Resolution.{resolved}
use Rattle.trace_audit.specs.Judged.{Judges}
use Rattle.order_program.proofs.Telling.{audited, told_misfit, told_wrong_end, told_run}
use Rattle.order_program.proofs.asking.told_of.Goals as goal

pub told_of_run-requires-clause-audited : goal.told_of_run-requires-clause-audited
told_of_run-requires-clause-audited c =
    let b = c.args.both.now in
    audited b.program c.in_ok-code.code b.trace c.in_ok-code.ensures.code c.in_ok-code.ensures.same (subst (Judges (resolved b.program) b.trace) c.in-Yes.is c.in_ok-entry.ensures)

pub returns-in-NoAt : goal.returns-in-NoAt
returns-in-NoAt c =
    let b = c.args.both.now in
    IfOk-weaker c.say_place.result _ _
    (λ told s. told_misfit b.program b.trace c.args.question c.requires.meant told c.in-NoAt.entry s
    (subst (Judges (resolved b.program) b.trace) c.in-NoAt.is c.in_ok-entry.ensures)) c.say_place.ensures

pub returns-in-NoAtEnd : goal.returns-in-NoAtEnd
returns-in-NoAtEnd c =
    let b = c.args.both.now in
    IfOk-weaker c.say.result _ _
    (λ told s. told_wrong_end b.program b.trace c.args.question c.requires.meant told s (subst (Judges (resolved b.program) b.trace) c.in-NoAtEnd.is c.in_ok-entry.ensures)) c.say.ensures

pub returns : goal.returns
returns c =
    let b = c.args.both.now in
    IfOk-weaker c.told_of_run.result _ _
    (λ told t. told_run b.program c.in_ok-code.code b.trace c.args.question told c.in_ok-code.ensures.code c.in_ok-code.ensures.same
    (subst (Judges (resolved b.program) b.trace) c.in-Yes.is c.in_ok-entry.ensures) t) c.told_of_run.ensures
