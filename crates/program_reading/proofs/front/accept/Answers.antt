use Rattle.std.proofs.Common.{sym, subst}
use Rattle.std.proofs.lemmas.Result.{err_from_is_err_and}
use Rattle.ac_words.specs.declared.task.Task.TheVariants as t
use Rattle.program_reading.specs.Source.{IsAccepted}
use Rattle.program_reading.proofs.Stopping.{check_stops}
use Rattle.program_reading.proofs.front.accept.Goals as goal

pub returns-in_err-program : goal.returns-in_err-program
returns-in_err-program c =
    let p = err_from_is_err_and c.from_residual.result c.from_residual.ensures.1 in
    λ task. rw (p.1, p.2) (c.in_err-program.ensures task)

pub check-requires : goal.check-requires
check-requires c = let p = c.in_ok-program.ensures t.Check in (p.1, p.2)

pub returns-in_err-checked : goal.returns-in_err-checked
returns-in_err-checked c =
    let p = err_from_is_err_and c.from_residual-in_err-checked.result c.from_residual-in_err-checked.ensures.1 in
    λ task. rw (p.1, p.2) (check_stops c.args.source.now task c.in_ok-program.program (c.in_ok-program.ensures task).0 _ c.in_err-checked.ensures.broken)

pub returns : goal.returns
returns c = λ task. subst (IsAccepted c.args.source.now) (sym c.in_ok-checked.ensures.tree)
    (record { spelled = (c.in_ok-program.ensures task).0; clean = c.in_ok-checked.ensures.clean })
