use Rattle.std.proofs.lemmas.Result.{err_from_is_err_and}
use Rattle.core_runner.proofs.ended.keep.Goals as goal

pub returns-in_err-push-in-Core-clause-journals : goal.returns-in_err-push-in-Core-clause-journals
returns-in_err-push-in-Core-clause-journals g c =
    let p = err_from_is_err_and c.from_residual-in_err-push-in-Core.result c.from_residual-in_err-push-in-Core.ensures.1 in
    rw (p.1) tt

pub returns-in_err-end-in-Core-clause-journals : goal.returns-in_err-end-in-Core-clause-journals
returns-in_err-end-in-Core-clause-journals g c =
    let p = err_from_is_err_and c.from_residual.result c.from_residual.ensures.1 in
    rw (p.1) tt
