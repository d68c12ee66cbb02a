use Rattle.std.proofs.Common.{◌≡◌, ◌*◌, refl, arith}
use Rattle.std.proofs.lemmas.Result.{err_from_is_err_and}
use Rattle.program_reading.specs.Source.{all_steps}
use Rattle.program_reading.proofs.building.build.Goals as goal

pub returns-in_err-checked : goal.returns-in_err-checked
returns-in_err-checked c =
    let p = err_from_is_err_and c.from_residual.result c.from_residual.ensures.1 in
    rw (p.1, p.2) (c.in_err-checked.ensures c.args.task)

pub returns-then-from-gt-MOST_STEPS : goal.returns-then-from-gt-MOST_STEPS
returns-then-from-gt-MOST_STEPS c =
    let all : all_steps c.in_ok-checked.checked c.args.task ≡ c.from.result * c.from-2.result = rw (c.from.ensures, c.from-2.ensures, c.cores.ensures, c.steps.ensures) refl in
    record { program = c.in_ok-checked.checked; is_accepted = c.in_ok-checked.ensures c.args.task; over = omega (arith, c.if-from-gt-MOST_STEPS.true, all) }

pub returns : goal.returns
returns c =
    let all : all_steps c.in_ok-checked.checked c.args.task ≡ c.from.result * c.from-2.result = rw (c.from.ensures, c.from-2.ensures, c.cores.ensures, c.steps.ensures) refl in
    record { is_accepted = c.in_ok-checked.ensures c.args.task; within = omega (arith, c.if-from-gt-MOST_STEPS.false, all) }
