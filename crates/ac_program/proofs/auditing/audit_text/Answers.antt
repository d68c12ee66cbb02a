use Rattle.std.proofs.Common.{◌∙◌, arith}
use Rattle.ac_program.specs.Auditing.{IsDueOfTraced}
use Rattle.ac_program.proofs.Said.{answered_none, answered, of_traced, not_audit}
use Rattle.ac_program.proofs.auditing.audit_text.Goals as goal

pub give-requires : goal.give-requires
give-requires g c = let done = c.in-Ok.done in
    λ e. not_audit done.status.number 8 (of_traced c.args.checked.now c.args.text.now done.status.number done.text c.in-Ok.ensures.due) e (omega arith) (omega arith) (omega arith) (omega arith)

pub returns-in-Err : goal.returns-in-Err
returns-in-Err g c = answered_none (IsDueOfTraced c.args.checked.now c.args.text.now) _ c.no_memory.result c.no_memory.ensures

pub returns-in-Ok : goal.returns-in-Ok
returns-in-Ok g c = let done = c.in-Ok.done in let a = c.give in
    let of = of_traced c.args.checked.now c.args.text.now done.status.number done.text c.in-Ok.ensures.due in
    answered (IsDueOfTraced c.args.checked.now c.args.text.now) done.status.number done.text _ _ a.result c.in-Ok.ensures.due (a.ensures.run ∙ c.in-Ok.ensures.no_run)
    a.ensures.status a.ensures.whole a.ensures.part a.ensures.sink
    (λ e. not_audit done.status.number 1 of e (omega arith) (omega arith) (omega arith) (omega arith))
    (λ e. not_audit done.status.number 9 of e (omega arith) (omega arith) (omega arith) (omega arith))
    (λ e. not_audit done.status.number 11 of e (omega arith) (omega arith) (omega arith) (omega arith))
