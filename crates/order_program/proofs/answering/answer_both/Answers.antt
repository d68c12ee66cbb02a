use Rattle.std.proofs.Common.{ap, arith}
use Rattle.ac_base.specs.declared.ends.Status.{Status}
use Rattle.order_program.specs.inner.Telling.{IsDueOfBoth}
use Rattle.order_program.proofs.AnsweredFiles.{answered, answered_none}
use Rattle.order_program.proofs.Telling.{of_trace, not_other}
use Rattle.order_program.proofs.answering.answer_both.Goals as goal

pub answer-requires : goal.answer-requires
answer-requires g c = let t = c.in-Ok.told in let d = c.in-Ok.ensures in
    not_other t.status.number 8 (of_trace _ _ d.question t.status.number t.text d.due) (omega arith) (omega arith)

pub returns-in-Err-clause-answered : goal.returns-in-Err-clause-answered
returns-in-Err-clause-answered g c = answered_none (IsDueOfBoth c.args.both.now.program c.args.both.now.trace c.args.question) _

pub returns-in-Ok-clause-answered : goal.returns-in-Ok-clause-answered
returns-in-Ok-clause-answered g c = let t = c.in-Ok.told in let d = c.in-Ok.ensures in let a = c.answer in
    let of = of_trace _ _ d.question t.status.number t.text d.due in
    answered (IsDueOfBoth c.args.both.now.program c.args.both.now.trace c.args.question) t.status.number t.text _ _ a.result.number d
    (λ w. ap (λ (s : Status). s.number) (a.ensures.status w)) (λ w. rw c.as_slice.ensures at (a.ensures.whole w)) (λ f. rw c.as_slice.ensures at (a.ensures.part f)) a.ensures.sink
    (not_other t.status.number 1 of (omega arith) (omega arith)) (not_other t.status.number 11 of (omega arith) (omega arith))

pub returns-in-Ok-clause-seven : goal.returns-in-Ok-clause-seven
returns-in-Ok-clause-seven g c = let t = c.in-Ok.told in let d = c.in-Ok.ensures in
    let of = of_trace _ _ d.question t.status.number t.text d.due in
    λ e. not_other t.status.number 7 of (omega arith) (omega arith)
    (let same = ap (λ (s : Status). s.number) (c.answer.ensures.status (λ f. omega (arith, e, f))) in omega (arith, e, same))
