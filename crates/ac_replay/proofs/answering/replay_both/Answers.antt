use Rattle.std.proofs.Common.{◌∙◌, ap, arith, sym}
use Rattle.ac_base.specs.declared.ends.Status.{Status}
use Rattle.ac_replay.specs.Due.{IsDueOfRun}
use Rattle.ac_replay.proofs.Answered.{answered, answered_none}
use Rattle.ac_replay.proofs.Statuses.{kind_of_run, not_eight, not_eleven}
use Rattle.ac_replay.proofs.answering.replay_both.Goals as goal

pub answer-requires : goal.answer-requires
answer-requires g c = let said = c.in-Ok.said in not_eight said.status.number (kind_of_run c.args.program.now c.args.trace.now _ _ said.status.number said.text c.in-Ok.ensures.due)

-- ---- memory was refused

pub returns-in-Err-clause-answered : goal.returns-in-Err-clause-answered
returns-in-Err-clause-answered g c =
    answered_none (IsDueOfRun c.args.program.now c.args.trace.now (g.D.Disk.told c.args.disk.now) (g.D.Disk.told c.judge_and_run.new.disk)) (g.K.Sink.told c.args.sink.now)

pub returns-in-Err-clause-left : goal.returns-in-Err-clause-left
returns-in-Err-clause-left g c = λ _. c.in-Err.ensures.left

-- ---- a text is due

pub returns-in-Ok-clause-answered : goal.returns-in-Ok-clause-answered
returns-in-Ok-clause-answered g c =
    let said = c.in-Ok.said in
    let a = c.answer in
    answered (IsDueOfRun c.args.program.now c.args.trace.now (g.D.Disk.told c.args.disk.now) (g.D.Disk.told c.judge_and_run.new.disk)) (g.K.Sink.told c.args.sink.now) (g.K.Sink.told a.new.sink)
    said.status.number said.text a.result.number c.in-Ok.ensures.due
    (not_eleven said.status.number (kind_of_run c.args.program.now c.args.trace.now _ _ said.status.number said.text c.in-Ok.ensures.due))
    (λ well. ap (λ (s : Status). s.number) (a.ensures.status well)) (λ well. rw c.as_slice.ensures at (a.ensures.whole well)) (λ failed. rw c.as_slice.ensures at (a.ensures.part failed))
    a.ensures.sink

pub returns-in-Ok-clause-left : goal.returns-in-Ok-clause-left
returns-in-Ok-clause-left g c = λ is.
    let said = c.in-Ok.said in
    let one = ap (λ (s : Status). s.number) (c.answer.ensures.status (λ e. omega (arith, e, is))) in
    absurd (not_eleven said.status.number (kind_of_run c.args.program.now c.args.trace.now _ _ said.status.number said.text c.in-Ok.ensures.due) (sym one ∙ is))
