use Rattle.std.proofs.Common.{ap, subst}
use Rattle.ac_base.specs.declared.ends.Status.{Status}
use Rattle.ac_outside.specs.Told.{GrewBy}
use Rattle.program_reading.specs.Writing.{TookFront}
use Rattle.merge_program.proofs.Answered.{answered_none, answered}
use Rattle.merge_program.proofs.merging.answer_call.Goals as goal

pub returns-in-Err : goal.returns-in-Err
returns-in-Err g c = answered_none c.args.call.messages c.args.call.producers c.new.result (g.K.Sink.told c.args.sink.now) c.new.ensures

pub returns-in-Ok : goal.returns-in-Ok
returns-in-Ok g c =
    let sink = g.K.Sink.told c.args.sink.now in let later = g.K.Sink.told c.answer.new.sink in
    answered c.args.call.messages c.args.call.producers c.in-Ok.made.received c.in-Ok.made.text sink later c.answer.result.number c.in-Ok.ensures
    (λ w. ap (λ (s : Status). s.number) (c.answer.ensures.status w))
    (λ w. subst (λ bs. GrewBy sink.held later.held bs) c.as_slice.ensures (c.answer.ensures.whole w))
    (λ f. subst (λ bs. TookFront sink.held later.held bs) c.as_slice.ensures (c.answer.ensures.part f)) c.answer.ensures.sink
