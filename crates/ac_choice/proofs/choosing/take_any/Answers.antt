use Rattle.std.proofs.Common.{◌+◌, refl, ap, sym, ◌∙◌, subst}
use Rattle.core_channels.specs.declared.answers.Receiving.TheVariants as received
use Rattle.channel_ends.specs.Receiving.{IsAllowed, receiving_clock}
use Rattle.ac_choice.proofs.Asked.{Asked, none_asked, call_answers, call_same, call_sees_nothing, call_waits, all_see_nothing, one_waits}
use Rattle.ac_choice.proofs.Asked.{one_by_taking, one_by_passing, none_without_a_stamp, none_by_waiting, none_by_nothing}
use Rattle.ac_choice.proofs.choosing.take_any.Goals as goal
use Rattle.ac_choice.proofs.choosing.take_any.Goals.{in-NotYet, in-Nothing}

pub loop-asked-init : goal.loop-asked-init
loop-asked-init g c = record { asked = none_asked c.args.ends.now c.args.first c.args.clock.now; clock = refl }

pub returns-in-Took-clause-one : goal.returns-in-Took-clause-one
returns-in-Took-clause-one g c =
    one_by_taking c.args.ends.now c.ask_at.new.ends c.args.first c.args.clock.now c.requires.first c.end_in_turn-end.result c.in-Took.number c.in-Took.stamp c.in-Took.value
    (call_answers c.args.ends.now c.loop-asked.ends c.ask_at.new.ends c.args.first c.args.clock.now c.loop-asked.asked c.end_in_turn-end.result c.loop-asked.waits c.loop-asked.invariant.asked
    c.requires.first
    c.end_in_turn-end.ensures.below c.end_in_turn-end.ensures.turn c.loop-asked.clock c.loop-asked.invariant.clock c.ask_at.result (λ a. IsAllowed g.P.Protocol.allows a.popped c.ask_at.result)
    c.ask_at.ensures.ends
    (received.Took c.in-Took.number c.in-Took.value c.in-Took.stamp) c.in-Took.is)

pub returns-in-Took-clause-same : goal.returns-in-Took-clause-same
returns-in-Took-clause-same g c =
    call_same c.args.ends.now c.loop-asked.ends c.ask_at.new.ends c.args.first c.args.clock.now c.loop-asked.asked c.end_in_turn-end.result c.loop-asked.waits c.loop-asked.invariant.asked
    c.requires.first
    c.end_in_turn-end.ensures.below c.end_in_turn-end.ensures.turn c.loop-asked.clock c.loop-asked.invariant.clock c.ask_at.result (λ a. IsAllowed g.P.Protocol.allows a.popped c.ask_at.result)
    c.ask_at.ensures.ends

pub returns-in-Passed-clause-answer : goal.returns-in-Passed-clause-answer
returns-in-Passed-clause-answer g c =
    call_answers c.args.ends.now c.loop-asked.ends c.ask_at.new.ends c.args.first c.args.clock.now c.loop-asked.asked c.end_in_turn-end.result c.loop-asked.waits c.loop-asked.invariant.asked
    c.requires.first
    c.end_in_turn-end.ensures.below c.end_in_turn-end.ensures.turn c.loop-asked.clock c.loop-asked.invariant.clock c.ask_at.result (λ a. IsAllowed g.P.Protocol.allows a.popped c.ask_at.result)
    c.ask_at.ensures.ends
    (received.Passed c.in-Passed.number c.in-Passed.stamp) c.in-Passed.is

pub returns-in-Passed-clause-one : goal.returns-in-Passed-clause-one
returns-in-Passed-clause-one g c =
    one_by_passing c.args.ends.now c.ask_at.new.ends c.args.first c.args.clock.now c.requires.first c.end_in_turn-end.result c.in-Passed.number c.in-Passed.stamp
    (call_answers c.args.ends.now c.loop-asked.ends c.ask_at.new.ends c.args.first c.args.clock.now c.loop-asked.asked c.end_in_turn-end.result c.loop-asked.waits c.loop-asked.invariant.asked
    c.requires.first
    c.end_in_turn-end.ensures.below c.end_in_turn-end.ensures.turn c.loop-asked.clock c.loop-asked.invariant.clock c.ask_at.result (λ a. IsAllowed g.P.Protocol.allows a.popped c.ask_at.result)
    c.ask_at.ensures.ends
    (received.Passed c.in-Passed.number c.in-Passed.stamp) c.in-Passed.is)

pub returns-in-Passed-clause-same : goal.returns-in-Passed-clause-same
returns-in-Passed-clause-same g c =
    call_same c.args.ends.now c.loop-asked.ends c.ask_at.new.ends c.args.first c.args.clock.now c.loop-asked.asked c.end_in_turn-end.result c.loop-asked.waits c.loop-asked.invariant.asked
    c.requires.first
    c.end_in_turn-end.ensures.below c.end_in_turn-end.ensures.turn c.loop-asked.clock c.loop-asked.invariant.clock c.ask_at.result (λ a. IsAllowed g.P.Protocol.allows a.popped c.ask_at.result)
    c.ask_at.ensures.ends

pub returns-in-ClockFull-clause-answer : goal.returns-in-ClockFull-clause-answer
returns-in-ClockFull-clause-answer g c = (
  c.end_in_turn-end.result,
  call_answers c.args.ends.now c.loop-asked.ends c.ask_at.new.ends c.args.first c.args.clock.now c.loop-asked.asked c.end_in_turn-end.result c.loop-asked.waits c.loop-asked.invariant.asked
      c.requires.first
      c.end_in_turn-end.ensures.below c.end_in_turn-end.ensures.turn c.loop-asked.clock c.loop-asked.invariant.clock c.ask_at.result (λ a. IsAllowed g.P.Protocol.allows a.popped c.ask_at.result)
      c.ask_at.ensures.ends
      received.ClockFull c.in-ClockFull.is,
)

pub returns-in-ClockFull-clause-one : goal.returns-in-ClockFull-clause-one
returns-in-ClockFull-clause-one g c =
    none_without_a_stamp c.args.ends.now c.ask_at.new.ends c.args.first c.args.clock.now c.requires.first c.end_in_turn-end.result
    (call_answers c.args.ends.now c.loop-asked.ends c.ask_at.new.ends c.args.first c.args.clock.now c.loop-asked.asked c.end_in_turn-end.result c.loop-asked.waits c.loop-asked.invariant.asked
    c.requires.first
    c.end_in_turn-end.ensures.below c.end_in_turn-end.ensures.turn c.loop-asked.clock c.loop-asked.invariant.clock c.ask_at.result (λ a. IsAllowed g.P.Protocol.allows a.popped c.ask_at.result)
    c.ask_at.ensures.ends
    received.ClockFull c.in-ClockFull.is)

pub returns-in-ClockFull-clause-same : goal.returns-in-ClockFull-clause-same
returns-in-ClockFull-clause-same g c =
    call_same c.args.ends.now c.loop-asked.ends c.ask_at.new.ends c.args.first c.args.clock.now c.loop-asked.asked c.end_in_turn-end.result c.loop-asked.waits c.loop-asked.invariant.asked
    c.requires.first
    c.end_in_turn-end.ensures.below c.end_in_turn-end.ensures.turn c.loop-asked.clock c.loop-asked.invariant.clock c.ask_at.result (λ a. IsAllowed g.P.Protocol.allows a.popped c.ask_at.result)
    c.ask_at.ensures.ends

pub loop-asked-preserved : goal.loop-asked-preserved
loop-asked-preserved g c =
    elim c.match-ask_at.branch [
      | in-NotYet w ↦ record {
        asked = call_waits c.args.ends.now c.loop-asked.ends c.ask_at.new.ends c.args.first c.args.clock.now c.loop-asked.asked c.end_in_turn-end.result c.loop-asked.waits
            c.loop-asked.invariant.asked c.requires.first
            c.end_in_turn-end.ensures.below c.end_in_turn-end.ensures.turn c.loop-asked.clock c.loop-asked.invariant.clock c.ask_at.result (λ a. IsAllowed g.P.Protocol.allows a.popped
            c.ask_at.result) c.ask_at.ensures.ends
            w.in-NotYet.is c.match-ask_at.waits (w.waits-is ∙ w.or-waits.ensures);
        clock = c.ask_at.ensures.clock ∙ ap (receiving_clock c.loop-asked.clock) w.in-NotYet.is ∙ c.loop-asked.invariant.clock;
      }
      | in-Nothing w ↦ record {
        asked = subst (λ v. Asked c.args.ends.now c.args.first c.args.clock.now (c.loop-asked.asked + 1) v c.ask_at.new.ends) (sym w.waits-is)
            (call_sees_nothing c.args.ends.now c.loop-asked.ends c.ask_at.new.ends c.args.first c.args.clock.now c.loop-asked.asked c.end_in_turn-end.result c.loop-asked.waits
            c.loop-asked.invariant.asked c.requires.first
            c.end_in_turn-end.ensures.below c.end_in_turn-end.ensures.turn c.loop-asked.clock c.loop-asked.invariant.clock c.ask_at.result (λ a. IsAllowed g.P.Protocol.allows a.popped
            c.ask_at.result) c.ask_at.ensures.ends
            w.in-Nothing.is);
        clock = c.ask_at.ensures.clock ∙ ap (receiving_clock c.loop-asked.clock) w.in-Nothing.is ∙ c.loop-asked.invariant.clock;
      }
    ]

pub returns-in-Some-clause-one : goal.returns-in-Some-clause-one
returns-in-Some-clause-one g c =
    none_by_waiting c.args.ends.now c.loop-asked.ends c.args.first c.args.clock.now c.requires.first c.in-Some.end
    (one_waits c.args.ends.now c.loop-asked.ends c.args.first c.args.clock.now c.loop-asked.asked c.in-Some.end c.requires.first c.loop-asked-test.false
    (subst (λ v. Asked c.args.ends.now c.args.first c.args.clock.now c.loop-asked.asked v c.loop-asked.ends) c.in-Some.is c.loop-asked.invariant.asked))

pub returns-in-None-clause-answer : goal.returns-in-None-clause-answer
returns-in-None-clause-answer g c =
    all_see_nothing c.args.ends.now c.loop-asked.ends c.args.first c.args.clock.now c.loop-asked.asked c.requires.first c.loop-asked-test.false
    (subst (λ v. Asked c.args.ends.now c.args.first c.args.clock.now c.loop-asked.asked v c.loop-asked.ends) c.in-None.is c.loop-asked.invariant.asked)

pub returns-in-None-clause-one : goal.returns-in-None-clause-one
returns-in-None-clause-one g c =
    none_by_nothing c.args.ends.now c.loop-asked.ends c.args.first c.args.clock.now c.requires.first
    (all_see_nothing c.args.ends.now c.loop-asked.ends c.args.first c.args.clock.now c.loop-asked.asked c.requires.first c.loop-asked-test.false
    (subst (λ v. Asked c.args.ends.now c.args.first c.args.clock.now c.loop-asked.asked v c.loop-asked.ends) c.in-None.is c.loop-asked.invariant.asked))
