use Rattle.std.proofs.Common.{ap, ◌∙◌, subst, rules, w64, SFits}
use Rattle.std.proofs.lemmas.Int.{to_z-of_z}
use Rattle.ac_choice.specs.inner.Offering.{Puts}
use Rattle.ac_choice.specs.AnyOf.{TakesAny, DecidesAtMostOne, any_clock, decided_end}
use Rattle.ac_choice.proofs.Fetching.{fetches_took, fetches_passed, fetches_nothing, fetches_not_yet, fetches_full, within_still}
use Rattle.ac_choice.proofs.relay.fetch_one.Goals as goal

pub offer_one-requires : goal.offer_one-requires
offer_one-requires c =
    within_still c.args.ins.now c.take_any.new.ends c.args.out.now c.args.first.now c.args.clock.now c.requires c.take_any.ensures.same c.take_any.result c.take_any.new.clock
    c.take_any.ensures.answer c.take_any.ensures.clock

pub returns-in-Took : goal.returns-in-Took
returns-in-Took c =
    let fits : SFits w64 c.in-Took.value = search rules in
    let puts : Puts c.args.out.now (record { end = c.in-Took.end; value = c.in-Took.value }) c.take_any.new.clock c.offer_one.result.0 c.offer_one.result.1 c.offer_one.new.out c.offer_one.new.clock =
    subst (λ x. Puts c.args.out.now (record { end = c.in-Took.end; value = x }) c.take_any.new.clock c.offer_one.result.0 c.offer_one.result.1 c.offer_one.new.out c.offer_one.new.clock)
    (to_z-of_z w64 c.in-Took.value fits) c.offer_one.ensures in
    fetches_took c.args.ins.now c.take_any.new.ends c.args.out.now c.args.first.now c.args.clock.now c.requires c.take_any.ensures.same
    c.in-Took.end c.in-Took.number c.in-Took.stamp c.end_after.result c.take_any.new.clock c.offer_one.new.clock c.in-Took.value c.offer_one.result.0 c.offer_one.result.1 c.offer_one.new.out
    (subst (λ a. TakesAny c.args.ins.now c.args.first.now c.args.clock.now a c.take_any.new.ends) c.in-Took.is c.take_any.ensures.answer)
    (subst (λ a. DecidesAtMostOne c.args.ins.now (decided_end a) c.take_any.new.ends) c.in-Took.is c.take_any.ensures.one)
    c.end_after.ensures.below c.end_after.ensures.after (c.take_any.ensures.clock ∙ ap (any_clock c.args.clock.now) c.in-Took.is) puts

pub returns-in-Passed : goal.returns-in-Passed
returns-in-Passed c =
    fetches_passed c.args.ins.now c.take_any.new.ends c.args.out.now c.args.first.now c.args.clock.now c.requires c.take_any.ensures.same
    c.in-Passed.end c.in-Passed.number c.in-Passed.stamp c.end_after-in-Passed.result c.take_any.new.clock
    (subst (λ a. TakesAny c.args.ins.now c.args.first.now c.args.clock.now a c.take_any.new.ends) c.in-Passed.is c.take_any.ensures.answer)
    (subst (λ a. DecidesAtMostOne c.args.ins.now (decided_end a) c.take_any.new.ends) c.in-Passed.is c.take_any.ensures.one)
    c.end_after-in-Passed.ensures.below c.end_after-in-Passed.ensures.after (c.take_any.ensures.clock ∙ ap (any_clock c.args.clock.now) c.in-Passed.is)

pub returns-in-Nothing : goal.returns-in-Nothing
returns-in-Nothing c =
    fetches_nothing c.args.ins.now c.take_any.new.ends c.args.out.now c.args.first.now c.args.clock.now c.requires c.take_any.ensures.same c.take_any.new.clock
    (subst (λ a. TakesAny c.args.ins.now c.args.first.now c.args.clock.now a c.take_any.new.ends) c.in-Nothing.is c.take_any.ensures.answer)
    (subst (λ a. DecidesAtMostOne c.args.ins.now (decided_end a) c.take_any.new.ends) c.in-Nothing.is c.take_any.ensures.one) (c.take_any.ensures.clock ∙ ap (any_clock c.args.clock.now)
    c.in-Nothing.is)

pub returns-in-NotYet : goal.returns-in-NotYet
returns-in-NotYet c =
    fetches_not_yet c.args.ins.now c.take_any.new.ends c.args.out.now c.args.first.now c.args.clock.now c.requires c.take_any.ensures.same c.in-NotYet.end c.take_any.new.clock
    (subst (λ a. TakesAny c.args.ins.now c.args.first.now c.args.clock.now a c.take_any.new.ends) c.in-NotYet.is c.take_any.ensures.answer)
    (subst (λ a. DecidesAtMostOne c.args.ins.now (decided_end a) c.take_any.new.ends) c.in-NotYet.is c.take_any.ensures.one) (c.take_any.ensures.clock ∙ ap (any_clock c.args.clock.now) c.in-NotYet.is)

pub returns-in-ClockFull : goal.returns-in-ClockFull
returns-in-ClockFull c =
    fetches_full c.args.ins.now c.take_any.new.ends c.args.out.now c.args.first.now c.args.clock.now c.requires c.take_any.ensures.same c.take_any.new.clock
    (subst (λ a. TakesAny c.args.ins.now c.args.first.now c.args.clock.now a c.take_any.new.ends) c.in-ClockFull.is c.take_any.ensures.answer)
    (subst (λ a. DecidesAtMostOne c.args.ins.now (decided_end a) c.take_any.new.ends) c.in-ClockFull.is c.take_any.ensures.one) (c.take_any.ensures.clock ∙ ap (any_clock c.args.clock.now)
    c.in-ClockFull.is)
