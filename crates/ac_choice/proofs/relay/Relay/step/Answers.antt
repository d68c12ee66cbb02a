use Rattle.std.proofs.Common.{None, subst, sym, ◌∙◌}
use Rattle.std.proofs.lemmas.List.{with_items_is}
use Rattle.ac_choice.specs.Relaying.{Relaying}
use Rattle.ac_choice.specs.Steps.{Steps}
use Rattle.ac_choice.specs.Inside.{relaying_of}
use Rattle.ac_choice.specs.inner.Offering.{Fetches, relay_of}
use Rattle.ac_choice.specs.declared.answers.Relayed.TheVariants as relayed
use Rattle.ac_choice.proofs.Fetching.{steps_full, steps_held, steps_fetch}
use Rattle.ac_choice.proofs.relay.Relay.step.Goals as goal

pub returns-then-is_full-clause-step : goal.returns-then-is_full-clause-step
returns-then-is_full-clause-step c =
    let v = relaying_of c.self.inside in
    subst (λ (w : Relaying). Steps w relayed.ClockFull (record v { out = c.learn.new.self; clock = c.learn.new.clock })) c.self.view_is
    (steps_full (relaying_of c.self.inside) c.learn.result c.learn.new.self c.learn.new.clock c.learn.ensures.answer c.learn.ensures.end c.learn.ensures.clock c.is_full.result c.is_full.ensures
    c.if-is_full.true)

pub returns-in-Some-clause-step : goal.returns-in-Some-clause-step
returns-in-Some-clause-step c =
    let v = relaying_of c.self.inside in
    let p = c.offer_one-answer in
    subst (λ (w : Relaying). Steps w p.result.0 (record v { out = p.new.out; held = p.result.1; clock = p.new.clock })) c.self.view_is
    (steps_held (relaying_of c.self.inside) c.learn.result c.learn.new.self c.learn.new.clock c.learn.ensures.answer c.learn.ensures.end c.learn.ensures.clock c.is_full.result c.is_full.ensures
    c.if-is_full.false c.in-Some.message c.in-Some.is p.result.0 p.result.1 p.new.out p.new.clock p.ensures)

pub returns-in-None-clause-step : goal.returns-in-None-clause-step
returns-in-None-clause-step c =
    let v = relaying_of c.self.inside in
    let p = c.fetch_one-answer in
    let new = relay_of p.new.ins p.new.out p.result.1 p.new.first p.new.clock in
    let same = with_items_is c.self.inside.ins p.new.ins (p.ensures.same.ins.count ∙ c.as_mut_slice.ensures.len) in
    subst (λ ins. Steps c.args.self.now p.result.0 (relay_of ins p.new.out p.result.1 p.new.first p.new.clock)) (sym same)
    (subst (λ (w : Relaying). Steps w p.result.0 new) c.self.view_is
    (steps_fetch (relaying_of c.self.inside) c.learn.result c.learn.new.self c.learn.new.clock c.learn.ensures.answer c.learn.ensures.end c.learn.ensures.clock c.is_full.result c.is_full.ensures
    c.if-is_full.false c.in-None.is p.result.0 new
    (subst (λ ins. Fetches (relay_of ins c.learn.new.self None c.self.inside.first c.learn.new.clock) p.result.0 new) c.as_mut_slice.ensures.value p.ensures)))
