use Rattle.std.proofs.Common.{◌≡◌, sym, subst}
use Rattle.std.specs.Prelude.{IfNone}
use Rattle.core_channels.specs.Laws.{told_by_offering}
use Rattle.core_ports.specs.Counts.{with_one_more}
use Rattle.core_ports.specs.Tells.{Tells}
use Rattle.end_ports.specs.Held.{Held}
use Rattle.end_ports.specs.PortsTold.{told_of}
use Rattle.end_ports.proofs.Telling.{all_terms, all_hands, all_tell, all_polls, more_tries}
use Rattle.end_ports.proofs.ports.CorePortsPorts.offer.Goals as goal

pub returns-clause-tells : goal.returns-clause-tells
returns-clause-tells c =
    let h = c.args.self.now in
    let e = c.try_offer-answer.ensures in
    subst (λ (v : Held). Tells (told_of h).terms (told_of h).ends c.args.clock.now (told_by_offering c.args.link c.args.payload c.try_offer-answer.result)
    (told_of v).ends c.try_offer-answer.new.clock) (sym c.self.view_is)
    (all_tell h c.args.link c.try_offer-answer.new.self e.only c.args.clock.now c.try_offer-answer.new.clock
    (told_by_offering c.args.link c.args.payload c.try_offer-answer.result) e.call.serves.tells)

pub returns-clause-hand : goal.returns-clause-hand
returns-clause-hand c =
    let h = c.args.self.now in
    let e = c.try_offer-answer.ensures in
    subst (λ (v : Held). IfNone (told_by_offering c.args.link c.args.payload c.try_offer-answer.result) ((told_of v).at_hand ≡ (told_of h).at_hand)) (sym c.self.view_is)
    (all_hands h c.args.link c.try_offer-answer.new.self e.only (told_by_offering c.args.link c.args.payload c.try_offer-answer.result) e.call.serves.hand)

pub returns-clause-terms : goal.returns-clause-terms
returns-clause-terms c =
    let h = c.args.self.now in
    let e = c.try_offer-answer.ensures in
    subst (λ (v : Held). (told_of v).terms ≡ (told_of h).terms) (sym c.self.view_is) (all_terms h c.args.link c.try_offer-answer.new.self e.only e.call.serves.terms)

pub returns-clause-polls : goal.returns-clause-polls
returns-clause-polls c =
    let h = c.args.self.now in
    let l = c.args.link in
    let e = c.try_offer-answer.ensures in
    subst (λ (v : Held). (told_of v).polls ≡ (told_of h).polls) (sym c.self.view_is) (all_polls h l c.try_offer-answer.new.self e.only e.call.polls)

pub returns-clause-tries : goal.returns-clause-tries
returns-clause-tries c =
    let h = c.args.self.now in
    let l = c.args.link in
    let e = c.try_offer-answer.ensures in
    subst (λ (v : Held). (told_of v).tries ≡ with_one_more (told_of h).tries l) (sym c.self.view_is) (more_tries h l c.try_offer-answer.new.self e.only e.call.tries)
