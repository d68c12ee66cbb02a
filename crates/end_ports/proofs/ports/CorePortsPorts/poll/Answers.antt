use Rattle.std.proofs.Common.{◌≡◌, sym, subst}
use Rattle.std.specs.Prelude.{IfNone}
use Rattle.core_channels.specs.declared.answers.Arrived.{Arrived}
use Rattle.core_ports.specs.Counts.{with_one_more}
use Rattle.core_ports.specs.Tells.{Tells, told_by_arrival}
use Rattle.end_ports.specs.Held.{Held}
use Rattle.end_ports.specs.PortFields.{held_of}
use Rattle.end_ports.specs.PortsTold.{told_of, Stays}
use Rattle.end_ports.specs.inner.Arrivals.{arrival_of}
use Rattle.end_ports.specs.inner.Places.{held_by}
use Rattle.end_ports.proofs.Telling.{all_terms, all_hands, all_tell, more_polls, all_tries}
use Rattle.end_ports.proofs.ports.CorePortsPorts.poll.Goals as goal

pub returns-clause-tells : goal.returns-clause-tells
returns-clause-tells c =
    let h : Held = held_of c.self.inside in
    let e = c.look-answer.ensures in
    let new : Held = held_by c.look-answer.new.self h.full in
    let came : Arrived = arrival_of c.look-answer.result c.look-answer.new.self.brought in
    let l = c.args.link in
    subst (λ (r : Arrived). Tells (told_of c.args.self.now).terms (told_of c.args.self.now).ends c.args.clock.now (told_by_arrival l r) (told_of new).ends c.look-answer.new.clock)
    (sym c.arrived.ensures.answer)
    (subst (λ (v : Held). Tells (told_of v).terms (told_of v).ends c.args.clock.now (told_by_arrival l came) (told_of new).ends c.look-answer.new.clock) c.self.view_is
    (all_tell h l new (e.only h.full) c.args.clock.now c.look-answer.new.clock (told_by_arrival l came) e.call.serves.tells))

pub returns-clause-hand : goal.returns-clause-hand
returns-clause-hand c =
    let h : Held = held_of c.self.inside in
    let e = c.look-answer.ensures in
    let new : Held = held_by c.look-answer.new.self h.full in
    let came : Arrived = arrival_of c.look-answer.result c.look-answer.new.self.brought in
    let l = c.args.link in
    subst (λ (r : Arrived). IfNone (told_by_arrival l r) ((told_of new).at_hand ≡ (told_of c.args.self.now).at_hand)) (sym c.arrived.ensures.answer)
    (subst (λ (v : Held). IfNone (told_by_arrival l came) ((told_of new).at_hand ≡ (told_of v).at_hand)) c.self.view_is
    (all_hands h l new (e.only h.full) (told_by_arrival l came) e.call.serves.hand))

pub returns-clause-terms : goal.returns-clause-terms
returns-clause-terms c =
    let h : Held = held_of c.self.inside in
    let e = c.look-answer.ensures in
    let new : Held = held_by c.look-answer.new.self h.full in
    subst (λ (v : Held). (told_of new).terms ≡ (told_of v).terms) c.self.view_is (all_terms h c.args.link new (e.only h.full) e.call.serves.terms)

pub returns-clause-polls : goal.returns-clause-polls
returns-clause-polls c =
    let h : Held = held_of c.self.inside in
    let e = c.look-answer.ensures in
    let l = c.args.link in
    let new : Held = held_by c.look-answer.new.self h.full in
    subst (λ (v : Held). (told_of new).polls ≡ with_one_more (told_of v).polls l) c.self.view_is (more_polls h l new (e.only h.full) e.call.polls)

pub returns-clause-tries : goal.returns-clause-tries
returns-clause-tries c =
    let h : Held = held_of c.self.inside in
    let e = c.look-answer.ensures in
    let new : Held = held_by c.look-answer.new.self h.full in
    subst (λ (v : Held). (told_of new).tries ≡ (told_of v).tries) c.self.view_is (all_tries h c.args.link new (e.only h.full) e.call.tries)

pub returns-clause-stays : goal.returns-clause-stays
returns-clause-stays c =
    let h : Held = held_of c.self.inside in
    let new : Held = held_by c.look-answer.new.self h.full in
    let s : Stays c.args.self.now new = subst (λ (v : Held). Stays v new) c.self.view_is (c.look-answer.ensures.only h.full).stays in
    record { sends = s.sends; recvs = s.recvs; ask = s.ask }
