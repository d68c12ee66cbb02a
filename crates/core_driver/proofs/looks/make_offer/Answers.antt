use Rattle.std.proofs.Common.{◌≡◌, ℕ, Some, None, true, false, sym, ap, ◌∙◌, subst}
use Rattle.ac_base.specs.declared.entry.Event.TheVariants as event
use Rattle.ac_base.specs.declared.entry.Payload.{Payload}
use Rattle.core_machine.specs.Points.{HasCome, is_at_point, offer_carries, operations_of}
use Rattle.core_ports.specs.AtHand.{AtHand}
use Rattle.core_ports.specs.Ends.{has_room}
use Rattle.core_driver.proofs.Awaiting.{payload_after}
use Rattle.core_driver.proofs.Together.{entered_looks, looks_still, next_after, nothing_looks, roomed_looks, still_going, told_moves, up_to}
use Rattle.core_driver.proofs.Looking.{counts_here, full_of_offers, offer_called}
use Rattle.core_driver.specs.inner.Outside.{outside}
use Rattle.core_driver.proofs.looks.make_offer.Goals as goal

pub to_offer-requires-clause-going : goal.to_offer-requires-clause-going
to_offer-requires-clause-going g c = still_going _ c.requires.point

pub offer-requires-clause-link : goal.offer-requires-clause-link
offer-requires-clause-link g c = c.requires.in_step.ports.owner c.args.link c.requires.side

pub offer-requires-clause-payload : goal.offer-requires-clause-payload
offer-requires-clause-payload g c = payload_after c.args.machine.now c.make_room.new.self _ c.requires.in_step c.requires.point c.make_room.ensures.same c.make_room.ensures.state
    c.make_room.ensures.run c.make_room.ensures.tracks c.args.link c.requires.side c.in_ok-payload.payload
    (subst (λ s. offer_carries (operations_of s) c.args.link c.in_ok-payload.payload ≡ true) (sym c.make_room.ensures.state) c.in_ok-payload.ensures)

pub offer-requires-clause-clock : goal.offer-requires-clause-clock
offer-requires-clause-clock g c = up_to _ _ c.requires.in_step

pub offered-requires-clause-point : goal.offered-requires-clause-point
offered-requires-clause-point g c = ap is_at_point c.make_room.ensures.state ∙ c.requires.point

pub offered-requires-clause-next : goal.offered-requires-clause-next
offered-requires-clause-next g c = next_after c.args.machine.now c.make_room.new.self _ c.requires.in_step c.requires.point c.make_room.ensures.same c.make_room.ensures.state
    c.make_room.ensures.run c.make_room.ensures.tracks c.args.link c.in-Offered.number c.in_ok-payload.payload
    (c.requires.in_step.ports.owner c.args.link c.requires.side) c.in-Offered.ensures.tells.fits

pub offered-requires-clause-oldest : goal.offered-requires-clause-oldest
offered-requires-clause-oldest g c = subst (λ p. offer_carries (operations_of c.make_room.new.self.state) c.args.link p ≡ true) (sym c.in_ok-copy.ensures)
    (subst (λ s. offer_carries (operations_of s) c.args.link c.in_ok-payload.payload ≡ true) (sym c.make_room.ensures.state) c.in_ok-payload.ensures)

pub returns-in_err-make_room-clause-looks : goal.returns-in_err-make_room-clause-looks
returns-in_err-make_room-clause-looks g c = roomed_looks c.args.machine.now c.make_room.new.self _ c.requires.in_step c.requires.point c.make_room.ensures.same c.make_room.ensures.state
    c.make_room.ensures.run

pub returns-in_err-make_room-clause-stays : goal.returns-in_err-make_room-clause-stays
returns-in_err-make_room-clause-stays g c = g.met.P.Ports.stays_self c.args.ports.now

pub returns-in_err-payload-clause-looks : goal.returns-in_err-payload-clause-looks
returns-in_err-payload-clause-looks g c = looks_still _ _ c.requires.in_step c.requires.point

pub returns-in_err-payload-clause-stays : goal.returns-in_err-payload-clause-stays
returns-in_err-payload-clause-stays g c = g.met.P.Ports.stays_self c.args.ports.now

pub returns-in_err-copy-clause-looks : goal.returns-in_err-copy-clause-looks
returns-in_err-copy-clause-looks g c = looks_still _ _ c.requires.in_step c.requires.point

pub returns-in_err-copy-clause-stays : goal.returns-in_err-copy-clause-stays
returns-in_err-copy-clause-stays g c = g.met.P.Ports.stays_self c.args.ports.now

-- the entry that is recorded is the one that was told
pub returns-in-Offered-clause-looks : goal.returns-in-Offered-clause-looks
returns-in-Offered-clause-looks g c = entered_looks c.args.machine.now c.make_room.new.self _ c.requires.in_step c.requires.point c.make_room.ensures.same c.make_room.ensures.state
    c.make_room.ensures.run _ (record { event = event.Offer c.args.link c.in-Offered.number c.in_ok-payload.payload; stamp = c.in-Offered.stamp })
    (offer_called (outside (g.P.Ports.told c.args.ports.now) c.args.clock.now)
    (outside (g.P.Ports.told c.offer.new.self) c.offer.new.clock) (Some
    (record { event = event.Offer c.args.link c.in-Offered.number c.in_ok-payload.payload; stamp = c.in-Offered.stamp })) c.args.link
    c.in-Offered.ensures.tells c.in-Offered.ensures.hand c.in-Offered.ensures.terms c.in-Offered.ensures.polls c.in-Offered.ensures.tries) c.offered.new.self
    (subst (λ (p : Payload). HasCome c.make_room.new.self (event.Offer c.args.link c.in-Offered.number p) c.in-Offered.stamp c.offered.new.self) c.in_ok-copy.ensures c.offered.ensures.come)
    c.offered.ensures.less c.offered.ensures.run

pub returns-in-Offered-clause-tried : goal.returns-in-Offered-clause-tried
returns-in-Offered-clause-tried g c = counts_here (g.P.Ports.told c.args.ports.now).tries (g.P.Ports.told c.offer.new.self).tries c.args.link c.in-Offered.ensures.tries

pub returns-in-Offered-clause-slot : goal.returns-in-Offered-clause-slot
returns-in-Offered-clause-slot g c = λ e same room. absurd (told_moves (outside (g.P.Ports.told c.args.ports.now) c.args.clock.now)
    (outside (g.P.Ports.told c.offer.new.self) c.offer.new.clock) (record { event = event.Offer c.args.link c.in-Offered.number c.in_ok-payload.payload; stamp = c.in-Offered.stamp })
    (offer_called (outside (g.P.Ports.told c.args.ports.now) c.args.clock.now)
    (outside (g.P.Ports.told c.offer.new.self) c.offer.new.clock) (Some
    (record { event = event.Offer c.args.link c.in-Offered.number c.in_ok-payload.payload; stamp = c.in-Offered.stamp })) c.args.link
    c.in-Offered.ensures.tells c.in-Offered.ensures.hand c.in-Offered.ensures.terms c.in-Offered.ensures.polls c.in-Offered.ensures.tries) same)

pub returns-in-NoRoom-clause-looks : goal.returns-in-NoRoom-clause-looks
returns-in-NoRoom-clause-looks g c = nothing_looks c.args.machine.now c.make_room.new.self _ c.requires.in_step c.requires.point c.make_room.ensures.same c.make_room.ensures.state
    c.make_room.ensures.run _ (offer_called (outside (g.P.Ports.told c.args.ports.now) c.args.clock.now)
    (outside (g.P.Ports.told c.offer.new.self) c.offer.new.clock) None c.args.link
    c.in-NoRoom.ensures.tells c.in-NoRoom.ensures.hand c.in-NoRoom.ensures.terms c.in-NoRoom.ensures.polls c.in-NoRoom.ensures.tries)

pub returns-in-NoRoom-clause-tried : goal.returns-in-NoRoom-clause-tried
returns-in-NoRoom-clause-tried g c = counts_here (g.P.Ports.told c.args.ports.now).tries (g.P.Ports.told c.offer.new.self).tries c.args.link c.in-NoRoom.ensures.tries

pub returns-in-NotYet-clause-looks : goal.returns-in-NotYet-clause-looks
returns-in-NotYet-clause-looks g c = nothing_looks c.args.machine.now c.make_room.new.self _ c.requires.in_step c.requires.point c.make_room.ensures.same c.make_room.ensures.state
    c.make_room.ensures.run _ (offer_called (outside (g.P.Ports.told c.args.ports.now) c.args.clock.now)
    (outside (g.P.Ports.told c.offer.new.self) c.offer.new.clock) None c.args.link
    c.in-NotYet.ensures.tells c.in-NotYet.ensures.hand c.in-NotYet.ensures.terms c.in-NotYet.ensures.polls c.in-NotYet.ensures.tries)

pub returns-in-NotYet-clause-tried : goal.returns-in-NotYet-clause-tried
returns-in-NotYet-clause-tried g c = counts_here (g.P.Ports.told c.args.ports.now).tries (g.P.Ports.told c.offer.new.self).tries c.args.link c.in-NotYet.ensures.tries

pub returns-in-ClockFull-clause-looks : goal.returns-in-ClockFull-clause-looks
returns-in-ClockFull-clause-looks g c = nothing_looks c.args.machine.now c.make_room.new.self _ c.requires.in_step c.requires.point c.make_room.ensures.same c.make_room.ensures.state
    c.make_room.ensures.run _ (offer_called (outside (g.P.Ports.told c.args.ports.now) c.args.clock.now)
    (outside (g.P.Ports.told c.offer.new.self) c.offer.new.clock) None c.args.link
    c.in-ClockFull.ensures.tells c.in-ClockFull.ensures.hand c.in-ClockFull.ensures.terms c.in-ClockFull.ensures.polls c.in-ClockFull.ensures.tries)

pub returns-in-ClockFull-clause-tried : goal.returns-in-ClockFull-clause-tried
returns-in-ClockFull-clause-tried g c = counts_here (g.P.Ports.told c.args.ports.now).tries (g.P.Ports.told c.offer.new.self).tries c.args.link c.in-ClockFull.ensures.tries

pub returns-in-NoRoom-clause-slot : goal.returns-in-NoRoom-clause-slot
returns-in-NoRoom-clause-slot g c = λ e same room.
    let was = subst (λ x. has_room (x c.args.link) ((g.P.Ports.told c.offer.new.self).ends c.args.link) ≡ true) c.in-NoRoom.ensures.terms room in
    let now = subst (λ x. has_room ((g.P.Ports.told c.args.ports.now).terms c.args.link) (x c.args.link) ≡ true) c.in-NoRoom.ensures.tells.0 was in
    let no : true ≡ false = sym now ∙ c.in-NoRoom.ensures.answer.1 in
    absurd (cc)

pub returns-in-NotYet-clause-slot : goal.returns-in-NotYet-clause-slot
returns-in-NotYet-clause-slot g c = λ e same room. ap (λ (f : ℕ → AtHand). (f c.args.link).slot) c.in-NotYet.ensures.hand ∙ c.in-NotYet.ensures.answer.3

pub returns-in-ClockFull-clause-heard : goal.returns-in-ClockFull-clause-heard
returns-in-ClockFull-clause-heard g c = λ e. full_of_offers
    (outside (g.P.Ports.told c.args.ports.now) c.args.clock.now)
    (outside (g.P.Ports.told c.offer.new.self) c.offer.new.clock) c.args.link c.in-ClockFull.ensures.tells.1 c.in-ClockFull.ensures.answer.2
