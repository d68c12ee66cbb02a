use Rattle.std.proofs.Common.{rules, ◌≡◌, Some, true, length, subst}
use Rattle.ac_base.specs.Stamps.{stamp_after}
use Rattle.channel_ends.specs.Sending.{has_room}
use Rattle.channel_ends.specs.Offers.{IsOffered}
use Rattle.request_ends.specs.Asking.{Asking}
use Rattle.request_ends.specs.Requesting.{IsRequested}
use Rattle.request_ends.specs.Marking.{asking_of}
use Rattle.request_ends.proofs.Keeping.{offer_keeps, offer_lists}
use Rattle.request_ends.proofs.asking.AskEnd.offer.Goals as goal

pub invariant_of-self : goal.invariant_of-self
invariant_of-self c =
    let o : IsOffered c.self.inside.send c.args.value c.in-Offered.stamp c.offer.new.self = search rules in
    let room : has_room c.self.inside.send.notes ≡ true = search rules in
    offer_keeps c.self.inside c.args.value c.in-Offered.stamp c.offer.new.self c.push.new.self c.self.invariant room o c.push.ensures.list

pub returns-in-Offered-clause-answer : goal.returns-in-Offered-clause-answer
returns-in-Offered-clause-answer c =
    let i = c.self.inside in
    let o : IsOffered i.send c.args.value c.in-Offered.stamp c.offer.new.self = search rules in
    let a : has_room i.send.notes ≡ true = search rules in
    let b : stamp_after c.args.clock.now 0 ≡ Some c.in-Offered.stamp = search rules in
    let n : c.in-Offered.number ≡ length i.send.notes.offers = search rules in
    subst (λ (q : Asking). (has_room q.send.notes ≡ true) × (stamp_after c.args.clock.now 0 ≡ Some c.in-Offered.stamp)
    × (c.in-Offered.number ≡ length q.send.notes.offers)
    × IsRequested q c.args.value c.in-Offered.stamp
    (asking_of (record { send = c.offer.new.self; inbox = i.inbox; marks = c.push.new.self; replied = i.replied }))) c.self.view_is
    (a, b, n, offer_lists i c.args.value c.in-Offered.stamp c.offer.new.self c.push.new.self c.self.invariant o c.push.ensures.places)
