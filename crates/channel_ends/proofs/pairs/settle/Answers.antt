use Rattle.std.proofs.Common.{rules, subst}
use mathlib.Core.List.{IsPrefix}
use Rattle.rtrb.specs.Ring.{known_items}
use Rattle.channel_ends.specs.Receiving.{Receiving}
use Rattle.channel_ends.specs.Settled.{AreSettled}
use Rattle.channel_ends.specs.inner.Sends.{sending_of}
use Rattle.channel_ends.specs.inner.Recvs.{receiving_of}
use Rattle.channel_ends.proofs.OneLink.{makes_a_link}
use Rattle.channel_ends.proofs.Passing.{prefix_then}
use Rattle.channel_ends.proofs.pairs.settle.Goals as goal

pub returns-clause-recv : goal.returns-clause-recv
returns-clause-recv g c = record {
  table = search rules;
  ring = search rules;
  peer = search rules;
  popped = search rules;
  items = subst (λ (v : Receiving g.row.M.Denot). IsPrefix v.items (known_items c.slots_beside-2.new.self)) c.recv.view_is
      (prefix_then (known_items c.recv.inside.ring) (known_items c.slots_beside.new.consumer) (known_items c.slots_beside-2.new.self) c.slots_beside.ensures.consumer.2
      c.slots_beside-2.ensures.looked.2);
}

pub returns-clause-link : goal.returns-clause-link
returns-clause-link g c =
    let send = sending_of (record { words = c.send.inside.words; side = c.meet.new.self; ring = c.slots_beside-2.new.producer }) in
    let recv = receiving_of (record { words = c.recv.inside.words; peer = c.meet.new.peer; ring = c.slots_beside-2.new.self }) in
    let settled : AreSettled send recv = search rules in
    makes_a_link send recv settled
