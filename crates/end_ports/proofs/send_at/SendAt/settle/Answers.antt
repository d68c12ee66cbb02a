use Rattle.std.proofs.Common.{◌∙◌, sym, ap, subst, length, refl}
use Rattle.channel_ends.specs.Sending.{OwnerNotes}
use Rattle.end_ports.specs.Held.{SendingAt, ReceivingAt}
use Rattle.end_ports.specs.inner.Pairs.{SettlesPair}
use Rattle.end_ports.specs.SendFields.{sending_at_of}
use Rattle.end_ports.specs.RecvFields.{receiving_at_of}
use Rattle.end_ports.proofs.Settling.{is_settled, send_quiet, recv_quiet}
use Rattle.end_ports.proofs.send_at.SendAt.settle.Goals as goal

pub returns : goal.returns
returns c =
    let s = sending_at_of c.self.inside in
    let r = receiving_at_of c.other.inside in
    let h = c.settle.ensures in
    let s' : SendingAt = record s { end = c.settle.new.send } in
    let r' : ReceivingAt = record r { end = c.settle.new.recv } in
    let hears = ap (λ (v : OwnerNotes). length v.heard) h.send.notes ∙ c.self.invariant.hears ∙ sym (ap (λ (v : OwnerNotes). length v.offers) h.send.notes) in
    let settles : SettlesPair s r s' r' = record {
      pair = h.pair;
      send = send_quiet s c.settle.new.send h.send;
      recv = recv_quiet r c.settle.new.recv h.recv;
      same_send = record { link = refl; end = record { table = ap (λ (v : OwnerNotes). v.table) h.send.notes; ring = h.send.ring } };
      same_recv = record { link = refl; end = record { table = h.recv.table; ring = h.recv.ring } };
      link = is_settled s' r' h.settled h.link hears;
    } in
    subst (λ (v : SendingAt). SettlesPair v c.args.other.now s' r') c.self.view_is
    (subst (λ (w : ReceivingAt). SettlesPair s w s' r') c.other.view_is settles)
