use Rattle.std.proofs.Common.{◌≡◌, sym, ◌∙◌, subst, length}
use Rattle.end_ports.specs.Held.{ReceivingAt}
use Rattle.end_ports.specs.OnLinks.{decisions_on}
use Rattle.end_ports.specs.RecvFields.{receiving_at_of}
use Rattle.end_ports.proofs.Receiving.{decisions_count}
use Rattle.end_ports.proofs.recv_at.RecvAt.decided.Goals as goal

pub returns : goal.returns
returns c =
    let r = receiving_at_of c.self.inside in
    subst (λ (v : ReceivingAt). c.decided.result ≡ length (decisions_on v)) c.self.view_is
    (c.decided.ensures ∙ sym (decisions_count 0 r.end.popped r.end.peer.decisions c.self.invariant.one_each))
