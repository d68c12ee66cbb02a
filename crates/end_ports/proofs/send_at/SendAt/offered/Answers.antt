use Rattle.std.proofs.Common.{◌≡◌, sym, ◌∙◌, subst, length}
use Rattle.ac_base.specs.declared.entry.Payload.TheVariants.{Int}
use Rattle.end_ports.specs.Held.{SendingAt}
use Rattle.end_ports.specs.OnLinks.{offers_on}
use Rattle.end_ports.specs.SendFields.{sending_at_of}
use Rattle.end_ports.proofs.Owning.{count_is}
use Rattle.end_ports.proofs.Sending.{made_offers}
use Rattle.end_ports.proofs.send_at.SendAt.offered.Goals as goal

pub returns : goal.returns
returns c =
    let s = sending_at_of c.self.inside in
    subst (λ (v : SendingAt). c.offered.result ≡ length (offers_on v)) c.self.view_is
    (c.offered.ensures ∙ sym (count_is (offers_on s) s.end.notes.offers (made_offers Int s.end.payloads s.end.notes.offers c.self.invariant.carries)))
