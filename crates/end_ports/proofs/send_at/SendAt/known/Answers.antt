use Rattle.std.proofs.Common.{◌≡◌, sym, ◌∙◌, subst}
use Rattle.ac_base.specs.declared.entry.Payload.TheVariants.{Int}
use Rattle.ac_links.specs.Views.{owner_lead}
use Rattle.end_ports.specs.Held.{SendingAt}
use Rattle.end_ports.specs.OnLinks.{offers_on}
use Rattle.end_ports.specs.SendFields.{sending_at_of}
use Rattle.end_ports.proofs.Owning.{lead_is}
use Rattle.end_ports.proofs.Sending.{made_offers}
use Rattle.end_ports.proofs.send_at.SendAt.known.Goals as goal

pub returns : goal.returns
returns c =
    let s = sending_at_of c.self.inside in
    subst (λ (v : SendingAt). c.known.result ≡ owner_lead (offers_on v)) c.self.view_is
    (c.known.ensures ∙ sym (lead_is (offers_on s) s.end.notes.offers (made_offers Int s.end.payloads s.end.notes.offers c.self.invariant.carries)))
