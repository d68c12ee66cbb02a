use Rattle.std.proofs.Common.{◌≡◌, sym, ◌∙◌, subst, length}
use Rattle.request_ends.specs.Asking.{requests_of}
use Rattle.end_ports.specs.Held.{AskingAt}
use Rattle.end_ports.specs.inner.AskFields.{asking_at_of}
use Rattle.end_ports.proofs.Owning.{count_is}
use Rattle.end_ports.proofs.Asking.{made_asked}
use Rattle.end_ports.proofs.ask_at.AskAt.offered.Goals as goal

pub returns : goal.returns
returns c =
    let a = asking_at_of c.self.inside in
    subst (λ (v : AskingAt). c.offered.result ≡ length (requests_of v.end)) c.self.view_is
    (c.offered.ensures ∙ sym (count_is (requests_of a.end) a.end.send.notes.offers (made_asked a.end.send.payloads a.end.send.notes.offers a.end.replies c.self.invariant.carries)))
