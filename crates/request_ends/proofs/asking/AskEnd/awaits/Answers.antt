use Rattle.std.proofs.Common.{◌≡◌, ◌∙◌, sym, subst}
use Rattle.core_ports.specs.Ends.{awaits_reply}
use Rattle.request_ends.specs.Asking.{Asking, end_of}
use Rattle.request_ends.proofs.Keeping.{awaits_is}
use Rattle.request_ends.proofs.asking.AskEnd.awaits.Goals as goal

pub returns : goal.returns
returns c =
    subst (λ (a : Asking). c.is_started.result ≡ awaits_reply (end_of a)) c.self.view_is
    (c.is_started.ensures ∙ sym (awaits_is c.self.inside c.self.invariant))
