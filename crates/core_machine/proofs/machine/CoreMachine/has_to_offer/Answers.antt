use Rattle.std.proofs.Common.{sym, ◌∙◌}
use Rattle.core_machine.proofs.Unasked.{offers_none}
use Rattle.core_machine.proofs.machine.CoreMachine.has_to_offer.Goals as goal

pub returns-then-not-has_requests : goal.returns-then-not-has_requests
returns-then-not-has_requests c =
    sym (offers_none c.self.inside.running c.args.self.now c.self.view_is c.self.invariant c.requires c.args.link c.if-link-self.true
    (sym c.has_requests.ensures ∙ c.if-not-has_requests.true))
