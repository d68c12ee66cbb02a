use Rattle.std.proofs.Common.{ap, ◌∙◌}
use Rattle.std.specs.Prelude.{not, nat_eq}
use Rattle.std.specs.List.{list_any}
use Rattle.cancel_scope.specs.Roomy.{Roomy}
use Rattle.cancel_scope.specs.Outstanding.{is_request}
use Rattle.cancel_scope.specs.declared.operation.Operation.{Operation}
use Rattle.cancel_scope.proofs.Counted.{any_counted}
use Rattle.cancel_scope.proofs.outstanding.Outstanding.has_requests.Goals as goal

pub returns : goal.returns
returns c =
    ap (λ k. not (nat_eq k 0)) c.self.invariant ∙ any_counted c.self.inside.operations.items
    ∙ ap (λ (r : Roomy). list_any (λ (o : Operation). is_request o.asked) r.operations) c.self.view_is
