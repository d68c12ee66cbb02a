use Rattle.std.proofs.Common.{ap, ◌∙◌}
use Rattle.std.specs.Prelude.{map}
use Rattle.std.specs.List.{list_any}
use Rattle.cancel_scope.specs.Roomy.{Roomy}
use Rattle.cancel_scope.specs.Outstanding.{waiting_as, waits_on}
use Rattle.cancel_scope.proofs.Seen.{any_seen}
use Rattle.cancel_scope.proofs.outstanding.Outstanding.waits.Goals as goal

pub returns : goal.returns
returns c =
    let link = c.args.link in
    c.any_waits.ensures ∙ any_seen link c.self.inside.operations.items ∙ ap (λ (r : Roomy). list_any (waits_on link) (map waiting_as r.operations)) c.self.view_is
