use Rattle.std.proofs.Common.{ap, ◌∙◌}
use Rattle.std.specs.Prelude.{is_some}
use Rattle.cancel_scope.proofs.Finding.{placed}
use Rattle.cancel_scope.proofs.outstanding.Outstanding.wants.Goals as goal

pub returns : goal.returns
returns c = c.is_some.ensures ∙ ap is_some c.first_to_receive.ensures ∙ placed _ c.args.self.now.operations
