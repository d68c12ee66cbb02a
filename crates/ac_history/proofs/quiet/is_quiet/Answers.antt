-- All cores and all links rest exactly where the run is quiet.
use Rattle.std.proofs.Common.{sym, ◌∙◌}
use Rattle.ac_history.proofs.Rests.{rests_is_quiet, quiet_cores_rest, quiet_links_rest}
use Rattle.ac_history.proofs.quiet.is_quiet.Goals as goal

pub returns-then-cores_rest : goal.returns-then-cores_rest
returns-then-cores_rest c = (
  (λ rest. rests_is_quiet c.args.links.now c.args.parties.now c.args.cores.now c.requires (sym c.cores_rest.ensures ∙ c.if-cores_rest.true)
      (sym c.links_rest.ensures ∙ rest)),
  (λ quiet. c.links_rest.ensures ∙ quiet_links_rest c.args.links.now c.args.parties.now c.args.cores.now c.requires quiet),
)

pub returns-else-cores_rest : goal.returns-else-cores_rest
returns-else-cores_rest c = (
  (λ rest. cc),
  (λ quiet. c.cores_rest.ensures ∙ quiet_cores_rest c.args.links.now c.args.parties.now c.args.cores.now c.requires quiet),
)
