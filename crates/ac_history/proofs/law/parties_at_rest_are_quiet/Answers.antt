use Rattle.ac_history.proofs.Quietness.{parties_at_rest}
use Rattle.ac_history.proofs.law.parties_at_rest_are_quiet.Goals as goal

pub returns : goal.returns
returns c = λ capacities widths cores owner peer ends offers decisions js stops all rest. parties_at_rest capacities widths cores owner peer ends offers decisions js all stops rest
