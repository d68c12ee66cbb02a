use Rattle.ac_history.proofs.Running.{network_run}
use Rattle.ac_history.proofs.law.network_is_a_history.Goals as goal

pub returns : goal.returns
returns c = network_run
