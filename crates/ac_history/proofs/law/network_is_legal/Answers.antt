use Rattle.ac_history.proofs.Runtime.{legal_network}
use Rattle.ac_history.proofs.law.network_is_legal.Goals as goal

pub returns : goal.returns
returns c = legal_network
