use Rattle.ac_history.proofs.Runtime.{deeds_network}
use Rattle.ac_history.proofs.law.deeds_are_the_workers.Goals as goal

pub returns : goal.returns
returns c = deeds_network
