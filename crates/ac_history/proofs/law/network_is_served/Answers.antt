use Rattle.ac_history.proofs.Disk.{network_served}
use Rattle.ac_history.proofs.law.network_is_served.Goals as goal

pub returns : goal.returns
returns c = network_served
