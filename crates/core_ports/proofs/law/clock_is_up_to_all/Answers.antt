use Rattle.core_ports.proofs.UpTo.{up_to_all}
use Rattle.core_ports.proofs.law.clock_is_up_to_all.Goals as goal

pub returns : goal.returns
returns c = up_to_all
