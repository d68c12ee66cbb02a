use Rattle.core_ports.proofs.GoingOn.{core_goes_on}
use Rattle.core_ports.proofs.law.a_core_goes_on.Goals as goal

pub returns : goal.returns
returns c = core_goes_on
