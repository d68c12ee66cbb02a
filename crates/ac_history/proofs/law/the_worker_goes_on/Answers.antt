use Rattle.ac_history.proofs.Deciding.{worker_goes_on}
use Rattle.ac_history.proofs.law.the_worker_goes_on.Goals as goal

pub returns : goal.returns
returns c = worker_goes_on
