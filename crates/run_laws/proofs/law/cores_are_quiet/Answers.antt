use Rattle.run_laws.proofs.Rested.{quiet}
use Rattle.run_laws.proofs.law.cores_are_quiet.Goals as goal

pub returns : goal.returns
returns c = λ code bound cores entries links valid all work rest worker. quiet code valid bound cores entries links all work rest worker
