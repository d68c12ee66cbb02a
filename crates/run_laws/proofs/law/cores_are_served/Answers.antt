use Rattle.run_laws.proofs.Together.{did, served}
use Rattle.run_laws.proofs.law.cores_are_served.Goals as goal

pub returns : goal.returns
returns c = λ code bound cores entries links valid all work. (
  did code valid bound cores entries links all work,
  served code valid bound cores entries links all work,
)
