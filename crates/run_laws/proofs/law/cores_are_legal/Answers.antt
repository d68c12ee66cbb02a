use Rattle.run_laws.proofs.Together.{legal}
use Rattle.run_laws.proofs.law.cores_are_legal.Goals as goal

pub returns : goal.returns
returns c = λ code bound cores entries links valid all work wide. legal code valid bound cores entries links all work wide
