use Rattle.run_laws.proofs.Clocks.{none_full, worker_not_full}
use Rattle.run_laws.proofs.law.no_clock_is_full.Goals as goal

pub returns : goal.returns
returns c = λ code bound cores entries links most valid all work small few. (
  none_full code valid bound cores entries links all work most small few,
  worker_not_full code valid bound cores entries links all work most small few,
)
