-- Nothing was done, and so no call was made.
use Rattle.file_worker.proofs.Going.{starts_counted, starts_served}
use Rattle.file_worker.proofs.law.workers_start.Goals as goal

pub returns-clause-counted : goal.returns-clause-counted
returns-clause-counted c = starts_counted

pub returns-clause-served : goal.returns-clause-served
returns-clause-served c = starts_served
