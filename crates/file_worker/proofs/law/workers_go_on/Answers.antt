-- What goes on twice goes on, and so does what is settled.
use Rattle.file_worker.proofs.Going.{goes_on_both, settling_goes_on}
use Rattle.file_worker.proofs.law.workers_go_on.Goals as goal

pub returns-clause-calls : goal.returns-clause-calls
returns-clause-calls c = goes_on_both

pub returns-clause-settlings : goal.returns-clause-settlings
returns-clause-settlings c = settling_goes_on
