use Rattle.program_run.proofs.Outcomes.{done_or_never}
use Rattle.program_run.proofs.law.tried_is_done_or_never_happens.Goals as goal

pub returns : goal.returns
returns c = done_or_never
