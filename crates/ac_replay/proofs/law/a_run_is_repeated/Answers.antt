use Rattle.ac_replay.proofs.Repeating.{runs_are_repeated}
use Rattle.ac_replay.proofs.law.a_run_is_repeated.Goals as goal

pub returns : goal.returns
returns c = runs_are_repeated
