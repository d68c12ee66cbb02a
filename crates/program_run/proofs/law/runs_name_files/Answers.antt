use Rattle.program_run.proofs.NamedRuns.{runs_name_files}
use Rattle.program_run.proofs.law.runs_name_files.Goals as goal

pub returns : goal.returns
returns c = runs_name_files
