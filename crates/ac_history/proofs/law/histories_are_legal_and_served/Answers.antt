use Rattle.ac_history.proofs.Running.{run_is, is_run, run_files}
use Rattle.ac_history.proofs.law.histories_are_legal_and_served.Goals as goal

pub returns-clause-legal : goal.returns-clause-legal
returns-clause-legal c = run_is

pub returns-clause-history : goal.returns-clause-history
returns-clause-history c = is_run

pub returns-clause-files : goal.returns-clause-files
returns-clause-files c = run_files
