use Rattle.run_laws.proofs.Whole.{one_run}
use Rattle.run_laws.proofs.law.cores_make_a_run.Goals as goal

pub returns : goal.returns
returns c = λ program code bound files cores entries links ended valid is_code is_same few all work done worker.
    one_run program code bound files cores entries links valid is_code is_same few all work done worker ended
