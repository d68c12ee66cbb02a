use Rattle.ac_history.proofs.Whole.{legal_merged}
use Rattle.ac_history.proofs.law.merged_is_legal.Goals as goal

pub returns : goal.returns
returns c = legal_merged
