use Rattle.ac_causal.proofs.Audited.{is_legal}
use Rattle.ac_causal.proofs.law.runs_are_legal.Goals as goal

pub returns : goal.returns
returns c = is_legal
