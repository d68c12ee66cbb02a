use Rattle.ac_causal.proofs.ClosedCuts.{closed_cuts}
use Rattle.ac_causal.proofs.law.closed_cuts_are_legal.Goals as goal

pub returns : goal.returns
returns c = closed_cuts
