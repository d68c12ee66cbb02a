use Rattle.ac_history.proofs.Bound.{stamps_at_most}
use Rattle.ac_history.proofs.law.stamps_are_few.Goals as goal

pub returns : goal.returns
returns c = stamps_at_most
