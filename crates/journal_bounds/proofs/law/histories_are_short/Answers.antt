use Rattle.journal_bounds.proofs.Stamps.{histories_short}
use Rattle.journal_bounds.proofs.law.histories_are_short.Goals as goal

pub returns : goal.returns
returns c = histories_short
