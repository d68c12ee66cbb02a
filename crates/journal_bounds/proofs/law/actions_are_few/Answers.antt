use Rattle.journal_bounds.proofs.Sizes.{actions_few}
use Rattle.journal_bounds.proofs.law.actions_are_few.Goals as goal

pub returns : goal.returns
returns c = actions_few
