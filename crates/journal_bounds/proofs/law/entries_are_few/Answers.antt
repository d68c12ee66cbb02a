use Rattle.journal_bounds.proofs.Runs.{entries_few}
use Rattle.journal_bounds.proofs.law.entries_are_few.Goals as goal

pub returns : goal.returns
returns c = entries_few
