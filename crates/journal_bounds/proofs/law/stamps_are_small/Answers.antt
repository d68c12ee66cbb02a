use Rattle.journal_bounds.proofs.Stamps.{stamps_small}
use Rattle.journal_bounds.proofs.law.stamps_are_small.Goals as goal

pub returns : goal.returns
returns c = stamps_small
