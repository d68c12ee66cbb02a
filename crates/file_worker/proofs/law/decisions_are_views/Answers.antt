-- The worker's decisions are those of an end that makes a link.
use Rattle.file_worker.proofs.Answering.{are_viewed}
use Rattle.file_worker.proofs.law.decisions_are_views.Goals as goal

pub returns : goal.returns
returns c = are_viewed
