use Rattle.request_ends.proofs.Viewing.{requests_are_views}
use Rattle.request_ends.proofs.law.requests_are_views.Goals as goal

pub returns : goal.returns
returns c = requests_are_views
