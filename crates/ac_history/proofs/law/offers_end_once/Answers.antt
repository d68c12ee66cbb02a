use Rattle.ac_history.proofs.Outcomes.{ends_once, known_is_taken}
use Rattle.ac_history.proofs.law.offers_end_once.Goals as goal

pub returns-clause-once : goal.returns-clause-once
returns-clause-once c = ends_once

pub returns-clause-known : goal.returns-clause-known
returns-clause-known c = known_is_taken
