use Rattle.ac_links.proofs.Resting.{owner_at_rest, peer_at_rest}
use Rattle.ac_links.proofs.law.sides_at_rest_have_nothing.Goals as goal

pub returns-clause-owner : goal.returns-clause-owner
returns-clause-owner c = owner_at_rest

pub returns-clause-peer : goal.returns-clause-peer
returns-clause-peer c = peer_at_rest
