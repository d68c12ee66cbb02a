use Rattle.ac_links.proofs.Pair.{owner_first, peer_first, owner_first_ends, peer_first_ends}
use Rattle.ac_links.proofs.law.two_views_make_a_link.Goals as goal

pub returns-clause-fits : goal.returns-clause-fits
returns-clause-fits c = λ terms offers decisions mine yours os ds agree owner peer up down. (
  owner_first terms offers decisions agree mine yours os ds owner peer up down,
  peer_first terms offers decisions agree mine yours os ds owner peer up down,
)

pub returns-clause-link : goal.returns-clause-link
returns-clause-link c = λ terms offers decisions mine yours os ds agree owner peer up down. (
  owner_first_ends terms offers decisions agree mine yours os ds owner peer up down,
  peer_first_ends terms offers decisions agree mine yours os ds owner peer up down,
)
