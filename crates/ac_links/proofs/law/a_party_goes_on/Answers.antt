use Rattle.ac_links.proofs.Party.{party_goes_on}
use Rattle.ac_links.proofs.law.a_party_goes_on.Goals as goal

pub returns : goal.returns
returns c = party_goes_on
