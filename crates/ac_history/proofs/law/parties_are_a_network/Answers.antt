use Rattle.ac_history.proofs.Parties.{parties_agree}
use Rattle.ac_history.proofs.law.parties_are_a_network.Goals as goal

pub returns : goal.returns
returns c = parties_agree
