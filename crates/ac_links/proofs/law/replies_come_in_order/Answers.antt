use Rattle.ac_links.proofs.Waiting.{takes_reply, in_turn}
use Rattle.ac_links.proofs.law.replies_come_in_order.Goals as goal

pub returns-clause-next : goal.returns-clause-next
returns-clause-next c = takes_reply

pub returns-clause-all : goal.returns-clause-all
returns-clause-all c = in_turn
