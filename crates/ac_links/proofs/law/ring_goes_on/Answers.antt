use Rattle.ac_links.proofs.Waiting.{waiting_decide, waiting_offer, waiting_withdraw, waiting_learn, turn_offer, turn_withdraw, turn_learn, turn_reply}
use Rattle.ac_links.proofs.law.ring_goes_on.Goals as goal

pub returns-clause-decide : goal.returns-clause-decide
returns-clause-decide c = waiting_decide

pub returns-clause-offer : goal.returns-clause-offer
returns-clause-offer c = waiting_offer

pub returns-clause-withdraw : goal.returns-clause-withdraw
returns-clause-withdraw c = waiting_withdraw

pub returns-clause-learn : goal.returns-clause-learn
returns-clause-learn c = waiting_learn

pub returns-clause-offer_turn : goal.returns-clause-offer_turn
returns-clause-offer_turn c = turn_offer

pub returns-clause-withdraw_turn : goal.returns-clause-withdraw_turn
returns-clause-withdraw_turn c = turn_withdraw

pub returns-clause-learn_turn : goal.returns-clause-learn_turn
returns-clause-learn_turn c = turn_learn

pub returns-clause-reply_turn : goal.returns-clause-reply_turn
returns-clause-reply_turn c = turn_reply
