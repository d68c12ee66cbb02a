use Rattle.ac_links.proofs.Keeps.{agree_offer, agree_decide, agree_withdraw, agree_learn, agree_reply}
use Rattle.ac_links.proofs.law.views_go_on_agreeing.Goals as goal

pub returns-clause-offer : goal.returns-clause-offer
returns-clause-offer c = agree_offer

pub returns-clause-decide : goal.returns-clause-decide
returns-clause-decide c = agree_decide

pub returns-clause-withdraw : goal.returns-clause-withdraw
returns-clause-withdraw c = agree_withdraw

pub returns-clause-learn : goal.returns-clause-learn
returns-clause-learn c = agree_learn

pub returns-clause-reply : goal.returns-clause-reply
returns-clause-reply c = agree_reply
