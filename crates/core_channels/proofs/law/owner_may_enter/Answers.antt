use Rattle.core_channels.proofs.Entering.{offer_enters, learning_enters, withdrawal_enters}
use Rattle.core_channels.proofs.law.owner_may_enter.Goals as goal

pub returns-clause-offer : goal.returns-clause-offer
returns-clause-offer c = λ terms ends j turn l v payload t h fits. offer_enters terms ends j turn v l t h payload fits

pub returns-clause-learn : goal.returns-clause-learn
returns-clause-learn c = λ terms ends j turn l v t h. learning_enters terms ends j turn v l t h

pub returns-clause-withdraw : goal.returns-clause-withdraw
returns-clause-withdraw c = λ terms ends j turn l number v t h fits. withdrawal_enters terms ends j turn v l t h number fits
