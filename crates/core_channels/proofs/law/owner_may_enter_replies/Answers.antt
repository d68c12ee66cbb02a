use Rattle.core_channels.proofs.Entering.{reply_enters}
use Rattle.core_channels.proofs.law.owner_may_enter_replies.Goals as goal

pub returns : goal.returns
returns c = λ terms ends j turn l v answer of t h is r next. reply_enters terms ends j turn v l t h is r answer of next
