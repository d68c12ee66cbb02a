use Rattle.core_channels.proofs.Entering.{take_enters}
use Rattle.core_channels.proofs.law.peer_may_enter.Goals as goal

pub returns : goal.returns
returns c = λ terms ends j turn l v t h channel. take_enters terms ends j turn v l t h channel
