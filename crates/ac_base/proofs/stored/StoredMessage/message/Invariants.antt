-- The message has its first int and so many of those after it.
use Rattle.std.proofs.Common.{◌≡◌, ◌∷◌, take, drop}
use Rattle.ac_base.proofs.stored.StoredMessage.message.Given as goal

abbrev pub invariant-loop-index : goal.invariant-loop-index
invariant-loop-index l = l.message ≡ l.self.first ∷ take l.index (drop l.self.start l.further.0)
