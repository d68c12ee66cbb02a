use Rattle.std.proofs.Common.{◌-◌}
use Rattle.completion_word.specs.Seats.{owner_of, IsOwnerOf}
use Rattle.channel_ends.specs.inner.Catching.{GoesOn}
use Rattle.channel_ends.proofs.catching.catch_up.Given as goal

abbrev pub invariant-loop-owner : goal.invariant-loop-owner
invariant-loop-owner l = IsOwnerOf l.owner l.words × GoesOn l.lead (owner_of l.initial.owner) (owner_of l.owner)

abbrev pub decreases-loop-owner : goal.decreases-loop-owner
decreases-loop-owner l = l.lead - l.owner.learned
