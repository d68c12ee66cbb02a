-- What is gathered and what is known to be on the ring are together as they were, and there is room for all.
use Rattle.std.proofs.Common.{◌+◌, ◌≤◌, length}
use Rattle.std.specs.VecDeque.{deque_len, deque_capacity}
use Rattle.rtrb.specs.Ring.{known_items}
use Rattle.request_ends.specs.inner.Coming.{coming_of, IsComing, HasGathered}
use Rattle.request_ends.proofs.inbox.Inbox.gather.Given as goal

abbrev pub invariant-loop-self : goal.invariant-loop-self
invariant-loop-self l = IsComing l.self-inside × HasGathered (coming_of l.initial.self-inside) (coming_of l.self-inside)
    × (deque_len l.self-inside.gathered + length (known_items l.self-inside.ring) ≤ deque_capacity l.self-inside.gathered)

abbrev pub decreases-loop-self : goal.decreases-loop-self
decreases-loop-self l = length (known_items l.self-inside.ring)
