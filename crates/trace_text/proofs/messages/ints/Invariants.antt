use Rattle.std.proofs.Common.{◌≡◌, ◌-◌, ◌≤◌, [], length}
use Rattle.trace_text.specs.inner.Reading.{more_ints}
use Rattle.trace_text.proofs.messages.ints.Given as goal

abbrev pub invariant-ints : goal.invariant-ints
invariant-ints l = record {
  some : 1 ≤ length l.message;
  few : length l.message ≤ l.count;
  same : more_ints l.message (l.count - length l.message) l.c.rest.now ≡ more_ints [] l.count l.fn.c.rest.now;
}

abbrev pub decreases-ints : goal.decreases-ints
decreases-ints l = l.count - length l.message
