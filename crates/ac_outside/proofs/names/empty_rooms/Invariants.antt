-- As many rooms as turns were made.
use Rattle.std.proofs.Common.{◌≡◌, length}
use Rattle.ac_outside.proofs.names.empty_rooms.Given as goal

abbrev pub invariant-loop : goal.invariant-loop
invariant-loop l = length l.rooms.items ≡ l.counter
