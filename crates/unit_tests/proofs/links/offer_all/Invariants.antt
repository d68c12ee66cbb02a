use Rattle.std.proofs.Common.{◌≡◌, ◌≤◌, ◌-◌, true, length}
use Rattle.completion_word.specs.Link.{offer_at}
use Rattle.completion_word.specs.Steps.{IsOpen}
use Rattle.completion_word.specs.Seats.{owner_of, IsOwnerOf}
use Rattle.unit_tests.proofs.links.offer_all.Given as goal

abbrev pub invariant-loop-turn : goal.invariant-loop-turn
invariant-loop-turn l = record {
  seat : IsOwnerOf l.owner l.words;
  stamp_is : l.stamp ≡ (owner_of l.owner).last;
  few : l.stamp ≤ l.turn;
  posts : l.posted ≤ l.turn;
  open_is : l.open ≡ true → IsOpen (offer_at (owner_of l.owner).offers (length (owner_of l.owner).offers - 1));
}
