use Rattle.std.proofs.Common.{◌≡◌, ◌++◌, length, map}
use Rattle.std.specs.List.{AllByRecursion}
use Rattle.std.specs.Vec.Iter.{into_iter_items, into_iter_len}
use Rattle.ac_history.specs.Merged.{entries_of}
use Rattle.run_parties.specs.Seats.{CoreSeat, core_of}
use Rattle.run_parties.specs.Seated.{HasItsPorts}
use Rattle.core_runner.specs.inner.Parties.{seats_in}
use Rattle.core_runner.proofs.ended.ended_of.Given as goal

abbrev pub invariant-loop-party : goal.invariant-loop-party
invariant-loop-party g l = record {
  left : l.yielded ++ into_iter_items l.party-iterator ≡ into_iter_items l.initial.party-iterator;
  count : into_iter_len l.party-iterator ≡ length (into_iter_items l.party-iterator);
  journals : map entries_of l.journals ≡ map (λ (s : CoreSeat). (core_of s).journal) (seats_in l.yielded);
  ends : l.ends ≡ map (λ (s : CoreSeat). (core_of s).end) (seats_in l.yielded);
  ports : AllByRecursion HasItsPorts (seats_in l.yielded);
}
