use Rattle.std.proofs.Common.{◌≡◌, ◌++◌, length}
use Rattle.std.specs.Vec.Iter.{into_iter_items, into_iter_len}
use Rattle.merge_run.proofs.Made.{AreMade}
use Rattle.merge_run.proofs.making.new_parties.Given as goal

abbrev pub invariant-loop-place : goal.invariant-loop-place
invariant-loop-place l = record {
  left : l.yielded ++ into_iter_items l.place-iterator ≡ into_iter_items l.initial.place-iterator;
  count : into_iter_len l.place-iterator ≡ length (into_iter_items l.place-iterator);
  tag : l.tag ≡ length l.yielded;
  made : AreMade (length l.words) l.count (length l.yielded) l.parties.items l.ins.items;
}
