use Rattle.std.proofs.Common.{◌≡◌, ◌++◌, ◌-◌, ◌≤◌, length, replicate, pos, max}
use Rattle.std.specs.Vec.{vec_len, vec_capacity}
use Rattle.work_item.proofs.words.put_zeros.Given as goal

abbrev pub invariant-loop : goal.invariant-loop
invariant-loop l = record {
  items : l.words.items ≡ l.fn.words.items ++ replicate (l.counter - length l.fn.words.items) (pos 0);
  len : vec_len l.words ≡ l.counter;
  most : l.counter ≤ max l.count (vec_len l.fn.words);
  capacity : vec_capacity l.words ≡ vec_capacity l.fn.words;
}
