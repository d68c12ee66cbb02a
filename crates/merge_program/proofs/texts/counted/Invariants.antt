use Rattle.std.proofs.Common.{◌≡◌, ◌≤◌, ◌*◌, ◌^◌, length, take}
use lib.Signed.{mag}
use Rattle.ac_choice.specs.Relaying.{of_end}
use Rattle.merge_program.specs.Lines.{sum_of}
use Rattle.merge_program.proofs.texts.counted.Given as goal

abbrev pub invariant-loop-message : goal.invariant-loop-message
invariant-loop-message l = record {
  count_is : l.count ≡ length (of_end l.tag (take l.message-index l.messages));
  few : l.count ≤ l.message-index;
  sum_is : l.sum ≡ sum_of (of_end l.tag (take l.message-index l.messages));
  small : mag l.sum ≤ 2 ^ 63 * l.message-index;
}
