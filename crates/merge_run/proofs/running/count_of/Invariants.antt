use Rattle.std.proofs.Common.{◌≡◌, ◌≤◌, length, take}
use Rattle.ac_choice.specs.Relaying.{of_end}
use Rattle.merge_run.proofs.running.count_of.Given as goal

abbrev pub invariant-loop-message : goal.invariant-loop-message
invariant-loop-message l = record {
  count_is : l.count ≡ length (of_end l.tag (take l.message-index l.messages));
  few : l.count ≤ l.message-index;
}
