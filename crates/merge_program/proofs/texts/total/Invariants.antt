use Rattle.std.proofs.Common.{◌≡◌, ◌≤◌, ◌*◌, ◌^◌, take}
use lib.Signed.{mag}
use Rattle.merge_program.specs.Lines.{sum_of, values}
use Rattle.merge_program.proofs.texts.total.Given as goal

abbrev pub invariant-loop-message : goal.invariant-loop-message
invariant-loop-message l = record {
  sum_is : l.sum ≡ sum_of (values (take l.message-index l.messages));
  small : mag l.sum ≤ 2 ^ 63 * l.message-index;
}
