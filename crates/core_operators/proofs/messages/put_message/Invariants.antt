use Rattle.std.proofs.Common.{◌≡◌}
use Rattle.work_item.specs.Conditions.{HomeLives}
use Rattle.core_state.specs.Messages.{with_ints_at}
use Rattle.core_operators.proofs.Ints.{with_ints_on}
use Rattle.core_operators.proofs.messages.put_message.Given as goal

abbrev pub invariant-loop-index : goal.invariant-loop-index
invariant-loop-index l = record {
  put : with_ints_on l.into l.ints l.frames l.index ≡ with_ints_at l.fn.frames l.into l.ints;
  lives : HomeLives l.frames l.into.home;
}
