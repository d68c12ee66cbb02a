use Rattle.std.proofs.Common.{◌≡◌}
use Rattle.work_item.specs.Conditions.{HomeLives}
use Rattle.core_state.specs.Requests.{with_bytes_at, bytes_for}
use Rattle.core_operators.proofs.Bytes.{with_others}
use Rattle.core_operators.proofs.requests.write_bytes.Given as goal

abbrev pub invariant-loop-index : goal.invariant-loop-index
invariant-loop-index l = record {
  put : with_others l.into l.bytes l.frames l.index ≡ with_bytes_at l.fn.frames l.into (bytes_for l.into l.bytes);
  lives : HomeLives l.frames l.into.home;
}
