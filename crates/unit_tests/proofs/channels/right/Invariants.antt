use Rattle.std.proofs.Common.{◌≡◌, ◌<◌, false, length}
use Rattle.core_channels.specs.LinkViews.{link_at}
use Rattle.unit_tests.proofs.channels.right.Given as goal

abbrev pub invariant-loop-at : goal.invariant-loop-at
invariant-loop-at l = record {
  one : 0 < length l.links;
  channel : (link_at l.links 0).terms.requests ≡ false;
}
