use Rattle.std.proofs.Common.{ℕ, ◌<◌, ◌≤◌}
use Rattle.std.specs.List.{All}
use Rattle.core_channels.specs.LinkViews.{IsLink, link_at, SameButSpares}
use Rattle.core_channels.proofs.links.Links.reserve.Given as goal

abbrev pub invariant-loop-link : goal.invariant-loop-link
invariant-loop-link l = record {
  same : SameButSpares l.fn.self l.self-inside.links.items;
  spares : (k : ℕ) → k < l.link → l.n ≤ (link_at l.self-inside.links.items k).spare;
  all : All IsLink l.self-inside.links.items;
}
