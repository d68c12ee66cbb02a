use Rattle.std.proofs.Common.{◌≡◌, ℕ, ◌<◌, length}
use Rattle.std.specs.List.{All}
use Rattle.core_channels.specs.LinkViews.{IsLink, link_at, without_spare, new_link, terms_at}
use Rattle.core_channels.proofs.links.Links.new.Given as goal

abbrev pub invariant-loop-capacity : goal.invariant-loop-capacity
invariant-loop-capacity l = record {
  number : l.number ≡ l.capacity-index;
  count : length l.links.items ≡ l.capacity-index;
  each : (k : ℕ) → k < length l.links.items → without_spare (link_at l.links.items k) ≡ new_link (terms_at l.fn.channels l.fn.capacities k);
  all : All IsLink l.links.items;
}
