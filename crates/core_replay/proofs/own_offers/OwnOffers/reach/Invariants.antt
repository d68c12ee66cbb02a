use Rattle.std.proofs.Common.{◌≡◌, ℕ, ◌+◌, ◌≤◌, length}
use Rattle.std.specs.Prelude.{slice_index}
use Rattle.core_replay.proofs.own_offers.OwnOffers.reach.Given as goal

abbrev pub invariant-loop : goal.invariant-loop
invariant-loop l = record {
  counts : (n : ℕ) → slice_index l.self-inside.counts.items n ≡ slice_index l.fn.self.counts n;
  kept : l.self-inside.kept.items ≡ l.fn.self.kept;
  within : l.counter + length l.fn.self.counts ≤ length l.self-inside.counts.items;
}
