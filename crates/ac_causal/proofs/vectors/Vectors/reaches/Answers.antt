-- The counts that are read are those of the table, which tells the order.
use Rattle.std.proofs.Common.{refl, ap, ◌∙◌, List, ℕ, ◌+◌}
use Rattle.ac_causal.specs.inner.Marks.{count_at}
use Rattle.ac_causal.proofs.Reaching.{party_within, reaches_by}
use Rattle.ac_causal.proofs.vectors.Vectors.reaches.Goals as goal

pub count_at-own-requires : goal.count_at-own-requires
count_at-own-requires c = party_within c.self.inside.trace.now.entries c.self.inside.parties c.self.inside.table.items c.self.invariant.whole.kept c.args.one c.get.result.now c.get.ensures

pub count_at-seen-requires : goal.count_at-seen-requires
count_at-seen-requires c = party_within c.self.inside.trace.now.entries c.self.inside.parties c.self.inside.table.items c.self.invariant.whole.kept c.args.one c.get.result.now c.get.ensures

pub returns : goal.returns
returns c =
    reaches_by c.self.inside.trace.now.entries c.self.inside.parties c.self.inside.table.items c.self.invariant.whole.kept c.args.self.now c.self.view_is
    c.args.one c.args.other c.get.result.now.party c.count_at-own.result c.count_at-seen.result c.get.result.now c.get.ensures c.requires.other refl
    (c.count_at-own.ensures ∙ ap (λ (table : List ℕ). count_at c.self.inside.parties table (c.args.one + 1) c.get.result.now.party) c.as_slice-table.ensures.value)
    (c.count_at-seen.ensures ∙ ap (λ (table : List ℕ). count_at c.self.inside.parties table (c.args.other + 1) c.get.result.now.party) c.as_slice-table.ensures.value)
