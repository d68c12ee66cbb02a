-- An entry's own count tells its place among those of its party.
use Rattle.std.proofs.Common.{ap, ◌∙◌, List, ℕ, ◌+◌, arith}
use Rattle.ac_causal.specs.Run.{CausalRun}
use Rattle.ac_causal.specs.inner.Marks.{count_at}
use Rattle.ac_causal.proofs.Reaching.{party_within}
use Rattle.ac_causal.proofs.Cutting.{inside_by}
use Rattle.ac_causal.proofs.vectors.Vectors.is_inside.Goals as goal

pub count_at-own-requires : goal.count_at-own-requires
count_at-own-requires c = party_within c.self.inside.trace.now.entries c.self.inside.parties c.self.inside.table.items c.self.invariant.whole.kept c.args.entry c.get.result.now c.get.ensures

pub returns : goal.returns
returns c =
    inside_by c.self.inside.trace.now.entries c.self.inside.parties c.self.inside.table.items c.self.invariant.whole.kept c.args.self.now c.self.view_is
    c.args.counts.now c.args.entry c.count_at-own.result c.get.result.now c.get.ensures
    (c.count_at-own.ensures ∙ ap (λ (table : List ℕ). count_at c.self.inside.parties table (c.args.entry + 1) c.get.result.now.party) c.as_slice.ensures.value)

pub bounds-counts-party : goal.bounds-counts-party
bounds-counts-party c =
    let within = party_within c.self.inside.trace.now.entries c.self.inside.parties c.self.inside.table.items c.self.invariant.whole.kept c.args.entry c.get.result.now c.get.ensures in
    let many = c.requires.counts in
    let same = ap (λ (r : CausalRun). r.parties) c.self.view_is in
    omega (arith, within, many, same)
