-- The counts are those of the entry's row.
use Rattle.std.proofs.Common.{ap, ◌∙◌, List, ℕ, ◌+◌, ◌<◌, arith}
use Rattle.ac_causal.specs.inner.Marks.{count_at}
use Rattle.ac_causal.proofs.Reaching.{vector_by}
use Rattle.ac_causal.proofs.vectors.Vectors.vector.Goals as goal

pub returns : goal.returns
returns c =
    vector_by c.self.inside.trace.now.entries c.self.inside.parties c.self.inside.table.items c.self.invariant.whole.kept c.args.self.now c.self.view_is
    c.args.entry c.loop-party.counts c.requires (omega arith)
    (λ p lt. (let lower : p < c.loop-party.party = omega arith in c.loop-party.invariant.each p lower)
    ∙ ap (λ (table : List ℕ). count_at c.self.inside.parties table (c.args.entry + 1) p) c.as_slice-table.ensures.value)
