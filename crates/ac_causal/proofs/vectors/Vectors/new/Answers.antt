use Rattle.std.proofs.Common.{◌≡◌, ◌∙◌, ℕ, suc, ◌+◌, List, length, ap, add-one}
use Rattle.ac_causal.proofs.Reaching.{are_vectors}
use Rattle.ac_causal.proofs.vectors.Vectors.new.Goals as goal

pub invariant_of-result : goal.invariant_of-result
invariant_of-result c =
    let many : length c.entries.result.now + 1 ≡ suc (length c.args.code.now.entries) =
    ap (λ (es : List ℕ). length es + 1) c.entries.ensures ∙ add-one (length c.args.code.now.entries) in
    are_vectors c.args.code.now c.args.trace.now c.len-links.result (length c.entries.result.now + 1) c.as_slice.result.now c.in_ok-table.field-0.table.items
    c.in_ok-table.field-0.seen.items c.requires.audited c.requires.few c.as_slice.ensures many (c.len-links.ensures ∙ ap (λ (xs : List ℕ). length xs) c.capacities.ensures)
    c.in_ok-table.ensures.rows c.in_ok-table.ensures.marks
