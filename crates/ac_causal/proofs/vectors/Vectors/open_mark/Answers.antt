-- The mark that is read tells what the entry answers; two questions tell which of them are in the cut.
use Rattle.std.proofs.Common.{◌≡◌, ℕ, zero, suc, ◌<◌, refl, subst, arith}
use Rattle.std.specs.Prelude.{◌↔◌, IsTrue}
use Rattle.std.proofs.lemmas.List.{get_or_read}
use Rattle.ac_causal.specs.Cuts.{IsInside}
use Rattle.ac_causal.proofs.Cutting.{in_seen, mark_within, sees_none, both_inside, is_open_at}
use Rattle.ac_causal.proofs.vectors.Vectors.open_mark.Goals as goal

positive : (m : ℕ) → (m ≡ 0 → ⊥) → 0 < m
positive zero h = absurd (h refl)
positive (suc m) h = omega arith

pub returns-then-mark-eq0 : goal.returns-then-mark-eq0
returns-then-mark-eq0 c =
    sees_none c.self.inside.trace.now.entries c.self.inside.parties c.self.inside.table.items c.self.inside.seen.items c.self.invariant.whole c.args.self.now c.self.view_is
    c.args.counts.now c.args.entry c.index-mark.result.now c.requires.entry
    (get_or_read c.self.inside.seen.items _ _ (in_seen c.self.inside.trace.now.entries c.self.inside.parties c.self.inside.table.items c.self.inside.seen.items c.self.invariant.whole
    c.args.self.now c.self.view_is c.args.entry c.requires.entry) c.index-mark.ensures 0)
    c.if-mark-eq0.true

pub is_inside-requires-2-clause-entry : goal.is_inside-requires-2-clause-entry
is_inside-requires-2-clause-entry c =
    let within = mark_within c.self.inside.trace.now.entries c.self.inside.parties c.self.inside.table.items c.self.inside.seen.items c.self.invariant.whole c.args.self.now c.self.view_is
    c.args.counts.now c.args.entry c.index-mark.result.now c.requires.entry
    (get_or_read c.self.inside.seen.items _ _ (in_seen c.self.inside.trace.now.entries c.self.inside.parties c.self.inside.table.items c.self.inside.seen.items c.self.invariant.whole
    c.args.self.now c.self.view_is c.args.entry c.requires.entry) c.index-mark.ensures 0)
    (positive c.index-mark.result.now c.if-mark-eq0.false) in
    let from = c.from.ensures in
    omega (arith, within, from)

pub returns-then-is_inside : goal.returns-then-is_inside
returns-then-is_inside c =
    both_inside c.self.inside.trace.now.entries c.self.inside.parties c.self.inside.table.items c.self.inside.seen.items c.self.invariant.whole c.args.self.now c.self.view_is
    c.args.counts.now c.args.entry c.index-mark.result.now c.requires.entry
    (get_or_read c.self.inside.seen.items _ _ (in_seen c.self.inside.trace.now.entries c.self.inside.parties c.self.inside.table.items c.self.inside.seen.items c.self.invariant.whole
    c.args.self.now c.self.view_is c.args.entry c.requires.entry) c.index-mark.ensures 0)
    (positive c.index-mark.result.now c.if-mark-eq0.false) c.is_inside-2.result c.if-is_inside.true
    (subst (λ x. IsTrue c.is_inside-2.result ↔ IsInside c.args.self.now.entries c.args.counts.now x) c.from.ensures c.is_inside-2.ensures)

pub returns : goal.returns
returns c =
    is_open_at c.self.inside.trace.now.entries c.self.inside.parties c.self.inside.table.items c.self.inside.seen.items c.self.invariant.whole c.args.self.now c.self.view_is
    c.args.counts.now c.args.entry c.index-mark.result.now c.requires.entry
    (get_or_read c.self.inside.seen.items _ _ (in_seen c.self.inside.trace.now.entries c.self.inside.parties c.self.inside.table.items c.self.inside.seen.items c.self.invariant.whole
    c.args.self.now c.self.view_is c.args.entry c.requires.entry) c.index-mark.ensures 0)
    (positive c.index-mark.result.now c.if-mark-eq0.false) c.is_inside.result c.is_inside-2.result c.if-not-is_inside.false c.is_inside.ensures c.if-is_inside.false
    (subst (λ x. IsTrue c.is_inside-2.result ↔ IsInside c.args.self.now.entries c.args.counts.now x) c.from.ensures c.is_inside-2.ensures)
