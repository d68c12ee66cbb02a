use Rattle.std.proofs.Common.{◌≡◌, ◌∙◌, refl, ap, sym, subst, ◌++◌, List, [], ◌∷◌, length, append_assoc, append-nil, arith}
use Rattle.std.specs.Vec.Iter.{into_iter_items}
use Rattle.trace_audit.specs.inner.Replaying.{AreEnds}
use Rattle.trace_audit.proofs.Ending.{end_more}
use Rattle.trace_audit.proofs.replays.ends_of.Goals as goal

nothing_left : {X : Type 0} (xs : List X) → length xs ≡ 0 → xs ≡ []
nothing_left [] h = refl
nothing_left (x ∷ xs) h = absurd (omega arith)

pub loop-core-preserved : goal.loop-core-preserved
loop-core-preserved c =
    let at = c.loop-core in
    let x = c.in-Some.core in
    let steps : into_iter_items at.core-iterator ≡ x ∷ into_iter_items c.next.new.self = c.in-Some.ensures.steps.0 in
    record {
      left = append_assoc at.yielded (x ∷ []) _ ∙ rw (← steps) at.invariant.left;
      count = let was = at.invariant.count in let gone = c.in-Some.ensures.steps.1 in let short = ap length steps in omega arith;
      ends = subst (AreEnds (at.yielded ++ x ∷ [])) (sym c.in_ok-push.ensures.ok) (end_more at.yielded at.ends x c.in_ok-end.field-0 at.invariant.ends c.in_ok-end.ensures);
    }

pub returns : goal.returns
returns c =
    let at = c.loop-core in
    let none = c.in-None.ensures.steps in
    let empty : into_iter_items at.core-iterator ≡ [] = nothing_left _ (sym at.invariant.count ∙ none.0) in
    let all = sym (append-nil at.yielded) ∙ rw empty at at.invariant.left ∙ c.into_iter-core-iterator.ensures.into_iter_gives.0 in
    subst (λ rs. AreEnds rs at.ends) all at.invariant.ends
