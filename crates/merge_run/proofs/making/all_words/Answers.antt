use Rattle.std.proofs.Common.{arith, sym, subst, ◌+◌, ◌++◌, [], ◌∷◌}
use Rattle.merge_run.specs.inner.Making.{AreUnused}
use Rattle.merge_run.proofs.Made.{none_unused, one_unused}
use Rattle.merge_run.proofs.making.all_words.Goals as goal

pub loop-done-init : goal.loop-done-init
loop-done-init c = record {
  unused = none_unused c.new-words.result.items c.new-seats.result.items c.new-words.ensures.items c.new-seats.ensures.items;
  most = omega arith;
}

pub loop-done-preserved : goal.loop-done-preserved
loop-done-preserved c =
    let at = c.loop-done in
    record {
      unused = subst (λ ws. AreUnused (at.done + 1) ws c.push-in-loop-done.new.self.items) (sym c.in_ok-push.ensures.items)
          (subst (λ ss. AreUnused (at.done + 1) (at.words.items ++ c.in_ok-made.made ∷ []) ss) (sym c.in_ok-push-2.ensures.items)
          (one_unused at.done at.words.items at.seats.items c.in_ok-made.made c.in_ok-made.own at.invariant.unused c.in_ok-made.ensures));
      most = let l = c.loop-done-test.true in omega (arith, l);
    }
