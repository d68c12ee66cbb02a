use Rattle.std.proofs.Common.{length, ap, ◌∙◌, subst}
use Rattle.merge_run.specs.inner.Parts.{ArePartOf}
use Rattle.merge_run.specs.inner.Counting.{AreWhole}
use Rattle.merge_run.proofs.Whole.{all_received}
use Rattle.merge_run.proofs.running.merge.Goals as goal

pub returns : goal.returns
returns g c =
    let width_is = ap length c.as_slice.ensures.value ∙ c.in_ok-words.ensures.words_count in
    all_received c.args.count c.args.width c.in_ok-received.received.items
    (subst (λ w. ArePartOf c.args.count w c.in_ok-received.received.items) width_is c.in_ok-received.ensures)
    (subst (λ ms. AreWhole c.args.width c.args.count ms) c.as_slice-2.ensures.value (c.are_whole.ensures c.if-not-are_whole.false))
