use Rattle.std.proofs.Common.{◌+◌, ◌*◌, ◌^◌, ◌≤◌, ◌<◌, pos, get_or, length, ap, sym, ◌∙◌, subst, rules, arith, w64, to_z, SFits}
use Rattle.std.specs.Int.{w128}
use Rattle.std.specs.Prelude.{◌+ℤ◌}
use lib.Signed.{mag}
use Rattle.ac_choice.specs.declared.answers.Tagged.{Tagged}
use Rattle.merge_program.specs.Lines.{sum_of}
use Rattle.merge_program.proofs.Sums.{taken_other, count_it, sum_it, small_more, added_fits, added_is}
use Rattle.merge_program.proofs.texts.counted.Goals as goal
use Rattle.merge_program.proofs.texts.counted.Goals.{then-message-tag, else-message-tag}

abbrev none : Tagged
none = record { end = 0; value = pos 0 }

pub loop-message-preserved : goal.loop-message-preserved
loop-message-preserved c =
    let ms = c.args.messages.now in let k = c.loop-message.message-index in let tag = c.args.tag in let before = c.loop-message.invariant in
    let within : k < length ms = c.loop-message-test.true in
    let few : k + 1 < 2 ^ 64 = omega arith in
    let sum = to_z w128 c.loop-message.sum-bits in
    elim c.if-message-tag.branch [
      | then-message-tag w ↦
          let value = (get_or ms k none).value in
          let fits : SFits w64 (get_or c.args.messages.now c.loop-message.message-index none).value = search rules in
          let is = w.sum-is ∙ added_is sum w.from-sum.result value k before.small few fits w.from-sum.ensures in
          record {
            count_is = w.count-is ∙ ap (λ n. n + 1) before.count_is ∙ sym (count_it tag ms k none within w.if-message-tag.true);
            few = omega (arith, w.count-is, before.few);
            sum_is = is ∙ ap (λ x. x +ℤ value) before.sum_is ∙ sym (sum_it tag ms k none within w.if-message-tag.true);
            small = subst (λ x. mag x ≤ 2 ^ 63 * (k + 1)) (sym is) (small_more sum w.from-sum.result value k before.small few fits w.from-sum.ensures);
          }
      | else-message-tag w ↦
          let same = taken_other tag ms k none within w.if-message-tag.false in
          record {
            count_is = w.count-is ∙ before.count_is ∙ ap length (sym same);
            few = omega (arith, w.count-is, before.few);
            sum_is = w.sum-is ∙ before.sum_is ∙ ap sum_of (sym same);
            small = subst (λ x. mag x ≤ 2 ^ 63 * (k + 1)) (sym w.sum-is) (let h = before.small in omega (arith, h));
          }
    ]

pub overflow_add-sum : goal.overflow_add-sum
overflow_add-sum c =
    let few : c.loop-message.message-index + 1 < 2 ^ 64 = omega arith in
    let fits : SFits w64 (get_or c.args.messages.now c.loop-message.message-index none).value = search rules in
    added_fits (to_z w128 c.loop-message.sum-bits) c.from-sum.result (get_or c.args.messages.now c.loop-message.message-index none).value
    c.loop-message.message-index c.loop-message.invariant.small few fits c.from-sum.ensures
