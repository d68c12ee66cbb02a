use Rattle.std.proofs.Common.{◌+◌, ◌*◌, ◌^◌, ◌≤◌, ◌<◌, pos, get_or, length, ap, sym, ◌∙◌, subst, rules, arith, w64, to_z, SFits}
use Rattle.std.specs.Int.{w128}
use Rattle.std.specs.Prelude.{◌+ℤ◌}
use lib.Signed.{mag}
use Rattle.ac_choice.specs.declared.answers.Tagged.{Tagged}
use Rattle.merge_program.proofs.Sums.{sum_all, small_more, added_fits, added_is}
use Rattle.merge_program.proofs.texts.total.Goals as goal

abbrev none : Tagged
none = record { end = 0; value = pos 0 }

pub loop-message-preserved : goal.loop-message-preserved
loop-message-preserved c =
    let ms = c.args.messages.now in let k = c.loop-message.message-index in let before = c.loop-message.invariant in
    let within : k < length ms = c.loop-message-test.true in
    let few : k + 1 < 2 ^ 64 = omega arith in
    let sum = to_z w128 c.loop-message.sum-bits in let value = (get_or ms k none).value in
    let fits : SFits w64 (get_or c.args.messages.now c.loop-message.message-index none).value = search rules in
    let is = added_is sum c.from-sum.result value k before.small few fits c.from-sum.ensures in
    record {
      sum_is = is ∙ ap (λ x. x +ℤ value) before.sum_is ∙ sym (sum_all 0 ms k none within);
      small = subst (λ x. mag x ≤ 2 ^ 63 * (k + 1)) (sym is) (small_more sum c.from-sum.result value k before.small few fits c.from-sum.ensures);
    }

pub overflow_add-sum : goal.overflow_add-sum
overflow_add-sum c =
    let few : c.loop-message.message-index + 1 < 2 ^ 64 = omega arith in
    let fits : SFits w64 (get_or c.args.messages.now c.loop-message.message-index none).value = search rules in
    added_fits (to_z w128 c.loop-message.sum-bits) c.from-sum.result (get_or c.args.messages.now c.loop-message.message-index none).value
    c.loop-message.message-index c.loop-message.invariant.small few fits c.from-sum.ensures
