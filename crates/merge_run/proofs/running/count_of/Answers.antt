use Rattle.std.proofs.Common.{pos, arith, ap, ◌∙◌, length}
use Rattle.std.proofs.lemmas.List.{take_all}
use Rattle.ac_choice.specs.declared.answers.Tagged.{Tagged}
use Rattle.ac_choice.specs.Relaying.{of_end}
use Rattle.merge_run.proofs.Sublists.{count_it, count_other}
use Rattle.merge_run.proofs.running.count_of.Goals as goal
use Rattle.merge_run.proofs.running.count_of.Goals.{then-message-tag, else-message-tag}

abbrev none : Tagged
none = record { end = 0; value = pos 0 }

pub loop-message-preserved : goal.loop-message-preserved
loop-message-preserved c =
    let at = c.loop-message in let ms = c.args.messages.now in
    elim c.if-message-tag.branch [
      | then-message-tag w ↦
          let more = count_it c.args.tag ms at.message-index none c.loop-message-test.true w.if-message-tag.true in
          let was = at.invariant.count_is in let few = at.invariant.few in let now = w.count-is in
          record { count_is = omega (arith, more, was, now); few = omega (arith, few, now) }
      | else-message-tag w ↦
          let more = count_other c.args.tag ms at.message-index none c.loop-message-test.true w.if-message-tag.false in
          let was = at.invariant.count_is in let few = at.invariant.few in let now = w.count-is in
          record { count_is = omega (arith, more, was, now); few = omega (arith, few, now) }
    ]

pub returns : goal.returns
returns c = c.loop-message.invariant.count_is ∙ ap (λ ms. length (of_end c.args.tag ms)) (take_all c.loop-message.message-index c.args.messages.now c.loop-message-test.false)
