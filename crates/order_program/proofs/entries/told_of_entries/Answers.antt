use Rattle.std.proofs.Common.{arith}
use Rattle.std.proofs.lemmas.Result.{IfOk-weaker}
use Rattle.order_program.specs.Asking.{no_one, no_other, stands}
use Rattle.order_program.proofs.entries.told_of_entries.Goals as goal

pub returns-then-one-len : goal.returns-then-one-len
returns-then-one-len c =
    IfOk-weaker c.say_place.result _ _ (λ told s. no_one s.status s.text_is (omega (arith, c.if-one-len.true, c.len.ensures))) c.say_place.ensures

pub returns-then-other-len : goal.returns-then-other-len
returns-then-other-len c =
    IfOk-weaker c.say_place-then-other-len.result _ _
    (λ told s. no_other s.status s.text_is (omega (arith, c.if-one-len.false, c.len.ensures)) (omega (arith, c.if-other-len.true, c.len-2.ensures))) c.say_place-then-other-len.ensures

pub returns : goal.returns
returns c =
    IfOk-weaker c.say.result _ _
    (λ told s. stands c.order.result s.status (rw (← c.order_line.ensures) s.text_is) (omega (arith, c.if-one-len.false, c.len.ensures))
    (omega (arith, c.if-other-len.false, c.len-2.ensures)) c.order.ensures) c.say.ensures
