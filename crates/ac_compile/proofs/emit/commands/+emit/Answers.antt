use Rattle.std.proofs.Common.{ℕ, ◌+◌, length, Some, refl, sym, ap, ◌∙◌, arith}
use Rattle.stack_code.specs.declared.instr.Instr.TheVariants as i
use Rattle.ac_translation.specs.Pieces.{no_code, one, ◌⨾◌}
use Rattle.ac_translation.specs.Translation.{at_loop, at_next, command_code, body_code}
use Rattle.ac_translation.proofs.Sized.{no_sized, one_sized, both_sized, command_sized, body_sized}
use Rattle.ac_compile.proofs.Emissions.{done, turn, rest_room, sizes, grown_to, same_length, outs_length, none_is}
use Rattle.ac_compile.proofs.CommandForms.{if_fits, while_fits}
use Rattle.ac_compile.proofs.StepForms.{test_length, jump_place, then_emitted, else_emitted, do_emitted, async_emitted, tested, inside_emitted, inside_pasts, inside_turns}
use Rattle.ac_compile.proofs.Loops.{inside_length, below_at, open_length, jump_before, with_test_length, loop_emitted}
use Rattle.ac_compile.proofs.Filling.{body_filled}
use Rattle.ac_compile.proofs.emit.commands.+emit.Goals as goal

-- ---- bodies

pub emit_body-loop-command-preserved : goal.emit_body-loop-command-preserved
emit_body-loop-command-preserved t c =
    let old = c.loop-command.emitter in
    let new = c.emit_command.new.emitter in
    let x = c.command-item.result in
    record {
      code = turn body_code command_code (λ x xs. refl) refl command_sized c.args.body.now c.loop-command.command-index x old c.loop-command-test.true c.command-item.is new _
          c.in_ok-emit_command.ensures c.loop-command.invariant.code;
      room = rest_room body_code command_code (λ x xs. refl) refl command_sized c.args.body.now c.loop-command.command-index x old c.loop-command-test.true c.command-item.is new
          c.in_ok-emit_command.ensures c.loop-command.invariant.room;
      rest =
          let m = sizes body_code command_code (λ x xs. refl) refl command_sized c.args.body.now c.loop-command.command-index x old c.loop-command-test.true c.command-item.is in
          omega (arith, m, c.loop-command.invariant.rest);
    }

pub emit_body-emit_command-requires : goal.emit_body-emit_command-requires
emit_body-emit_command-requires t c =
    let m = sizes body_code command_code (λ x xs. refl) refl command_sized c.args.body.now c.loop-command.command-index c.command-item.result c.loop-command.emitter c.loop-command-test.true
    c.command-item.is in
    (omega (arith, m, c.decreases, c.loop-command.invariant.rest), omega (arith, m, c.loop-command.invariant.room))

pub emit_body-returns : goal.emit_body-returns
emit_body-returns t c = done body_code command_code (λ x xs. refl) refl command_sized c.args.body.now c.loop-command.command-index c.loop-command.emitter _ c.loop-command-test.false
    c.loop-command.invariant.code

-- ---- statements

pub emit_command-emit_if-requires : goal.emit_command-emit_if-requires
emit_command-emit_if-requires t c =
    if_fits c.args.command.now c.args.emitter.now t c.decreases c.requires c.in-If.test c.in-If.body c.as_slice.result.now c.in-If.other c.in-If.is c.as_slice.ensures

pub emit_command-emit_while-requires : goal.emit_command-emit_while-requires
emit_command-emit_while-requires t c =
    while_fits c.args.command.now c.args.emitter.now t c.decreases c.requires c.in-While.test c.in-While.body c.as_slice-in-While.result.now c.in-While.is c.as_slice-in-While.ensures

-- ---- `if`

pub emit_then-emit_body-requires : goal.emit_then-emit_body-requires
emit_then-emit_body-requires t c =
    let n = test_length c.args.test.now c.args.emitter.now c.emit_test.new.emitter c.in_ok-jump.ensures.code in
    (omega (arith, c.decreases), omega (arith, n, c.requires))

pub emit_then-len-to-requires : goal.emit_then-len-to-requires
emit_then-len-to-requires t c =
    let n = test_length c.args.test.now c.args.emitter.now c.emit_test.new.emitter c.in_ok-jump.ensures.code in
    let m = grown_to (body_code c.args.body.now) c.emit_test.new.emitter c.emit_body.new.emitter (body_sized c.args.body.now) c.in_ok-emit_body.ensures in
    omega (arith, n, m, c.requires)

pub emit_then-set-requires : goal.emit_then-set-requires
emit_then-set-requires t c =
    let j = jump_place c.args.test.now c.args.emitter.now c.in_ok-jump.jump c.in_ok-jump.ensures.jump in
    let n = test_length c.args.test.now c.args.emitter.now c.emit_test.new.emitter c.in_ok-jump.ensures.code in
    let m = grown_to (body_code c.args.body.now) c.emit_test.new.emitter c.emit_body.new.emitter (body_sized c.args.body.now) c.in_ok-emit_body.ensures in
    omega (arith, j, n, m)

pub emit_then-returns : goal.emit_then-returns
emit_then-returns t c =
    then_emitted c.args.test.now (body_code c.args.body.now) (body_sized c.args.body.now) c.args.emitter.now c.emit_test.new.emitter c.in_ok-jump.jump c.in_ok-jump.ensures.code
    c.in_ok-jump.ensures.jump c.emit_body.new.emitter
    c.set.new.self c.len-to.result c.in_ok-emit_body.ensures c.len-to.ensures c.set.ensures

-- ---- `if` with `else`

pub emit_else-emit_body-requires : goal.emit_else-emit_body-requires
emit_else-emit_body-requires t c =
    let n = test_length c.args.test.now c.args.emitter.now c.emit_test.new.emitter c.in_ok-jump.ensures.code in
    (omega (arith, c.decreases), omega (arith, n, c.requires))

pub emit_else-jump-requires : goal.emit_else-jump-requires
emit_else-jump-requires t c =
    let n = test_length c.args.test.now c.args.emitter.now c.emit_test.new.emitter c.in_ok-jump.ensures.code in
    let m = grown_to (body_code c.args.body.now) c.emit_test.new.emitter c.emit_body.new.emitter (body_sized c.args.body.now) c.in_ok-emit_body.ensures in
    omega (arith, n, m, c.requires)

pub emit_else-len-to-requires : goal.emit_else-len-to-requires
emit_else-len-to-requires t c =
    let n = test_length c.args.test.now c.args.emitter.now c.emit_test.new.emitter c.in_ok-jump.ensures.code in
    let m = grown_to (body_code c.args.body.now) c.emit_test.new.emitter c.emit_body.new.emitter (body_sized c.args.body.now) c.in_ok-emit_body.ensures in
    let k = grown_to (one (i.Jump 0)) c.emit_body.new.emitter c.jump.new.self (one_sized (i.Jump 0)) c.in_ok-end.ensures.code in
    omega (arith, n, m, k, c.requires)

pub emit_else-set-requires : goal.emit_else-set-requires
emit_else-set-requires t c =
    let j = jump_place c.args.test.now c.args.emitter.now c.in_ok-jump.jump c.in_ok-jump.ensures.jump in
    let n = test_length c.args.test.now c.args.emitter.now c.emit_test.new.emitter c.in_ok-jump.ensures.code in
    let m = grown_to (body_code c.args.body.now) c.emit_test.new.emitter c.emit_body.new.emitter (body_sized c.args.body.now) c.in_ok-emit_body.ensures in
    let k = grown_to (one (i.Jump 0)) c.emit_body.new.emitter c.jump.new.self (one_sized (i.Jump 0)) c.in_ok-end.ensures.code in
    omega (arith, j, n, m, k)

pub emit_else-emit_body-requires-2 : goal.emit_else-emit_body-requires-2
emit_else-emit_body-requires-2 t c =
    let n = test_length c.args.test.now c.args.emitter.now c.emit_test.new.emitter c.in_ok-jump.ensures.code in
    let m = grown_to (body_code c.args.body.now) c.emit_test.new.emitter c.emit_body.new.emitter (body_sized c.args.body.now) c.in_ok-emit_body.ensures in
    let k = grown_to (one (i.Jump 0)) c.emit_body.new.emitter c.jump.new.self (one_sized (i.Jump 0)) c.in_ok-end.ensures.code in
    let l = same_length c.in_ok-jump.jump (i.Jz c.len-to.result) c.jump.new.self c.set.new.self c.set.ensures in
    (omega (arith, c.decreases), omega (arith, n, m, k, l, c.requires))

pub emit_else-len-past-requires : goal.emit_else-len-past-requires
emit_else-len-past-requires t c =
    let n = test_length c.args.test.now c.args.emitter.now c.emit_test.new.emitter c.in_ok-jump.ensures.code in
    let m = grown_to (body_code c.args.body.now) c.emit_test.new.emitter c.emit_body.new.emitter (body_sized c.args.body.now) c.in_ok-emit_body.ensures in
    let k = grown_to (one (i.Jump 0)) c.emit_body.new.emitter c.jump.new.self (one_sized (i.Jump 0)) c.in_ok-end.ensures.code in
    let l = same_length c.in_ok-jump.jump (i.Jz c.len-to.result) c.jump.new.self c.set.new.self c.set.ensures in
    let o = grown_to (body_code c.args.other.now) c.set.new.self c.emit_body-2.new.emitter (body_sized c.args.other.now) c.in_ok-emit_body-2.ensures in
    omega (arith, n, m, k, l, o, c.requires)

pub emit_else-set-requires-2 : goal.emit_else-set-requires-2
emit_else-set-requires-2 t c =
    let k = grown_to (one (i.Jump 0)) c.emit_body.new.emitter c.jump.new.self (one_sized (i.Jump 0)) c.in_ok-end.ensures.code in
    let l = same_length c.in_ok-jump.jump (i.Jz c.len-to.result) c.jump.new.self c.set.new.self c.set.ensures in
    let o = grown_to (body_code c.args.other.now) c.set.new.self c.emit_body-2.new.emitter (body_sized c.args.other.now) c.in_ok-emit_body-2.ensures in
    omega (arith, k, l, o, c.in_ok-end.ensures.at)

pub emit_else-returns : goal.emit_else-returns
emit_else-returns t c =
    else_emitted c.args.test.now (body_code c.args.body.now) (body_sized c.args.body.now) c.args.emitter.now c.emit_test.new.emitter c.in_ok-jump.jump c.in_ok-jump.ensures.code
    c.in_ok-jump.ensures.jump
    (body_code c.args.other.now) (body_sized c.args.other.now) c.emit_body.new.emitter c.jump.new.self c.set.new.self c.emit_body-2.new.emitter c.set-2.new.self c.in_ok-end.end c.len-to.result
    c.len-past.result
    c.in_ok-emit_body.ensures c.in_ok-end.ensures.at c.in_ok-end.ensures.code c.len-to.ensures c.set.ensures c.in_ok-emit_body-2.ensures c.len-past.ensures c.set-2.ensures

-- ---- `do` and `async`

pub emit_do-emit_body-requires : goal.emit_do-emit_body-requires
emit_do-emit_body-requires t c =
    let n = grown_to (one i.Step ⨾ one (i.Enter c.args.slot)) c.args.emitter.now c.emit_stepped.new.emitter
    (both_sized (one i.Step) (one (i.Enter c.args.slot)) (one_sized i.Step) (one_sized (i.Enter c.args.slot))) c.in_ok-emit_stepped.ensures in
    (omega (arith, c.decreases), omega (arith, n, c.requires))

pub emit_do-returns : goal.emit_do-returns
emit_do-returns t c =
    do_emitted (body_code c.args.body.now) (body_sized c.args.body.now) c.args.slot c.args.emitter.now c.emit_stepped.new.emitter c.emit_body.new.emitter c.emit_stepped-2.new.emitter
    c.in_ok-emit_stepped.ensures c.in_ok-emit_body.ensures
    c.in_ok-emit_stepped-2.ensures

pub emit_async-jump-requires : goal.emit_async-jump-requires
emit_async-jump-requires t c =
    let n = grown_to (one i.Step) c.args.emitter.now c.put.new.self (one_sized i.Step) c.in_ok-put.ensures in
    omega (arith, n, c.requires)

pub emit_async-emit_body-requires : goal.emit_async-emit_body-requires
emit_async-emit_body-requires t c =
    let n = grown_to (one i.Step) c.args.emitter.now c.put.new.self (one_sized i.Step) c.in_ok-put.ensures in
    let m = grown_to (one (i.Async c.args.slots 0)) c.put.new.self c.jump.new.self (one_sized (i.Async c.args.slots 0)) c.in_ok-jump.ensures.code in
    (omega (arith, c.decreases), omega (arith, n, m, c.requires))

pub emit_async-len-to-requires : goal.emit_async-len-to-requires
emit_async-len-to-requires t c =
    let n = grown_to (one i.Step) c.args.emitter.now c.put.new.self (one_sized i.Step) c.in_ok-put.ensures in
    let m = grown_to (one (i.Async c.args.slots 0)) c.put.new.self c.jump.new.self (one_sized (i.Async c.args.slots 0)) c.in_ok-jump.ensures.code in
    let k = grown_to (body_code c.args.body.now) c.jump.new.self c.emit_body.new.emitter (body_sized c.args.body.now) c.in_ok-emit_body.ensures in
    let l = grown_to (one i.End) c.emit_body.new.emitter c.put-2.new.self (one_sized i.End) c.in_ok-put-2.ensures in
    omega (arith, n, m, k, l, c.requires)

pub emit_async-set-requires : goal.emit_async-set-requires
emit_async-set-requires t c =
    let m = grown_to (one (i.Async c.args.slots 0)) c.put.new.self c.jump.new.self (one_sized (i.Async c.args.slots 0)) c.in_ok-jump.ensures.code in
    let k = grown_to (body_code c.args.body.now) c.jump.new.self c.emit_body.new.emitter (body_sized c.args.body.now) c.in_ok-emit_body.ensures in
    let l = grown_to (one i.End) c.emit_body.new.emitter c.put-2.new.self (one_sized i.End) c.in_ok-put-2.ensures in
    omega (arith, m, k, l, c.in_ok-jump.ensures.at)

pub emit_async-returns : goal.emit_async-returns
emit_async-returns t c =
    async_emitted (body_code c.args.body.now) (body_sized c.args.body.now) c.args.slots c.args.emitter.now c.put.new.self c.jump.new.self c.emit_body.new.emitter c.put-2.new.self c.set.new.self
    c.in_ok-jump.jump c.len-to.result
    c.in_ok-put.ensures c.in_ok-jump.ensures.at c.in_ok-jump.ensures.code c.in_ok-emit_body.ensures c.in_ok-put-2.ensures c.len-to.ensures c.set.ensures

-- ---- the body of a loop

pub emit_inside-emit_body-requires : goal.emit_inside-emit_body-requires
emit_inside-emit_body-requires t c =
    let n = outs_length c.new.result.pasts.items c.new.result.turns.items c.args.emitter.now c.exchange-outer.new.self c.exchange-outer.ensures.after in
    (omega (arith, c.decreases), omega (arith, n, c.requires))

pub emit_inside-returns-clause-code : goal.emit_inside-returns-clause-code
emit_inside-returns-clause-code t c =
    inside_emitted (body_code c.args.body.now) c.new.result.pasts.items c.new.result.turns.items c.args.emitter.now c.exchange-outer.new.self c.emit_body.new.emitter c.new.ensures.pasts
    c.new.ensures.turns c.exchange-outer.ensures.after
    c.in_ok-emit_body.ensures c.exchange-outer.result.pasts.items c.exchange-outer.result.turns.items c.exchange.new.self c.exchange-outer.ensures.pasts c.exchange-outer.ensures.turns
    c.exchange.ensures.after

pub emit_inside-returns-clause-pasts : goal.emit_inside-returns-clause-pasts
emit_inside-returns-clause-pasts t c =
    c.exchange.ensures.pasts
    ∙ inside_pasts (body_code c.args.body.now) c.new.result.pasts.items c.new.result.turns.items c.args.emitter.now c.exchange-outer.new.self c.emit_body.new.emitter c.new.ensures.pasts
    c.new.ensures.turns c.exchange-outer.ensures.after
    c.in_ok-emit_body.ensures

pub emit_inside-returns-clause-turns : goal.emit_inside-returns-clause-turns
emit_inside-returns-clause-turns t c =
    c.exchange.ensures.turns
    ∙ inside_turns (body_code c.args.body.now) c.new.result.pasts.items c.new.result.turns.items c.args.emitter.now c.exchange-outer.new.self c.emit_body.new.emitter c.new.ensures.pasts
    c.new.ensures.turns c.exchange-outer.ensures.after
    c.in_ok-emit_body.ensures

-- ---- `while`

pub emit_while-emit_inside-requires : goal.emit_while-emit_inside-requires
emit_while-emit_inside-requires t c =
    let n = test_length c.args.test.now c.args.emitter.now c.emit_test.new.emitter c.in_ok-jump.ensures.code in
    (omega (arith, c.decreases), omega (arith, n, c.requires))

pub emit_while-len-past-requires : goal.emit_while-len-past-requires
emit_while-len-past-requires t c =
    let n = test_length c.args.test.now c.args.emitter.now c.emit_test.new.emitter c.in_ok-jump.ensures.code in
    let m = inside_length (body_code c.args.body.now) c.emit_test.new.emitter c.emit_inside.new.emitter (body_sized c.args.body.now) c.in_ok-outs.ensures.code in
    let k = grown_to (one (i.Jump c.len-place.result)) c.emit_inside.new.emitter c.put.new.self (one_sized (i.Jump c.len-place.result)) c.in_ok-put.ensures in
    omega (arith, n, m, k, c.requires)

pub emit_while-set-requires : goal.emit_while-set-requires
emit_while-set-requires t c =
    let j = jump_place c.args.test.now c.args.emitter.now c.in_ok-jump.jump c.in_ok-jump.ensures.jump in
    let n = test_length c.args.test.now c.args.emitter.now c.emit_test.new.emitter c.in_ok-jump.ensures.code in
    let m = inside_length (body_code c.args.body.now) c.emit_test.new.emitter c.emit_inside.new.emitter (body_sized c.args.body.now) c.in_ok-outs.ensures.code in
    let k = grown_to (one (i.Jump c.len-place.result)) c.emit_inside.new.emitter c.put.new.self (one_sized (i.Jump c.len-place.result)) c.in_ok-put.ensures in
    omega (arith, j, n, m, k)

pub emit_while-fill_outs-requires-clause-pasts : goal.emit_while-fill_outs-requires-clause-pasts
emit_while-fill_outs-requires-clause-pasts t c =
    let place = length c.emit_test.new.emitter.instrs in
    let m = inside_length (body_code c.args.body.now) c.emit_test.new.emitter c.emit_inside.new.emitter (body_sized c.args.body.now) c.in_ok-outs.ensures.code in
    let k = grown_to (one (i.Jump c.len-place.result)) c.emit_inside.new.emitter c.put.new.self (one_sized (i.Jump c.len-place.result)) c.in_ok-put.ensures in
    let l = same_length c.in_ok-jump.jump (i.Jz c.len-past.result) c.put.new.self c.set.new.self c.set.ensures in
    below_at c.in_ok-outs.outs.pasts.items _ (place + (body_code c.args.body.now).size) _ c.in_ok-outs.ensures.pasts ((body_filled c.args.body.now).pasts_below place) (omega (arith, m, k, l))

pub emit_while-fill_outs-requires-clause-turns : goal.emit_while-fill_outs-requires-clause-turns
emit_while-fill_outs-requires-clause-turns t c =
    let place = length c.emit_test.new.emitter.instrs in
    let m = inside_length (body_code c.args.body.now) c.emit_test.new.emitter c.emit_inside.new.emitter (body_sized c.args.body.now) c.in_ok-outs.ensures.code in
    let k = grown_to (one (i.Jump c.len-place.result)) c.emit_inside.new.emitter c.put.new.self (one_sized (i.Jump c.len-place.result)) c.in_ok-put.ensures in
    let l = same_length c.in_ok-jump.jump (i.Jz c.len-past.result) c.put.new.self c.set.new.self c.set.ensures in
    below_at c.in_ok-outs.outs.turns.items _ (place + (body_code c.args.body.now).size) _ c.in_ok-outs.ensures.turns ((body_filled c.args.body.now).turns_below place) (omega (arith, m, k, l))

pub emit_while-returns : goal.emit_while-returns
emit_while-returns t c =
    let d2 = c.emit_inside.new.emitter in
    let test = c.args.test.now in
    loop_emitted at_loop (body_code c.args.body.now) no_code (body_filled c.args.body.now) no_sized c.args.emitter.now
    (Some test) c.emit_test.new.emitter d2 d2 c.put.new.self c.set.new.self c.fill_outs.new.self (Some c.in_ok-jump.jump)
    c.len-place.result c.len-past.result c.len-place.result c.in_ok-outs.outs.pasts.items c.in_ok-outs.outs.turns.items
    (tested (Some test) test c.args.emitter.now c.emit_test.new.emitter refl c.in_ok-jump.ensures.code)
    (ap (λ (n : ℕ). Some n) c.in_ok-jump.ensures.jump) c.in_ok-outs.ensures.code c.in_ok-outs.ensures.pasts c.in_ok-outs.ensures.turns
    (sym (none_is d2)) c.in_ok-put.ensures c.len-place.ensures c.len-past.ensures c.set.ensures refl
    c.fill_outs.ensures

-- ---- `for`

pub emit_for-emit_inside-requires : goal.emit_for-emit_inside-requires
emit_for-emit_inside-requires t c =
    let count = (body_code c.args.body.now).size + ((body_code c.args.next.now).size + 1) in
    let n = open_length c.args.test.now count c.args.emitter.now c.emit_open_test.new.emitter c.in_ok-jump.ensures.code in
    (omega (arith, c.decreases), omega (arith, n, c.requires))

pub emit_for-len-turn-requires : goal.emit_for-len-turn-requires
emit_for-len-turn-requires t c =
    let count = (body_code c.args.body.now).size + ((body_code c.args.next.now).size + 1) in
    let n = open_length c.args.test.now count c.args.emitter.now c.emit_open_test.new.emitter c.in_ok-jump.ensures.code in
    let m = inside_length (body_code c.args.body.now) c.emit_open_test.new.emitter c.emit_inside.new.emitter (body_sized c.args.body.now) c.in_ok-outs.ensures.code in
    omega (arith, n, m, c.requires)

pub emit_for-emit_body-requires : goal.emit_for-emit_body-requires
emit_for-emit_body-requires t c =
    let count = (body_code c.args.body.now).size + ((body_code c.args.next.now).size + 1) in
    let n = open_length c.args.test.now count c.args.emitter.now c.emit_open_test.new.emitter c.in_ok-jump.ensures.code in
    let m = inside_length (body_code c.args.body.now) c.emit_open_test.new.emitter c.emit_inside.new.emitter (body_sized c.args.body.now) c.in_ok-outs.ensures.code in
    (omega (arith, c.decreases), omega (arith, n, m, c.requires))

pub emit_for-len-past-requires : goal.emit_for-len-past-requires
emit_for-len-past-requires t c =
    let count = (body_code c.args.body.now).size + ((body_code c.args.next.now).size + 1) in
    let n = open_length c.args.test.now count c.args.emitter.now c.emit_open_test.new.emitter c.in_ok-jump.ensures.code in
    let m = inside_length (body_code c.args.body.now) c.emit_open_test.new.emitter c.emit_inside.new.emitter (body_sized c.args.body.now) c.in_ok-outs.ensures.code in
    let o = grown_to (body_code c.args.next.now) c.emit_inside.new.emitter c.emit_body.new.emitter (body_sized c.args.next.now) c.in_ok-emit_body.ensures in
    let k = grown_to (one (i.Jump c.len-place.result)) c.emit_body.new.emitter c.put.new.self (one_sized (i.Jump c.len-place.result)) c.in_ok-put.ensures in
    omega (arith, n, m, o, k, c.requires)

pub emit_for-set_test-requires : goal.emit_for-set_test-requires
emit_for-set_test-requires t c =
    let m = inside_length (body_code c.args.body.now) c.emit_open_test.new.emitter c.emit_inside.new.emitter (body_sized c.args.body.now) c.in_ok-outs.ensures.code in
    let o = grown_to (body_code c.args.next.now) c.emit_inside.new.emitter c.emit_body.new.emitter (body_sized c.args.next.now) c.in_ok-emit_body.ensures in
    let k = grown_to (one (i.Jump c.len-place.result)) c.emit_body.new.emitter c.put.new.self (one_sized (i.Jump c.len-place.result)) c.in_ok-put.ensures in
    jump_before c.args.test.now c.args.emitter.now c.emit_open_test.new.emitter c.in_ok-jump.jump _ c.in_ok-jump.ensures.code c.in_ok-jump.ensures.jump (omega (arith, m, o, k))

pub emit_for-fill_outs-requires-clause-pasts : goal.emit_for-fill_outs-requires-clause-pasts
emit_for-fill_outs-requires-clause-pasts t c =
    let place = length c.emit_open_test.new.emitter.instrs in
    let m = inside_length (body_code c.args.body.now) c.emit_open_test.new.emitter c.emit_inside.new.emitter (body_sized c.args.body.now) c.in_ok-outs.ensures.code in
    let o = grown_to (body_code c.args.next.now) c.emit_inside.new.emitter c.emit_body.new.emitter (body_sized c.args.next.now) c.in_ok-emit_body.ensures in
    let k = grown_to (one (i.Jump c.len-place.result)) c.emit_body.new.emitter c.put.new.self (one_sized (i.Jump c.len-place.result)) c.in_ok-put.ensures in
    let l = with_test_length c.in_ok-jump.jump c.len-past.result c.put.new.self c.set_test.new.emitter c.set_test.ensures in
    below_at c.in_ok-outs.outs.pasts.items _ (place + (body_code c.args.body.now).size) _ c.in_ok-outs.ensures.pasts ((body_filled c.args.body.now).pasts_below place) (omega (arith, m, o, k, l))

pub emit_for-fill_outs-requires-clause-turns : goal.emit_for-fill_outs-requires-clause-turns
emit_for-fill_outs-requires-clause-turns t c =
    let place = length c.emit_open_test.new.emitter.instrs in
    let m = inside_length (body_code c.args.body.now) c.emit_open_test.new.emitter c.emit_inside.new.emitter (body_sized c.args.body.now) c.in_ok-outs.ensures.code in
    let o = grown_to (body_code c.args.next.now) c.emit_inside.new.emitter c.emit_body.new.emitter (body_sized c.args.next.now) c.in_ok-emit_body.ensures in
    let k = grown_to (one (i.Jump c.len-place.result)) c.emit_body.new.emitter c.put.new.self (one_sized (i.Jump c.len-place.result)) c.in_ok-put.ensures in
    let l = with_test_length c.in_ok-jump.jump c.len-past.result c.put.new.self c.set_test.new.emitter c.set_test.ensures in
    below_at c.in_ok-outs.outs.turns.items _ (place + (body_code c.args.body.now).size) _ c.in_ok-outs.ensures.turns ((body_filled c.args.body.now).turns_below place) (omega (arith, m, o, k, l))

pub emit_for-returns : goal.emit_for-returns
emit_for-returns t c =
    loop_emitted at_next (body_code c.args.body.now) (body_code c.args.next.now) (body_filled c.args.body.now)
    (body_sized c.args.next.now) c.args.emitter.now c.args.test.now c.emit_open_test.new.emitter c.emit_inside.new.emitter
    c.emit_body.new.emitter c.put.new.self c.set_test.new.emitter c.fill_outs.new.self c.in_ok-jump.jump c.len-place.result c.len-past.result c.len-turn.result c.in_ok-outs.outs.pasts.items
    c.in_ok-outs.outs.turns.items
    c.in_ok-jump.ensures.code c.in_ok-jump.ensures.jump c.in_ok-outs.ensures.code c.in_ok-outs.ensures.pasts c.in_ok-outs.ensures.turns c.in_ok-emit_body.ensures c.in_ok-put.ensures
    c.len-place.ensures c.len-past.ensures
    c.set_test.ensures c.len-turn.ensures c.fill_outs.ensures
