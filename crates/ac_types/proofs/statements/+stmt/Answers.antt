use Rattle.std.proofs.Common.{arith}
use Rattle.std.proofs.lemmas.Grind.{common_steps}
use Rattle.std.proofs.lemmas.Result.{on_ok_weaker}
use Rattle.ac_types.specs.inner.Statements.{body_seen}
use Rattle.ac_types.proofs.Bodies.{scope_after, if_after, for_after, listed_after}
use Rattle.ac_types.proofs.Slots.{if_less, if_slots, if_depths, next_less, next_slots, next_depths, for_less, for_slots, for_depths, rest_room, rest_less}
use Rattle.ac_types.proofs.statements.+stmt.Goals as goal

pub see_body-loop-stmt-preserved : goal.see_body-loop-stmt-preserved
see_body-loop-stmt-preserved t c = (
  grind (arith, common_steps),
  rest_room c.args.tables.now c.args.around _ _ c.stmt-item.result c.loop-stmt.walk c.see_listed.new.walk
      (grind (arith, common_steps)) c.in_ok-see_listed.ensures c.loop-stmt.invariant.1.0 c.loop-stmt.invariant.1.1,
  rest_less _ _ c.stmt-item.result _ (grind (arith, common_steps)) c.loop-stmt.invariant.2,
)

pub see_stmt-see_some-requires : goal.see_stmt-see_some-requires
see_stmt-see_some-requires t c = (
  if_less c.args.tables.now c.args.around c.args.stmt.now c.in-If.at c.in-If.test c.in-If.body c.in-If.other t c.in-If.is c.decreases,
  (
    if_slots c.args.tables.now c.args.around c.args.stmt.now c.in-If.at c.in-If.test c.in-If.body c.in-If.other c.get.result.now c.args.walk.now c.see_test.new.walk c.see_stmt.new.walk c.in-If.is
        c.in_ok-see_test-in-If.ensures c.get.ensures c.in_ok-see_stmt-in-If.ensures c.requires.slots,
    if_depths c.args.tables.now c.args.around c.args.stmt.now c.in-If.at c.in-If.test c.in-If.body c.in-If.other c.in-If.is c.requires.depths,
  ),
)

pub see_stmt-see_some-requires-in-For : goal.see_stmt-see_some-requires-in-For
see_stmt-see_some-requires-in-For t c = (
  next_less c.args.tables.now c.args.around c.args.stmt.now c.in-For.at c.in-For.init c.in-For.test c.in-For.next c.in-For.body t c.in-For.is c.decreases,
  (
    next_slots c.args.tables.now c.args.around c.args.stmt.now c.in-For.at c.in-For.init c.in-For.test c.in-For.next c.in-For.body c.args.walk.now c.see_open.new.walk c.see_init.new.walk
        c.value.new.self c.in-For.is
        c.in_ok-see_open-in-For.ensures c.in_ok-see_init-in-For.ensures c.in_ok-value-in-For.ensures c.requires.slots,
    next_depths c.args.tables.now c.args.around c.args.stmt.now c.in-For.at c.in-For.init c.in-For.test c.in-For.next c.in-For.body c.in-For.is c.requires.depths,
  ),
)

pub see_stmt-see_stmt-requires-in-For : goal.see_stmt-see_stmt-requires-in-For
see_stmt-see_stmt-requires-in-For t c = (
  for_less c.args.tables.now c.args.around c.args.stmt.now c.in-For.at c.in-For.init c.in-For.test c.in-For.next c.in-For.body t c.get-in-For.result.now c.in-For.is c.get-in-For.ensures c.decreases,
  (
    for_slots c.args.tables.now c.args.around c.args.stmt.now c.in-For.at c.in-For.init c.in-For.test c.in-For.next c.in-For.body c.get-in-For.result.now c.args.walk.now c.see_open.new.walk
        c.see_init.new.walk c.value.new.self c.see_some-in-For.new.walk c.in-For.is
        c.in_ok-see_open-in-For.ensures c.in_ok-see_init-in-For.ensures c.in_ok-value-in-For.ensures c.in_ok-see_some-in-For.ensures c.get-in-For.ensures c.requires.slots,
    for_depths c.args.tables.now c.args.around c.args.stmt.now c.in-For.at c.in-For.init c.in-For.test c.in-For.next c.in-For.body c.in_loop-in-For.result c.get-in-For.result.now c.in-For.is
        c.in_loop-in-For.ensures c.get-in-For.ensures c.requires.depths,
  ),
)

pub see_scope-returns : goal.see_scope-returns
see_scope-returns t c =
    scope_after c.args.tables.now c.args.around (body_seen c.args.body.now) c.args.walk.now c.see_body.new.walk c.open.new.self c.close.new.self c.in_ok-open.ensures.ok c.in_ok-see_body.ensures
    c.close.ensures

pub see_stmt-returns-in_ok-see_stmt-in-If : goal.see_stmt-returns-in_ok-see_stmt-in-If
see_stmt-returns-in_ok-see_stmt-in-If t c =
    on_ok_weaker c.see_some.result
    (λ e.
    if_after c.args.tables.now c.args.around c.args.stmt.now c.in-If.at c.in-If.test c.in-If.body c.get.result.now c.in-If.other c.args.walk.now c.see_test.new.walk c.see_stmt.new.walk
    c.see_some.new.walk c.in-If.is
    c.in_ok-see_test-in-If.ensures c.get.ensures c.in_ok-see_stmt-in-If.ensures e)
    c.see_some.ensures

pub see_stmt-returns-in_ok-see_stmt-in-For : goal.see_stmt-returns-in_ok-see_stmt-in-For
see_stmt-returns-in_ok-see_stmt-in-For t c =
    for_after c.args.tables.now c.args.around c.in_loop-in-For.result c.args.stmt.now c.in-For.at c.in-For.init c.in-For.test c.in-For.next c.in-For.body c.get-in-For.result.now c.args.walk.now
    c.see_open.new.walk c.see_init.new.walk
    c.value.new.self c.see_some-in-For.new.walk c.see_stmt-in-For.new.walk c.close.new.self c.in-For.is c.in_ok-see_open-in-For.ensures c.in_ok-see_init-in-For.ensures c.in_ok-value-in-For.ensures
    c.in_ok-see_some-in-For.ensures
    c.in_loop-in-For.ensures c.get-in-For.ensures c.in_ok-see_stmt-in-For.ensures c.close.ensures

pub see_listed-returns : goal.see_listed-returns
see_listed-returns t c =
    on_ok_weaker c.declare.result
    (λ e. listed_after c.args.tables.now c.args.around c.args.stmt.now c.args.walk.now c.see_stmt.new.walk c.declare.new.self c.in_ok-see_stmt.ensures e)
    c.declare.ensures.ok
