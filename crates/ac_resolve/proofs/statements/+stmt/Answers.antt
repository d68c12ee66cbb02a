use Rattle.std.proofs.Common.{◌≡◌, ◌+◌, ◌∷◌, drop, arith}
use Rattle.std.proofs.lemmas.Grind.{common_steps}
use Rattle.ac_resolve.specs.Commands.{body_told}
use Rattle.ac_resolve.proofs.Rooms.{if_room, next_room, for_room, rest_walk, rest_list, rest_room, rest_less}
use Rattle.std.proofs.lemmas.Result.{on_ok_weaker}
use Rattle.ac_resolve.proofs.Scoped.{scope_after, listed_after}
use Rattle.ac_resolve.proofs.statements.+stmt.Goals as goal

pub resolve_if-resolve_other-requires : goal.resolve_if-resolve_other-requires
resolve_if-resolve_other-requires t c = if_room c.args.body.now c.args.other.now c.args.depth t c.args.walk.now c.resolve_part.new.walk c.in_ok-body.ensures.walk c.decreases c.requires.slots
    c.requires.depths c.requires.texts

pub resolve_for-resolve_some-requires : goal.resolve_for-resolve_some-requires
resolve_for-resolve_some-requires t c =
    next_room c.args.init.now c.args.next.now c.args.body.now c.args.depth t c.args.walk.now c.resolve_init.new.walk c.open.new.self c.in_ok-resolve_init.ensures.walk c.decreases c.requires.slots
    c.requires.depths c.requires.texts

pub resolve_for-resolve_part-requires : goal.resolve_for-resolve_part-requires
resolve_for-resolve_part-requires t c =
    for_room c.args.init.now c.args.next.now c.args.body.now c.args.depth t c.args.walk.now c.resolve_init.new.walk c.open.new.self c.in_ok-resolve_init.ensures.walk c.decreases c.requires.slots
    c.requires.depths c.requires.texts
    c.resolve_some.new.walk c.in_ok-next.ensures.walk

pub resolve_scope-returns-clause-walk : goal.resolve_scope-returns-clause-walk
resolve_scope-returns-clause-walk t c =
    scope_after (body_told c.args.body.now) c.args.depth c.args.walk.now c.open.new.self c.in_ok-open.ensures.ok c.resolve_body.new.walk c.close.new.self c.in_ok-resolve_body.ensures.walk
    c.close.ensures

pub resolve_body-loop-stmt-preserved : goal.resolve_body-loop-stmt-preserved
resolve_body-loop-stmt-preserved t c =
    let is : drop c.loop-stmt.stmt-index c.args.body.now ≡ c.stmt-item.result ∷ drop (c.loop-stmt.stmt-index + 1) c.args.body.now = grind (arith, common_steps) in (
      rest_walk _ _ c.stmt-item.result c.args.depth c.loop-stmt.walk c.resolve_listed.new.walk is c.in_ok-resolve_listed.ensures.walk _ c.loop-stmt.invariant.0,
      rest_list _ _ c.stmt-item.result c.args.depth c.loop-stmt.walk c.resolve_listed.new.walk is c.in_ok-resolve_listed.ensures.walk c.loop-stmt.out c.resolve_listed.new.out _
          c.in_ok-resolve_listed.ensures.commands c.loop-stmt.invariant.1,
      rest_room _ _ c.stmt-item.result c.args.depth c.loop-stmt.walk c.resolve_listed.new.walk is c.in_ok-resolve_listed.ensures.walk c.loop-stmt.invariant.2.0 c.loop-stmt.invariant.2.1
          c.loop-stmt.invariant.2.2,
      rest_less _ _ c.stmt-item.result c.args.depth c.loop-stmt.walk c.resolve_listed.new.walk is c.in_ok-resolve_listed.ensures.walk _ c.loop-stmt.invariant.3,
    )

pub resolve_listed-returns-clause-walk : goal.resolve_listed-returns-clause-walk
resolve_listed-returns-clause-walk t c =
    on_ok_weaker c.declare.result
    (λ e. listed_after c.args.stmt.now c.args.depth c.args.walk.now c.resolve_stmt.new.walk c.declare.new.self c.in_ok-resolve_stmt.ensures.walk e)
    c.declare.ensures.ok
