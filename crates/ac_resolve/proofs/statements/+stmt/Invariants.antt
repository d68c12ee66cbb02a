use Rattle.std.proofs.Common.{◌≡◌, ◌++◌, ◌+◌, ◌*◌, ◌≤◌, drop}
use Rattle.ac_tree.specs.Weight.{stmt_weight, some_weight, body_weight}
use Rattle.ac_names.specs.Room.{HasSlots, HasDepths}
use Rattle.ac_resolve.specs.Commands.{body_told}
use Rattle.ac_resolve.specs.inner.Walks.{HasTexts, after_body, body_does}
use Rattle.ac_resolve.proofs.statements.+stmt.Given as goal

abbrev pub decreases-resolve_stmt : goal.decreases-resolve_stmt
decreases-resolve_stmt l = 8 * stmt_weight l.stmt.now

abbrev pub decreases-resolve_part : goal.decreases-resolve_part
decreases-resolve_part l = 8 * stmt_weight l.stmt.now + 1

abbrev pub decreases-resolve_listed : goal.decreases-resolve_listed
decreases-resolve_listed l = 8 * stmt_weight l.stmt.now + 1

abbrev pub decreases-resolve_some : goal.decreases-resolve_some
decreases-resolve_some l = 8 * some_weight l.stmt.now + 2

abbrev pub decreases-resolve_other : goal.decreases-resolve_other
decreases-resolve_other l = 8 * some_weight l.stmt.now + 2

abbrev pub decreases-resolve_init : goal.decreases-resolve_init
decreases-resolve_init l = 8 * some_weight l.stmt.now + 2

abbrev pub decreases-resolve_async : goal.decreases-resolve_async
decreases-resolve_async l = 8 * stmt_weight l.body.now + 2

abbrev pub decreases-resolve_while : goal.decreases-resolve_while
decreases-resolve_while l = 8 * stmt_weight l.body.now + 2

abbrev pub decreases-resolve_if : goal.decreases-resolve_if
decreases-resolve_if l = 8 * (stmt_weight l.body.now + some_weight l.other.now) + 3

abbrev pub decreases-resolve_for : goal.decreases-resolve_for
decreases-resolve_for l = 8 * (some_weight l.init.now + (some_weight l.next.now + stmt_weight l.body.now)) + 3

abbrev pub decreases-resolve_body : goal.decreases-resolve_body
decreases-resolve_body l = 8 * body_weight l.body.now + 2

abbrev pub decreases-resolve_scope : goal.decreases-resolve_scope
decreases-resolve_scope l = 8 * body_weight l.body.now + 3

abbrev pub decreases-resolve_do : goal.decreases-resolve_do
decreases-resolve_do l = 8 * body_weight l.body.now + 4

abbrev pub invariant-resolve_body-loop-stmt : goal.invariant-resolve_body-loop-stmt
invariant-resolve_body-loop-stmt l =
    (after_body (body_told (drop l.stmt-index l.body)) l.depth l.walk ≡ after_body (body_told l.body) l.depth l.fn.walk)
    × (l.out ++ body_does (body_told (drop l.stmt-index l.body)) l.depth l.walk ≡ l.fn.out ++ body_does (body_told l.body) l.depth l.fn.walk)
    × (HasSlots l.walk.names.slot (body_weight (drop l.stmt-index l.body))
    × HasDepths l.depth (body_weight (drop l.stmt-index l.body))
    × HasTexts l.walk.texts (body_weight (drop l.stmt-index l.body)))
    × (body_weight (drop l.stmt-index l.body) ≤ body_weight l.body)
