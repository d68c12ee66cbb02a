use Rattle.std.proofs.Common.{◌≡◌, ◌+◌, ◌*◌, ◌≤◌, drop}
use Rattle.ac_tree.specs.Weight.{stmt_weight, some_weight, body_weight}
use Rattle.ac_names.specs.Room.{HasSlots, HasDepths}
use Rattle.ac_types.specs.inner.Statements.{after_body, body_seen}
use Rattle.ac_types.proofs.statements.+stmt.Given as goal

abbrev pub decreases-see_stmt : goal.decreases-see_stmt
decreases-see_stmt l = 8 * stmt_weight l.stmt.now

abbrev pub decreases-see_listed : goal.decreases-see_listed
decreases-see_listed l = 8 * stmt_weight l.stmt.now + 1

abbrev pub decreases-see_async : goal.decreases-see_async
decreases-see_async l = 8 * stmt_weight l.body.now + 1

abbrev pub decreases-see_some : goal.decreases-see_some
decreases-see_some l = 8 * some_weight l.stmt.now + 1

abbrev pub decreases-see_init : goal.decreases-see_init
decreases-see_init l = 8 * some_weight l.stmt.now + 2

abbrev pub decreases-see_body : goal.decreases-see_body
decreases-see_body l = 8 * body_weight l.body.now + 2

abbrev pub decreases-see_scope : goal.decreases-see_scope
decreases-see_scope l = 8 * body_weight l.body.now + 3

abbrev pub decreases-see_block : goal.decreases-see_block
decreases-see_block l = 8 * body_weight l.body.now + 4

abbrev pub decreases-see_do : goal.decreases-see_do
decreases-see_do l = 8 * body_weight l.body.now + 4

abbrev pub invariant-see_body-loop-stmt : goal.invariant-see_body-loop-stmt
invariant-see_body-loop-stmt l =
    (after_body l.tables l.around (body_seen (drop l.stmt-index l.body)) l.walk ≡ after_body l.tables l.around (body_seen l.body) l.fn.walk)
    × (HasSlots l.walk.names.slot (body_weight (drop l.stmt-index l.body))
    × HasDepths l.around.depth (body_weight (drop l.stmt-index l.body)))
    × (body_weight (drop l.stmt-index l.body) ≤ body_weight l.body)
