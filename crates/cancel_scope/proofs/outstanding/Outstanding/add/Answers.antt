use Rattle.std.proofs.Common.{◌<◌, sym, subst, arith}
use Rattle.cancel_scope.specs.Roomy.{Roomy}
use Rattle.cancel_scope.proofs.Counted.{count_within}
use Rattle.cancel_scope.proofs.outstanding.Outstanding.add.Goals as goal

pub overflow_add-self : goal.overflow_add-self
overflow_add-self c =
    let within = count_within c.self.inside.operations.items in
    let same = c.self.invariant in
    let spare = subst (λ (r : Roomy). 0 < r.spare) (sym c.self.view_is) c.requires in
    let room = c.capacity-room.ensures in
    let most = c.capacity-room.type_inv in
    omega (arith, within, same, spare, room, most)
