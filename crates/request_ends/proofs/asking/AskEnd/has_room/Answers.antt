use Rattle.std.proofs.Common.{◌≡◌, ◌-◌, ◌∙◌, length, nat_lt, arith, subst, sym, ap}
use Rattle.channel_ends.specs.Sending.{known_lead, has_room}
use Rattle.request_ends.specs.Asking.{Asking}
use Rattle.request_ends.proofs.Leading.{lead_within}
use Rattle.request_ends.proofs.asking.AskEnd.has_room.Goals as goal

pub overflow_sub-result : goal.overflow_sub-result
overflow_sub-result c =
    let l = lead_within c.self.inside.send.notes.offers in
    let a = c.offered.ensures in
    let b = c.known.ensures in
    omega arith

pub returns : goal.returns
returns c = subst (λ (a : Asking). nat_lt (c.offered.result - c.known.result) 16 ≡ has_room a.send.notes) c.self.view_is
    (ap (λ n. nat_lt (n - c.known.result) 16) c.offered.ensures
    ∙ ap (λ n. nat_lt (length c.self.inside.send.notes.offers - n) 16) c.known.ensures
    ∙ ap (λ n. nat_lt (length c.self.inside.send.notes.offers - known_lead c.self.inside.send.notes.offers) n) (sym c.self.invariant.size))
