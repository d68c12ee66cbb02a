-- The reply that comes next is the first that was gathered, or else the first on the ring.
use Rattle.std.proofs.Common.{rules, ◌≡◌, [], refl, sym, subst}
use Rattle.request_ends.specs.declared.inbox.Inbox.TheInside.{Inside}
use Rattle.request_ends.specs.Replying.{response_of}
use Rattle.request_ends.specs.inner.Coming.{Coming, PopsNext, coming_of, MayPop}
use Rattle.request_ends.proofs.InboxLists.{front_keeps, pops_front, only_known}
use Rattle.request_ends.proofs.inbox.Inbox.pop.Goals as goal

pub invariant_of-self : goal.invariant_of-self
invariant_of-self c =
    let new : Inside = record { ring = c.self.inside.ring; gathered = c.pop_front.new.self } in
    front_keeps c.self.inside new c.in-Some.reply refl (search rules) c.self.invariant

pub pop_known-requires : goal.pop_known-requires
pop_known-requires c =
    let none : c.self.inside.gathered.items ≡ [] = search rules in
    only_known c.self.inside none (subst MayPop (sym c.self.view_is) c.requires)

pub returns-in-Some : goal.returns-in-Some
returns-in-Some c =
    let new : Inside = record { ring = c.self.inside.ring; gathered = c.pop_front.new.self } in
    subst (λ (v : Coming). PopsNext v (response_of c.in-Some.reply) (coming_of new)) c.self.view_is
    (pops_front c.self.inside new c.in-Some.reply refl (search rules) c.self.invariant)
