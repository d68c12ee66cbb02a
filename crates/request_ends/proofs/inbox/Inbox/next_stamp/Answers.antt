-- A look may show more replies on the ring.
use Rattle.std.proofs.Common.{refl, subst}
use Rattle.request_ends.specs.declared.inbox.Inbox.TheInside.{Inside}
use Rattle.request_ends.specs.inner.Coming.{Coming, LooksOnly, coming_of}
use Rattle.request_ends.proofs.InboxLists.{looks_so}
use Rattle.request_ends.proofs.inbox.Inbox.next_stamp.Goals as goal

pub returns-clause-looks : goal.returns-clause-looks
returns-clause-looks c =
    let old : Inside = record { ring = c.self.inside.ring; gathered = c.self.inside.gathered } in
    let new : Inside = record { ring = c.is_empty.new.self; gathered = c.self.inside.gathered } in
    subst (λ (v : Coming). LooksOnly v (coming_of new)) c.self.view_is (looks_so old new c.is_empty.ensures.looked refl)
