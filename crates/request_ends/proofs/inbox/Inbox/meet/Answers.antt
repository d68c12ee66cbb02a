-- What has come is gathered: after a look all that was put on the ring, and then each place of it is free.
use Rattle.std.proofs.Common.{rules, ◌≡◌, [], ◌++◌, length, map, refl, sym, ap, ◌∙◌, subst, arith}
use Rattle.rtrb.specs.Ring.{sent, received, known_items, known_free, producer_capacity}
use Rattle.request_ends.specs.Replying.{response_of}
use Rattle.request_ends.specs.declared.inbox.Inbox.TheInside.{Inside}
use Rattle.request_ends.specs.inner.Coming.{Coming, coming_of, HasMet, IsComing, LooksOnly}
use Rattle.request_ends.proofs.InboxLists.{looks_so, meets, meets_then, all_come, as_long, no_more}
use Rattle.request_ends.proofs.inbox.Inbox.meet.Goals as goal

pub returns-in_err-gather-clause-all : goal.returns-in_err-gather-clause-all
returns-in_err-gather-clause-all c =
    let seen : Inside = record { ring = c.slots_beside.new.self; gathered = c.self.inside.gathered } in
    let looked : LooksOnly c.args.self.now (coming_of seen) =
    subst (λ (v : Coming). LooksOnly v (coming_of seen)) c.self.view_is (looks_so c.self.inside seen c.slots_beside.ensures.looked refl) in
    meets c.args.self.now (coming_of seen) c.gather.new.self looked c.gather.ensures.all

pub returns-clause-all : goal.returns-clause-all
returns-clause-all c =
    let seen : Inside = record { ring = c.slots_beside.new.self; gathered = c.self.inside.gathered } in
    let told : Inside = record { ring = c.slots_beside-2.new.consumer; gathered = c.self-2.inside.gathered } in
    let new : Inside = record { ring = c.slots_beside-3.new.self; gathered = c.self-2.inside.gathered } in
    let looked : LooksOnly c.args.self.now (coming_of seen) =
    subst (λ (v : Coming). LooksOnly v (coming_of seen)) c.self.view_is (looks_so c.self.inside seen c.slots_beside.ensures.looked refl) in
    let met : HasMet c.args.self.now (coming_of c.self-2.inside) = subst (λ (v : Coming). HasMet c.args.self.now v) (sym c.self-2.view_is)
    (meets c.args.self.now (coming_of seen) c.gather.new.self looked c.gather.ensures.all) in
    meets_then c.args.self.now (coming_of told) (coming_of new)
    (meets_then c.args.self.now (coming_of c.self-2.inside) (coming_of told) met (looks_so c.self-2.inside told c.slots_beside-2.ensures.consumer refl))
    (looks_so told new c.slots_beside-3.ensures.looked refl)

pub returns-clause-ok : goal.returns-clause-ok
returns-clause-ok c =
    let seen : Inside = record { ring = c.slots_beside.new.self; gathered = c.self.inside.gathered } in
    let told : Inside = record { ring = c.slots_beside-2.new.consumer; gathered = c.self-2.inside.gathered } in
    let new : Inside = record { ring = c.slots_beside-3.new.self; gathered = c.self-2.inside.gathered } in
    let is : IsComing seen = search rules in
    let none : c.gather.new.self.items ≡ [] = search rules in
    let put : sent c.slots_beside-3.new.producer ≡ sent c.slots_beside.new.producer = c.slots_beside-3.ensures.producer.1 ∙ c.slots_beside-2.ensures.looked.1 in
    let all : c.gather.new.self.had ++ c.gather.new.self.gathered ≡ map response_of (sent c.slots_beside.new.producer) =
    all_come seen c.gather.new.self (sent c.slots_beside.new.producer) is c.slots_beside.ensures.fifo c.gather.ensures.all none in
    let long : length (received c.self-2.inside.ring) ≡ length (sent c.slots_beside.new.producer) =
    as_long c.self-2.inside c.gather.new.self (sent c.slots_beside.new.producer) c.self-2.view_is c.self-2.invariant all in
    let taken : length (received c.slots_beside-2.new.consumer) ≡ length (sent c.slots_beside-2.new.self) =
    ap length c.slots_beside-2.ensures.consumer.1 ∙ long ∙ ap length (sym c.slots_beside-2.ensures.looked.1) in
    let last : length (received c.slots_beside-3.new.self) ≡ length (sent c.slots_beside-3.new.producer) =
    ap length (c.slots_beside-3.ensures.looked.1 ∙ c.slots_beside-2.ensures.consumer.1) ∙ long ∙ ap length (sym put) in
    let gone : known_items c.slots_beside-3.new.self ≡ [] =
    no_more (received c.slots_beside-3.new.self) (known_items c.slots_beside-3.new.self) (sent c.slots_beside-3.new.producer) c.slots_beside-3.ensures.fifo last in
    let cap : producer_capacity c.slots_beside-3.new.producer ≡ 16 =
    c.slots_beside-3.ensures.producer.0.1 ∙ c.slots_beside-2.ensures.looked.0.1 ∙ c.slots_beside.ensures.producer.0.1 ∙ c.end.invariant in
    let cap-2 : producer_capacity c.slots_beside-2.new.self ≡ 16 = c.slots_beside-2.ensures.looked.0.1 ∙ c.slots_beside.ensures.producer.0.1 ∙ c.end.invariant in
    let counts = c.slots_beside-3.new.producer.counts in
    let free : known_free c.slots_beside-3.new.producer ≡ 16 =
    omega (arith, cap, cap-2, counts, taken, c.slots_beside-2.ensures.all_free, c.slots_beside-2.ensures.value, c.slots_beside-3.ensures.producer.2) in
    let had : (coming_of new).had ≡ c.gather.new.self.had = (looks_so told new c.slots_beside-3.ensures.looked refl).had
    ∙ (looks_so c.self-2.inside told c.slots_beside-2.ensures.consumer refl).had ∙ ap (λ (v : Coming). v.had) c.self-2.view_is in (
      ap (map response_of) gone,
      free,
      ap (λ h. h ++ map response_of c.self-2.inside.gathered.items) had ∙ ap (λ g. c.gather.new.self.had ++ g) (ap (λ (v : Coming). v.gathered) c.self-2.view_is) ∙ all
          ∙ ap (map response_of) (sym put),
    )
