-- What the consumer has received, once all links are settled, is of each producer some of what that sends, in order: it was taken out of what the
-- relay has offered, and that is what the relay has taken out of what the producer has offered. Where there are as many, it is all of it.
use Rattle.std.proofs.Common.{◌≡◌, ℕ, ℤ, suc, ◌<◌, ◌≤◌, List, [], ◌∷◌, ◌++◌, Option, Some, None, true, false, cond, length, refl, sym, ap, ◌∙◌, subst, arith, ⊎_elim}
use Rattle.std.specs.Prelude.{slice_get, nat_lt}
use Rattle.std.proofs.lemmas.List.{length-append}
use Rattle.std.proofs.lemmas.Bool.{cases_lt}
use Rattle.std.proofs.lemmas.Bool.Decides.{nat_tests}
use Rattle.std.proofs.lemmas.Option.{slice_get_past}
use Rattle.channel_ends.specs.Receiving.{Receiving}
use Rattle.settled_rounds.specs.declared.party.Way.{Way}
use Rattle.settled_rounds.specs.Linked.{Pointwise, OnLinks}
use Rattle.ac_choice.specs.declared.answers.Tagged.{Tagged}
use Rattle.ac_choice.specs.Relaying.{Relaying, of_end, taken_by, taken_of, taken_at, held_list, carried, Carries}
use Rattle.ac_choice.specs.Steps.{IsSameRelay}
use Rattle.merge_run.specs.declared.producer.Producer.{Producer}
use Rattle.merge_run.specs.declared.consumer.Consumer.{Consumer}
use Rattle.merge_run.specs.declared.party.MergeParty.{MergeParty}
use Rattle.merge_run.specs.declared.party.MergeParty.TheVariants.{Produces, Relays, Consumes}
use Rattle.merge_run.specs.Series.{series, sent_by, IsMerged}
use Rattle.merge_run.specs.inner.Parties.{IsProducing, IsSameProducer, IsConsuming, IsLater, IsPrefixAt, AreSettledAt}
use Rattle.merge_run.specs.inner.Making.{AreNewProducers, AreNewParties, AreWaysOf}
use Rattle.merge_run.specs.inner.Parts.{IsPartOf, ArePartOf}
use Rattle.merge_run.specs.inner.Counting.{AreWhole}
use Rattle.merge_run.proofs.Sublists.{part_then, part_of_none, part_whole, part_front, part_prefix, taken_part, of_part, series_part, series_count}
use Rattle.merge_run.proofs.Positions.{same_Some, exists, among, last_at, after_count, after_at}
use Rattle.merge_run.proofs.Started.{parties_count, relay_at, consumer_at}

less_true : (m n : ℕ) → m < n → nat_lt m n ≡ true
less_true m n h = grind (arith, nat_tests)

less_false : (m n : ℕ) → n ≤ m → nat_lt m n ≡ false
less_false m n h = grind (arith, nat_tests)

pub sent_is : (n width i : ℕ) → i < width → sent_by n width i ≡ series n width i
sent_is n width i l = ap (λ b. cond b (series n width i) []) (less_true i width l)

pub none_is_sent : (n width i : ℕ) → width ≤ i → sent_by n width i ≡ []
none_is_sent n width i g = ap (λ b. cond b (series n width i) []) (less_false i width g)

-- ---- what each party is later

pub record LaterProducer (p : Producer) (b : MergeParty) : Type 0 where
  pub producer : Producer
  pub is : b ≡ Produces producer
  pub same : IsSameProducer p producer
  pub going : IsProducing p → IsProducing producer

later_producer : (p : Producer) (b : MergeParty) → IsLater (Produces p) b → LaterProducer p b
later_producer p (Produces q) h = record { producer = q; is = refl; same = h.0; going = h.1 }
later_producer p (Relays s) h = absurd h
later_producer p (Consumes d) h = absurd h

pub record LaterRelay (r : Relaying) (b : MergeParty) : Type 0 where
  pub relay : Relaying
  pub is : b ≡ Relays relay
  pub same : IsSameRelay r relay
  pub going : Carries r → Carries relay

later_relay : (r : Relaying) (b : MergeParty) → IsLater (Relays r) b → LaterRelay r b
later_relay r (Produces q) h = absurd h
later_relay r (Relays s) h = record { relay = s; is = refl; same = h.0; going = h.1 }
later_relay r (Consumes d) h = absurd h

later_consumer : (c d : Consumer) → IsLater (Consumes c) (Consumes d) → IsConsuming c → IsConsuming d
later_consumer c d h k = h.1 k

-- the last one is the consumer
pub last_consumes : (d : Consumer) (c : MergeParty) → IsLater (Consumes d) c → ((x : Consumer) → c ≡ Consumes x → ⊥) → ⊥
last_consumes d (Produces q) h n = h
last_consumes d (Relays s) h n = h
last_consumes d (Consumes x) h n = n x refl

-- ---- what is so of a new producer

pub record Owned (i width count : ℕ) (p : Producer) : Type 0 where
  pub going : IsProducing p
  pub tag_is : p.tag ≡ i
  pub width_is : p.width ≡ width
  pub count_is : p.count ≡ count

owned : (width count : ℕ) (ps : List Producer) (ins : List (Receiving ℤ)) → AreNewProducers width count ps ins → (i : ℕ) (p : Producer) → slice_get ps i ≡ Some p
    → i < length ins → Owned i width count p
owned width count ps ins h i p at l =
    let r = exists ins i l in
    let n = h.each i p r.0 at r.1 in
    record { going = n.going; tag_is = n.tag_is; width_is = n.width_is; count_is = n.count_is }

-- ---- after a run

module _ (width count : ℕ) (ps qs : List MergeParty) (ways : List Way) (new : AreNewParties width count ps) (later : Pointwise IsLater ps qs) where
  -- the relay, after it
  relay_after : (b : MergeParty) × (slice_get qs width ≡ Some b) × IsLater (Relays new.relay) b
  relay_after = after_at IsLater ps qs width (Relays new.relay) later (relay_at width count ps new)

  module _ (front : List MergeParty) (c : MergeParty) (last : qs ≡ front ++ c ∷ []) where
    front_count : length front ≡ suc width
    front_count =
        let a = ap length last in let b = after_count IsLater ps qs later in let d = parties_count width count ps new in
        let e = length-append front (c ∷ []) in omega (arith, a, b, d, e)

    last_there : slice_get qs (suc width) ≡ Some c
    last_there = subst (λ k. slice_get qs k ≡ Some c) front_count (subst (λ xs. slice_get xs (length front) ≡ Some c) (sym last) (last_at front c))

    pub last_is_later : IsLater (Consumes new.consumer) c
    last_is_later =
        let q = after_at IsLater ps qs (suc width) (Consumes new.consumer) later (consumer_at width count ps new) in
        subst (λ b. IsLater (Consumes new.consumer) b) (same_Some q.0 c (sym q.1 ∙ last_there)) q.2

  -- ---- from the consumer back to the producers

  module _ (front : List MergeParty) (d : Consumer) (last : qs ≡ front ++ Consumes d ∷ []) (are : AreWaysOf width ways) (settled : OnLinks AreSettledAt ways qs) where
    consuming : IsConsuming d
    consuming = later_consumer new.consumer d (last_is_later front (Consumes d) last) new.consumes

    after : LaterRelay new.relay relay_after.0
    after = later_relay new.relay relay_after.0 relay_after.2

    abbrev relay : Relaying
    relay = after.relay

    relay_stands : slice_get qs width ≡ Some (Relays relay)
    relay_stands = relay_after.1 ∙ ap Some after.is

    carries : Carries relay
    carries = after.going new.carries

    ins_count : length relay.ins ≡ width
    ins_count = after.same.ins.count ∙ new.new.same_count ∙ new.producers_count

    received_carried : IsPartOf d.received.items (carried relay)
    received_carried =
        let out = settled width (record { from = width; to = suc width }) (Relays relay) (Consumes d) are.last relay_stands (last_there front (Consumes d) last) in
        subst (λ xs. IsPartOf xs (carried relay)) (sym consuming.received)
        (part_then (taken_by d.end.popped d.end.peer.decisions) d.end.popped (carried relay) (taken_part d.end.popped d.end.peer.decisions)
        (part_then d.end.popped relay.out.payloads (carried relay) (part_prefix d.end.popped relay.out.payloads out)
        (part_front relay.out.payloads (held_list relay.held))))

    received_taken : (i : ℕ) → IsPartOf (of_end i d.received.items) (taken_at relay.ins i)
    received_taken i = subst (λ xs. IsPartOf (of_end i d.received.items) xs) (carries i) (of_part i d.received.items (carried relay) received_carried)

    taken_part_of : (o : Option (Receiving ℤ)) (xs : List ℤ) → IsPrefixAt o xs → IsPartOf (taken_of o) xs
    taken_part_of None xs h = absurd h
    taken_part_of (Some r) xs h =
        part_then (taken_by r.popped r.peer.decisions) r.popped xs (taken_part r.popped r.peer.decisions) (part_prefix r.popped xs h)

    -- of a producer
    sent_then : (i : ℕ) → i < width → IsPartOf (taken_at relay.ins i) (series count width i)
    sent_then i l =
        let at = among Produces new.producers (Relays new.relay ∷ Consumes new.consumer ∷ []) i (subst (λ n. i < n) (sym new.producers_count) l) in
        let there : slice_get ps i ≡ Some (Produces at.0) = ap (λ xs. slice_get xs i) new.are ∙ at.2 in
        let q = after_at IsLater ps qs i (Produces at.0) later there in
        let p = later_producer at.0 q.0 q.2 in
        let own = owned width count new.producers new.relay.ins new.new i at.0 at.1 (let a = new.new.same_count in let b = new.producers_count in omega (arith, a, b, l)) in
        let going : IsProducing p.producer = p.going own.going in
        let prefix = settled i (record { from = i; to = width }) (Produces p.producer) (Relays relay) (are.each i l) (q.1 ∙ ap Some p.is) relay_stands in
        let sent : p.producer.end.payloads ≡ series p.producer.sent width i =
        going.payloads ∙ ap (λ w. series p.producer.sent w p.producer.tag) (p.same.width ∙ own.width_is) ∙ ap (series p.producer.sent width) (p.same.tag ∙ own.tag_is) in
        let most : p.producer.sent ≤ count = subst (λ n. p.producer.sent ≤ n) (p.same.count ∙ own.count_is) going.numbers.sent_most in
        part_then (taken_at relay.ins i) p.producer.end.payloads (series count width i) (taken_part_of (slice_get relay.ins i) p.producer.end.payloads prefix)
        (subst (λ xs. IsPartOf xs (series count width i)) (sym sent) (series_part p.producer.sent count width i most))

    pub received_part : ArePartOf count width d.received.items
    received_part i =
        ⊎_elim (λ (l : i < width). subst (λ xs. IsPartOf (of_end i d.received.items) xs) (sym (sent_is count width i l))
        (part_then (of_end i d.received.items) (taken_at relay.ins i) (series count width i) (received_taken i) (sent_then i l)))
        (λ (g : width ≤ i). subst (λ xs. IsPartOf (of_end i d.received.items) xs) (sym (none_is_sent count width i g))
        (subst (λ o. IsPartOf (of_end i d.received.items) (taken_of o)) (slice_get_past relay.ins i (let e = ins_count in omega (arith, e, g))) (received_taken i)))
        (cases_lt i width)

-- ---- where there are as many

pub all_received : (count width : ℕ) (received : List Tagged) → ArePartOf count width received → AreWhole width count received → IsMerged count width received
all_received count width received part whole i =
    ⊎_elim (λ (l : i < width). part_whole (of_end i received) (sent_by count width i) (part i)
    (let a = whole i l in let b = ap length (sent_is count width i l) in let c = series_count count width i in omega (arith, a, b, c)))
    (λ (g : width ≤ i). part_of_none (of_end i received) (subst (λ xs. IsPartOf (of_end i received) xs) (none_is_sent count width i g) (part i)) ∙ sym (none_is_sent count width i g))
    (cases_lt i width)
