-- Which operations stand under which offers, and which have begun: what entries make of that. This is the part `Tracks` of `IsSound`.
-- The journal's offers less its ends are, for each link and number, the operations that stand there. Each entry changes one operation, found by a test;
-- so the counts before and after it differ at that one place alone. One lemma for each kind of entry.
use Rattle.std.proofs.Common.{◌≡◌, ℕ, ◌+◌, List, [], ◌∷◌, ◌++◌, Option, Some, None, Bool, true, false, refl, sym, ap, ◌∙◌, subst, arith}
use Rattle.std.specs.Prelude.{ℤ, All, find, nat_eq, not, ◌&&◌, if◌then◌else◌}
use Rattle.std.proofs.lemmas.Bool.{and_parts, eq-eqb, eqb-true}
use Rattle.ac_base.specs.declared.entry.Entry.{Entry}
use Rattle.ac_base.specs.declared.entry.Event.{Event}
use Rattle.ac_base.specs.declared.entry.Event.TheVariants as event
use Rattle.ac_base.specs.declared.entry.Answer.{Answer}
use Rattle.ac_base.specs.declared.entry.Payload.{Payload}
use Rattle.work_item.specs.Store.{Store}
use Rattle.cancel_scope.specs.declared.operation.Progress.{Progress}
use Rattle.cancel_scope.specs.declared.operation.Progress.TheVariants as progress
use Rattle.cancel_scope.specs.declared.operation.Operation.{Operation}
use Rattle.cancel_scope.specs.Outstanding.{offered_as, past_offer, as_begun, is_outgoing, is_request, is_waiting, has_begun_under, is_under, is_to_offer, is_offered, is_begun}
use Rattle.cancel_scope.specs.Outstanding.{is_to_receive, carries, change_first, without_first}
use Rattle.core_state.specs.Arrivals as arrivals
use Rattle.core_state.specs.Arrivals.{Arrival, goes_on_waiting, has_ended, has_ended_as, offers, offers_on, is_taken, is_known, is_answered, ends_received, passes_over, gives_room, keeps_room}
use Rattle.core_state.specs.Arrivals.{with_message}
use Rattle.core_state.specs.Cancelling.{Fate, NeverHappens, IsTaken, by_outcome, outcome}
use Rattle.core_state.specs.Requests.{value_of, with_answer}
use Rattle.code_safety.specs.Fit.{one_if, total}
use Rattle.code_safety.proofs.Lives.{total_append}
use Rattle.code_safety.proofs.Waiting.{IsFound, all_between, all_others, found_at, one_of_all, total_between}
use Rattle.core_machine.specs.Tracks.{is_offer_of, is_end_of, is_know_of, is_reply_of, standing_of, offers_of, ends_of, begun_of, knows_of, replies_of, IsPlaced, Tracks}

pub and_false : (b : Bool) → one_if (b && false) ≡ 0
and_false true = refl
and_false false = refl

none_on : (a b : Bool) → a ≡ false → one_if (a && b) ≡ 0
none_on a b e = ap (λ z. one_if (z && b)) e

-- ---- under which number an operation stands, or has begun

abbrev pub Receives : Operation → Type 0
Receives o = is_outgoing o.asked ≡ false → is_waiting o.progress ≡ true

waits_under : (n : ℕ) (p : Progress) → is_waiting p ≡ true → is_under n p ≡ false
waits_under n progress.Waiting h = refl
waits_under n (progress.Offered k) h = let no : false ≡ true = h in absurd (cc)
waits_under n (progress.Started k) h = refl

waits_begun : (n : ℕ) (p : Progress) → is_waiting p ≡ true → has_begun_under n p ≡ false
waits_begun n progress.Waiting h = refl
waits_begun n (progress.Offered k) h = refl
waits_begun n (progress.Started k) h = let no : false ≡ true = h in absurd (cc)

under_begun : (k n : ℕ) (p : Progress) → is_under k p ≡ true → has_begun_under n p ≡ false
under_begun k n progress.Waiting h = refl
under_begun k n (progress.Offered j) h = refl
under_begun k n (progress.Started j) h = let no : false ≡ true = h in absurd (cc)

begun_under : (n : ℕ) (p : Progress) → is_under n (past_offer p) ≡ false
begun_under n progress.Waiting = refl
begun_under n (progress.Offered k) = refl
begun_under n (progress.Started k) = refl

begun_is_under : (k n : ℕ) (p : Progress) → has_begun_under k p ≡ true → is_under n p ≡ false
begun_is_under k n progress.Waiting h = refl
begun_is_under k n (progress.Offered j) h = let no : false ≡ true = h in absurd (cc)
begun_is_under k n (progress.Started j) h = refl

still_waits : (p : Progress) → is_waiting p ≡ true → is_waiting (past_offer p) ≡ true
still_waits progress.Waiting h = refl
still_waits (progress.Offered k) h = let no : false ≡ true = h in absurd (cc)
still_waits (progress.Started k) h = let no : false ≡ true = h in absurd (cc)

-- one that is not offered stands under no number, and has not begun
pub not_under : (l n : ℕ) (o : Operation) → is_waiting o.progress ≡ true → one_if (is_offered l n o) ≡ 0
not_under l n o h = ap (λ b. one_if (nat_eq o.link l && b)) (waits_under n o.progress h) ∙ and_false (nat_eq o.link l)

pub not_begun : (l n : ℕ) (o : Operation) → is_waiting o.progress ≡ true → one_if (is_begun l n o) ≡ 0
not_begun l n o h = ap (λ b. one_if (nat_eq o.link l && b)) (waits_begun n o.progress h) ∙ and_false (nat_eq o.link l)

under_is : (k n : ℕ) (p : Progress) → is_under k p ≡ true → is_under n p ≡ nat_eq k n
under_is k n progress.Waiting h = let no : false ≡ true = h in absurd (cc)
under_is k n (progress.Offered j) h = ap (λ z. nat_eq z n) (eqb-true j k h)
under_is k n (progress.Started j) h = let no : false ≡ true = h in absurd (cc)

under_begins : (k n : ℕ) (p : Progress) → is_under k p ≡ true → has_begun_under n (past_offer p) ≡ nat_eq k n
under_begins k n progress.Waiting h = let no : false ≡ true = h in absurd (cc)
under_begins k n (progress.Offered j) h = ap (λ z. nat_eq z n) (eqb-true j k h)
under_begins k n (progress.Started j) h = let no : false ≡ true = h in absurd (cc)

begun_is : (k n : ℕ) (p : Progress) → has_begun_under k p ≡ true → has_begun_under n p ≡ nat_eq k n
begun_is k n progress.Waiting h = let no : false ≡ true = h in absurd (cc)
begun_is k n (progress.Offered j) h = let no : false ≡ true = h in absurd (cc)
begun_is k n (progress.Started j) h = ap (λ z. nat_eq z n) (eqb-true j k h)

-- where it stands, and where it has begun
module _ (link k l n : ℕ) (o : Operation) where
  at_both : (b : Bool) → (nat_eq o.link link && b) ≡ true → (o.link ≡ link) × (b ≡ true)
  at_both b h = let both = and_parts (nat_eq o.link link) b h in (eqb-true o.link link both.0, both.1)

  moved_to : (b : Bool) → o.link ≡ link → b ≡ nat_eq k n → one_if (nat_eq o.link l && b) ≡ one_if (nat_eq link l && nat_eq k n)
  moved_to b at e = ap (λ z. one_if (nat_eq z l && b)) at ∙ ap (λ z. one_if (nat_eq link l && z)) e

  module _ (h : is_offered link k o ≡ true) where
    stands_where : one_if (is_offered l n o) ≡ one_if (nat_eq link l && nat_eq k n)
    stands_where = let at = at_both (is_under k o.progress) h in moved_to (is_under n o.progress) at.0 (under_is k n o.progress at.1)

    begins_where : one_if (is_begun l n (as_begun o)) ≡ one_if (nat_eq link l && nat_eq k n)
    begins_where = let at = at_both (is_under k o.progress) h in moved_to (has_begun_under n (past_offer o.progress)) at.0 (under_begins k n o.progress at.1)

    offered_not_begun : one_if (is_begun l n o) ≡ 0
    offered_not_begun =
        let at = at_both (is_under k o.progress) h in
        ap (λ b. one_if (nat_eq o.link l && b)) (under_begun k n o.progress at.1) ∙ and_false (nat_eq o.link l)

    begun_not_offered : one_if (is_offered l n (as_begun o)) ≡ 0
    begun_not_offered = ap (λ b. one_if (nat_eq o.link l && b)) (begun_under n o.progress) ∙ and_false (nat_eq o.link l)

  module _ (h : is_begun link k o ≡ true) where
    begun_where : one_if (is_begun l n o) ≡ one_if (nat_eq link l && nat_eq k n)
    begun_where = let at = at_both (has_begun_under k o.progress) h in moved_to (has_begun_under n o.progress) at.0 (begun_is k n o.progress at.1)

    begun_no_offer : one_if (is_offered l n o) ≡ 0
    begun_no_offer =
        let at = at_both (has_begun_under k o.progress) h in
        ap (λ b. one_if (nat_eq o.link l && b)) (begun_is_under k n o.progress at.1) ∙ and_false (nat_eq o.link l)

-- ---- an entry

module _ (requests : ℕ) (past : List Entry) (os : List Operation) (h : Tracks requests past os) (e : Entry) where
  abbrev longer : List Entry
  longer = past ++ e ∷ []

  abbrev Tracked : List Operation → Type 0
  Tracked new = Tracks requests longer new

  more : (f : Entry → ℕ) → total f longer ≡ total f past + (f e + 0)
  more f = total_append f past (e ∷ [])

  -- the counts after it
  module _ (new : List Operation) where
    count_offers : (l n stood stands : ℕ) → standing_of l n os + stands ≡ standing_of l n new + stood → stands + one_if (is_end_of l n e.event) ≡ stood + one_if (is_offer_of l n e.event)
        → standing_of l n new + ends_of l n longer ≡ offers_of l n longer
    count_offers l n stood stands both step =
        let was = h.each l n in
        let a = more (λ (x : Entry). one_if (is_offer_of l n x.event)) in
        let b = more (λ (x : Entry). one_if (is_end_of l n x.event)) in
        omega (arith, was, a, b, both, step)

    count_begun : (n had has : ℕ) → begun_of requests n os + has ≡ begun_of requests n new + had
        → has + one_if (is_reply_of requests n e.event) ≡ had + one_if (is_know_of requests n e.event)
        → begun_of requests n new + replies_of requests n longer ≡ knows_of requests n longer
    count_begun n had has both step =
        let was = h.begun n in
        let a = more (λ (x : Entry). one_if (is_know_of requests n x.event)) in
        let b = more (λ (x : Entry). one_if (is_reply_of requests n x.event)) in
        omega (arith, was, a, b, both, step)

  module _ (test : Operation → Bool) (o : Operation) (f : IsFound test os o) where
    parted : (count : Operation → ℕ) → total count os ≡ count o + total count (f.front ++ f.back)
    parted count = ap (total count) f.is ∙ total_between count f.front f.back o

    all_before : (P : Operation → Type 0) → All P os → All P (f.front ++ o ∷ f.back)
    all_before P all = subst (All P) f.is all

    its : (P : Operation → Type 0) → All P os → P o
    its P all = one_of_all P f.back o f.front (all_before P all)

    left : (P : Operation → Type 0) → All P os → All P (f.front ++ f.back)
    left P all = all_others P f.back o f.front (all_before P all)

    -- it is taken away
    gone : ((l n : ℕ) → one_if (is_end_of l n e.event) ≡ one_if (is_offered l n o) + one_if (is_offer_of l n e.event))
        → ((n : ℕ) → one_if (is_reply_of requests n e.event) ≡ one_if (is_begun requests n o) + one_if (is_know_of requests n e.event)) → Tracked (without_first test os)
    gone offer begin = subst Tracked (sym f.without) (record {
      each = λ l n.
          let p = parted (λ (x : Operation). one_if (is_offered l n x)) in
          count_offers (f.front ++ f.back) l n (one_if (is_offered l n o)) 0 (omega (arith, p)) (let s = offer l n in omega (arith, s));
      begun = λ n.
          let p = parted (λ (x : Operation). one_if (is_begun requests n x)) in
          count_begun (f.front ++ f.back) n (one_if (is_begun requests n o)) 0 (omega (arith, p)) (let s = begin n in omega (arith, s));
      receives = left Receives h.receives;
      placed = left (IsPlaced requests) h.placed;
    })

    -- it is changed, and stays on its link
    changed : (change : Operation → Operation)
        → ((l n : ℕ) → one_if (is_offered l n (change o)) + one_if (is_end_of l n e.event) ≡ one_if (is_offered l n o) + one_if (is_offer_of l n e.event))
        → ((n : ℕ) → one_if (is_begun requests n (change o)) + one_if (is_reply_of requests n e.event) ≡ one_if (is_begun requests n o) + one_if (is_know_of requests n e.event))
        → Receives (change o) → IsPlaced requests (change o) → Tracked (change_first test change os)
    changed change offer begin receives placed = subst Tracked (sym (f.changed change)) (record {
      each = λ l n.
          let p = parted (λ (x : Operation). one_if (is_offered l n x)) in
          let q = total_between (λ (x : Operation). one_if (is_offered l n x)) f.front f.back (change o) in
          count_offers (f.front ++ change o ∷ f.back) l n (one_if (is_offered l n o)) (one_if (is_offered l n (change o))) (omega (arith, p, q)) (offer l n);
      begun = λ n.
          let p = parted (λ (x : Operation). one_if (is_begun requests n x)) in
          let q = total_between (λ (x : Operation). one_if (is_begun requests n x)) f.front f.back (change o) in
          count_begun (f.front ++ change o ∷ f.back) n (one_if (is_begun requests n o)) (one_if (is_begun requests n (change o))) (omega (arith, p, q)) (begin n);
      receives = all_between Receives f.back (change o) f.front (left Receives h.receives) receives;
      placed = all_between (IsPlaced requests) f.back (change o) f.front (left (IsPlaced requests) h.placed) placed;
    })

  -- The operation waited and stood nowhere; now it stands under the new number. So the offers on that link and number are one more, and ends and begun requests the same.
  tracks_offered : (link k : ℕ) (payload : Payload) (o : Operation) → e.event ≡ event.Offer link k payload → IsFound (is_to_offer link) os o
      → Tracked (change_first (is_to_offer link) (offered_as k) os)
  tracks_offered link k payload o is f = changed (is_to_offer link) o f (offered_as k)
      (λ l n.
      let none = not_under l n o waits in
      let same : one_if (nat_eq o.link l && nat_eq k n) ≡ one_if (nat_eq link l && nat_eq k n) = ap (λ z. one_if (nat_eq z l && nat_eq k n)) (eqb-true o.link link parts.0) in
      let p : one_if (is_offer_of l n e.event) ≡ one_if (nat_eq link l && nat_eq k n) = ap (λ v. one_if (is_offer_of l n v)) is in
      let q : one_if (is_end_of l n e.event) ≡ 0 = ap (λ v. one_if (is_end_of l n v)) is in
      omega (arith, none, same, p, q))
      (λ n.
      let none = not_begun requests n o waits in
      let still = and_false (nat_eq o.link requests) in
      let p : one_if (is_know_of requests n e.event) ≡ 0 = ap (λ v. one_if (is_know_of requests n v)) is in
      let q : one_if (is_reply_of requests n e.event) ≡ 0 = ap (λ v. one_if (is_reply_of requests n v)) is in
      omega (arith, none, still, p, q))
      (λ no. let both : true ≡ false = sym sends ∙ no in absurd (cc))
      (record { link = place.link; limits = place.limits })
    where
      parts : (nat_eq o.link link ≡ true) × ((is_outgoing o.asked && is_waiting o.progress) ≡ true)
      parts = and_parts (nat_eq o.link link) (is_outgoing o.asked && is_waiting o.progress) f.passes

      sends : is_outgoing o.asked ≡ true
      sends = (and_parts (is_outgoing o.asked) (is_waiting o.progress) parts.1).0

      waits : is_waiting o.progress ≡ true
      waits = (and_parts (is_outgoing o.asked) (is_waiting o.progress) parts.1).1

      place : IsPlaced requests o
      place = its (is_to_offer link) o f (IsPlaced requests) h.placed

  -- what stood on a link
  module _ (test : Operation → Bool) (link k : ℕ) (o : Operation) (stands : is_offered link k o ≡ true) (f : IsFound test os o) where
    place : IsPlaced requests o
    place = its test o f (IsPlaced requests) h.placed

    own : nat_eq link requests ≡ is_request o.asked
    own =
        let at = (and_parts (nat_eq o.link link) (is_under k o.progress) stands).0 in
        ap (λ z. nat_eq z requests) (sym (eqb-true o.link link at)) ∙ sym place.link

    -- a request that was taken was none
    tracks_known : e.event ≡ event.Know link k → is_request o.asked ≡ false → Tracked (without_first test os)
    tracks_known is other = gone test o f
        (λ l n.
        let s = stands_where link k l n o stands in
        let p : one_if (is_offer_of l n e.event) ≡ 0 = ap (λ v. one_if (is_offer_of l n v)) is in
        let q : one_if (is_end_of l n e.event) ≡ one_if (nat_eq link l && nat_eq k n) = ap (λ v. one_if (is_end_of l n v)) is in
        omega (arith, s, p, q))
        (λ n.
        let s = offered_not_begun link k requests n o stands in
        let p : one_if (is_know_of requests n e.event) ≡ 0 = ap (λ v. one_if (is_know_of requests n v)) is ∙ none_on (nat_eq link requests) (nat_eq k n) (own ∙ other) in
        let q : one_if (is_reply_of requests n e.event) ≡ 0 = ap (λ v. one_if (is_reply_of requests n v)) is in
        omega (arith, s, p, q))

    tracks_withdrawn : e.event ≡ event.Withdraw link k → Tracked (without_first test os)
    tracks_withdrawn is = gone test o f
        (λ l n.
        let s = stands_where link k l n o stands in
        let p : one_if (is_offer_of l n e.event) ≡ 0 = ap (λ v. one_if (is_offer_of l n v)) is in
        let q : one_if (is_end_of l n e.event) ≡ one_if (nat_eq link l && nat_eq k n) = ap (λ v. one_if (is_end_of l n v)) is in
        omega (arith, s, p, q))
        (λ n.
        let s = offered_not_begun link k requests n o stands in
        let p : one_if (is_know_of requests n e.event) ≡ 0 = ap (λ v. one_if (is_know_of requests n v)) is in
        let q : one_if (is_reply_of requests n e.event) ≡ 0 = ap (λ v. one_if (is_reply_of requests n v)) is in
        omega (arith, s, p, q))

    -- a request that was taken has begun
    tracks_begun : e.event ≡ event.Know link k → Tracked (change_first test as_begun os)
    tracks_begun is = changed test o f as_begun
        (λ l n.
        let s = stands_where link k l n o stands in
        let t = begun_not_offered link k l n o stands in
        let p : one_if (is_offer_of l n e.event) ≡ 0 = ap (λ v. one_if (is_offer_of l n v)) is in
        let q : one_if (is_end_of l n e.event) ≡ one_if (nat_eq link l && nat_eq k n) = ap (λ v. one_if (is_end_of l n v)) is in
        omega (arith, s, t, p, q))
        (λ n.
        let s = offered_not_begun link k requests n o stands in
        let t = begins_where link k requests n o stands in
        let p : one_if (is_know_of requests n e.event) ≡ one_if (nat_eq link requests && nat_eq k n) = ap (λ v. one_if (is_know_of requests n v)) is in
        let q : one_if (is_reply_of requests n e.event) ≡ 0 = ap (λ v. one_if (is_reply_of requests n v)) is in
        omega (arith, s, t, p, q))
        (λ no. still_waits o.progress (its test o f Receives h.receives no))
        (record { link = place.link; limits = place.limits })

  tracks_received : (link k : ℕ) (value : List ℤ) (o : Operation) → e.event ≡ event.Got link k value → IsFound (is_to_receive link) os o
      → Tracked (without_first (is_to_receive link) os)
  tracks_received link k value o is f = gone (is_to_receive link) o f
      (λ l n.
      let s = not_under l n o waits in
      let p : one_if (is_offer_of l n e.event) ≡ 0 = ap (λ v. one_if (is_offer_of l n v)) is in
      let q : one_if (is_end_of l n e.event) ≡ 0 = ap (λ v. one_if (is_end_of l n v)) is in
      omega (arith, s, p, q))
      (λ n.
      let s = not_begun requests n o waits in
      let p : one_if (is_know_of requests n e.event) ≡ 0 = ap (λ v. one_if (is_know_of requests n v)) is in
      let q : one_if (is_reply_of requests n e.event) ≡ 0 = ap (λ v. one_if (is_reply_of requests n v)) is in
      omega (arith, s, p, q))
    where
      no_send : (b : Bool) → not b ≡ true → b ≡ false
      no_send true h = let both : false ≡ true = h in absurd (cc)
      no_send false h = refl

      waits : is_waiting o.progress ≡ true
      waits = its (is_to_receive link) o f Receives h.receives (no_send (is_outgoing o.asked) (and_parts (nat_eq o.link link) (not (is_outgoing o.asked)) f.passes).1)

  tracks_answered : (link k : ℕ) (answer : Answer) (o : Operation) → e.event ≡ event.Reply link k answer → IsFound (is_begun link k) os o
      → Tracked (without_first (is_begun link k) os)
  tracks_answered link k answer o is f = gone (is_begun link k) o f
      (λ l n.
      let s = begun_no_offer link k l n o f.passes in
      let p : one_if (is_offer_of l n e.event) ≡ 0 = ap (λ v. one_if (is_offer_of l n v)) is in
      let q : one_if (is_end_of l n e.event) ≡ 0 = ap (λ v. one_if (is_end_of l n v)) is in
      omega (arith, s, p, q))
      (λ n.
      let s = begun_where link k requests n o f.passes in
      let p : one_if (is_know_of requests n e.event) ≡ 0 = ap (λ v. one_if (is_know_of requests n v)) is in
      let q : one_if (is_reply_of requests n e.event) ≡ one_if (nat_eq link requests && nat_eq k n) = ap (λ v. one_if (is_reply_of requests n v)) is in
      omega (arith, s, p, q))

  -- an event that offers nothing, ends no offer and answers nothing
  abbrev IsIdle : Event → Type 0
  IsIdle v = ((l n : ℕ) → is_offer_of l n v ≡ false) × ((l n : ℕ) → is_end_of l n v ≡ false) × ((n : ℕ) → is_know_of requests n v ≡ false) × ((n : ℕ) → is_reply_of requests n v ≡ false)

  tracks_same : (v : Event) → e.event ≡ v → IsIdle v → Tracked os
  tracks_same v is idle = record {
    each = λ l n.
        let p : one_if (is_offer_of l n e.event) ≡ 0 = ap (λ w. one_if (is_offer_of l n w)) is ∙ ap one_if (idle.0 l n) in
        let q : one_if (is_end_of l n e.event) ≡ 0 = ap (λ w. one_if (is_end_of l n w)) is ∙ ap one_if (idle.1 l n) in
        count_offers os l n 0 0 (omega arith) (omega (arith, p, q));
    begun = λ n.
        let p : one_if (is_know_of requests n e.event) ≡ 0 = ap (λ w. one_if (is_know_of requests n w)) is ∙ ap one_if (idle.2 n) in
        let q : one_if (is_reply_of requests n e.event) ≡ 0 = ap (λ w. one_if (is_reply_of requests n w)) is ∙ ap one_if (idle.3 n) in
        count_begun os n 0 0 (omega arith) (omega (arith, p, q));
    receives = h.receives;
    placed = h.placed;
  }

  -- its peer has taken it: it has ended, or has begun
  taken_tracks : (store : Store) (test : Operation → Bool) (link k : ℕ) (o : Operation) → e.event ≡ event.Know link k → is_offered link k o ≡ true → IsFound test os o
      → Tracked (is_taken store test os o).operations
  taken_tracks store test link k o is stands f = go (is_request o.asked) refl
    where
      go : (b : Bool) → is_request o.asked ≡ b → Tracked (if b then goes_on_waiting store (change_first test as_begun os) else has_ended store (without_first test os) o).operations
      go true asks = tracks_begun test link k o stands f is
      go false asks = tracks_known test link k o stands f is asks

  module _ (store : Store) (x : Arrival) where
    offer_tracks : (link k : ℕ) (payload : Payload) (o : Option Operation) → e.event ≡ event.Offer link k payload → find (is_to_offer link) os ≡ o → offers store os link k payload o ≡ Some x
        → Tracked x.operations
    offer_tracks link k payload None is e' fits = let no : None ≡ Some x = fits in absurd (cc)
    offer_tracks link k payload (Some o) is e' fits = go (carries o.asked payload) fits
      where
        go : (b : Bool) → (if b then Some (goes_on_waiting store (change_first (is_to_offer link) (offered_as k) os)) else None) ≡ Some x → Tracked x.operations
        go true q = let same : goes_on_waiting store (change_first (is_to_offer link) (offered_as k) os) ≡ x = cc in
            subst (λ (y : Arrival). Tracked y.operations) same (tracks_offered link k payload o is (found_at (is_to_offer link) os o e'))
        go false q = let no : None ≡ Some x = q in absurd (cc)

    know_tracks : (link k : ℕ) (o : Option Operation) → e.event ≡ event.Know link k → find (is_offered link k) os ≡ o → is_known store os link k o ≡ Some x → Tracked x.operations
    know_tracks link k None is e' fits = let no : None ≡ Some x = fits in absurd (cc)
    know_tracks link k (Some o) is e' fits =
        let same : is_taken store (is_offered link k) os o ≡ x = cc in
        subst (λ (y : Arrival). Tracked y.operations) same (let f = found_at (is_offered link k) os o e' in taken_tracks store (is_offered link k) link k o is f.passes f)

    reply_tracks : (link k : ℕ) (answer : Answer) (o : Option Operation) → e.event ≡ event.Reply link k answer → find (is_begun link k) os ≡ o → is_answered store os link k answer o ≡ Some x
        → Tracked x.operations
    reply_tracks link k answer None is e' fits = let no : None ≡ Some x = fits in absurd (cc)
    reply_tracks link k answer (Some o) is e' fits =
        let same : has_ended_as (value_of o.asked answer) (with_answer store o.asked answer) (without_first (is_begun link k) os) o ≡ x = cc in
        subst (λ (y : Arrival). Tracked y.operations) same (tracks_answered link k answer o is (found_at (is_begun link k) os o e'))

    got_tracks : (link k : ℕ) (value : List ℤ) (o : Option Operation) → e.event ≡ event.Got link k value → find (is_to_receive link) os ≡ o → ends_received store os link value o ≡ Some x
        → Tracked x.operations
    got_tracks link k value None is e' fits = let no : None ≡ Some x = fits in absurd (cc)
    got_tracks link k value (Some o) is e' fits =
        let same : has_ended (with_message store o value) (without_first (is_to_receive link) os) o ≡ x = cc in
        subst (λ (y : Arrival). Tracked y.operations) same (tracks_received link k value o is (found_at (is_to_receive link) os o e'))

    pass_tracks : (link k : ℕ) (o : Option Operation) → e.event ≡ event.Pass link k → passes_over store os o ≡ Some x → Tracked x.operations
    pass_tracks link k None is fits = let no : None ≡ Some x = fits in absurd (cc)
    pass_tracks link k (Some o) is fits =
        let same : goes_on_waiting store os ≡ x = cc in
        subst (λ (y : Arrival). Tracked y.operations) same (tracks_same _ is (λ l n. refl, λ l n. refl, λ n. refl, λ n. refl))

    room_tracks : (link k : ℕ) (b : Bool) → e.event ≡ event.Room link k → gives_room store os b ≡ Some x → Tracked x.operations
    room_tracks link k false is fits = let no : None ≡ Some x = fits in absurd (cc)
    room_tracks link k true is fits =
        let same : goes_on_waiting store os ≡ x = cc in
        subst (λ (y : Arrival). Tracked y.operations) same (tracks_same _ is (λ l n. refl, λ l n. refl, λ n. refl, λ n. refl))

    pub tracks_entered : (v : Event) → e.event ≡ v → arrivals.arrives past store os v ≡ Some x → Tracked x.operations
    tracks_entered (event.Offer link k payload) is fits = go (nat_eq k (offers_on link past)) fits
      where
        go : (b : Bool) → (if b then offers store os link k payload (find (is_to_offer link) os) else None) ≡ Some x → Tracked x.operations
        go true q = offer_tracks link k payload (find (is_to_offer link) os) is refl q
        go false q = let no : None ≡ Some x = q in absurd (cc)
    tracks_entered (event.Know link k) is fits = know_tracks link k (find (is_offered link k) os) is refl fits
    tracks_entered (event.Got link k value) is fits = got_tracks link k value (find (is_to_receive link) os) is refl fits
    tracks_entered (event.Pass link k) is fits = pass_tracks link k (find (is_to_receive link) os) is fits
    tracks_entered (event.Room link k) is fits = room_tracks link k (keeps_room link k past) is fits
    tracks_entered (event.Reply link k answer) is fits = reply_tracks link k answer (find (is_begun link k) os) is refl fits
    tracks_entered v is fits = let no : None ≡ Some x = fits in absurd (cc)

  -- what the outcome of an offer makes of its operation
  pub tracks_decided : (store : Store) (test : Operation → Bool) (o : Operation) (link k : ℕ) (it : Fate) → find test os ≡ Some o → o.link ≡ link → o.progress ≡ progress.Offered k
      → outcome link k e.event ≡ Some it → Tracked (by_outcome it store test os o).operations
  tracks_decided store test o link k it found on under is = go e.event refl is
    where
      stands : is_offered link k o ≡ true
      stands = ap (λ p. nat_eq o.link link && is_under k p) under ∙ ap (λ b. b && nat_eq k k) (eq-eqb o.link link on) ∙ eq-eqb k k refl

      same : (l n : ℕ) (v : Fate) (b : Bool) → (nat_eq l link && nat_eq n k) ≡ b → (if b then Some v else None) ≡ Some it → ((l ≡ link) × (n ≡ k)) × (v ≡ it)
      same l n v true e q =
          let both = and_parts (nat_eq l link) (nat_eq n k) e in
          let its : v ≡ it = cc in
          ((eqb-true l link both.0, eqb-true n k both.1), its)
      same l n v false e q = let no : None ≡ Some it = q in absurd (cc)

      go : (v : Event) → e.event ≡ v → outcome link k v ≡ Some it → Tracked (by_outcome it store test os o).operations
      go (event.Withdraw l n) w q =
          let at = same l n NeverHappens (nat_eq l link && nat_eq n k) refl q in
          subst (λ z. Tracked (by_outcome z store test os o).operations) at.1
          (tracks_withdrawn test link k o stands (found_at test os o found) (w ∙ ap (λ x. event.Withdraw x n) at.0.0 ∙ ap (λ x. event.Withdraw link x) at.0.1))
      go (event.Know l n) w q =
          let at = same l n IsTaken (nat_eq l link && nat_eq n k) refl q in
          subst (λ z. Tracked (by_outcome z store test os o).operations) at.1
          (taken_tracks store test link k o (w ∙ ap (λ x. event.Know x n) at.0.0 ∙ ap (λ x. event.Know link x) at.0.1) stands (found_at test os o found))
      go v w q = let no : None ≡ Some it = q in absurd (cc)
