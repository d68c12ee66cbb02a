-- The request to which the next reply may come has begun; and what a core offers as a request is within the limits.
use Rattle.std.proofs.Common.{◌≡◌, ℕ, ◌+◌, List, [], length, Option, Some, None, IsSome, true, false, refl, sym, ap, ◌∙◌, subst, arith}
use Rattle.std.specs.Prelude.{All, find, nat_eq, nat_le, nat_lt, bytes_eq, ◌&&◌, slice_get}
use Rattle.std.specs.List.{filter}
use Rattle.std.proofs.lemmas.Bool.{and_parts, eqb-true}
use Rattle.std.proofs.lemmas.Slice.Eq.{bytes_eq-Decides}
use Rattle.ac_base.specs.declared.entry.Payload.{Payload}
use Rattle.ac_base.specs.declared.entry.Payload.TheVariants as payload
use Rattle.ac_links.specs.Noted.{owner_noted}
use Rattle.ac_links.specs.Order.{of_party, is_of_link}
use Rattle.ac_links.specs.Party.{LinkEnd, EndRuns}
use Rattle.ac_links.specs.Party.LinkEnd.{Owns, Decides, Absent}
use Rattle.ac_links.specs.Payloads.{is_payload}
use Rattle.ac_links.specs.Replies.{least_open}
use Rattle.ac_links.specs.Views.{OwnerOffer, OwnerRuns}
use Rattle.cancel_scope.specs.declared.operation.Asked.{Asked}
use Rattle.cancel_scope.specs.declared.operation.Asked.TheVariants as asked
use Rattle.cancel_scope.specs.declared.operation.Operation.{Operation}
use Rattle.cancel_scope.specs.Outstanding.{carries, is_begun, is_outgoing, is_request, is_to_offer, is_waiting}
use Rattle.code_safety.specs.Fit.{one_if}
use Rattle.code_safety.proofs.Waiting.{found_at, one_of_all}
use Rattle.core_ports.specs.Ends.{awaits_reply, is_known, is_owner, offers_of}
use Rattle.core_state.specs.Shared.{request_link}
use Rattle.stack_code.specs.Parts.{Parts}
use Rattle.core_machine.specs.Machine.{Machine, IsOnItsWay, IsSameCore}
use Rattle.core_machine.specs.Points.{HasTracks, carried_by, is_at_point, offer_carries, operations_of, requests_of}
use Rattle.core_machine.specs.Tracks.{IsPlaced, Tracks, begun_of, is_transfer, keeps_limits}
use Rattle.core_ports.specs.declared.side.Side.TheVariants.{Owner}
use Rattle.core_ports.specs.Sides.{side_of}
use Rattle.core_driver.specs.inner.InStep.{InStep}
use Rattle.core_driver.specs.inner.Outside.{Outside}
use Rattle.core_driver.proofs.Opened.{found_one}
use Rattle.core_driver.proofs.Looking.{requests_on}
use Rattle.core_driver.proofs.Resting.{core_in}
use Rattle.core_driver.proofs.Together.{still_going, with_room}
use Rattle.core_driver.proofs.Replied.{is_replied, is_taken, known_is_there, least_is_open, open_parts, runs_replied, runs_taken}

-- ---- what the end of its requests tells

module _ (m : Machine) (o : Outside) (h : InStep m o) (tracks : Tracks (requests_of m) m.journal (operations_of m.state)) where
  abbrev own : ℕ
  own = requests_of m

  abbrev ops : List Operation
  ops = operations_of m.state

  module _ (os : List OwnerOffer) (owns : o.ends own ≡ Owns os) where
    runs : OwnerRuns (o.terms own) (owner_noted os) [] (filter (is_of_link own) (of_party m.core m.journal)) os
    runs = subst (λ (x : LinkEnd). EndRuns (o.terms own) x (filter (is_of_link own) (of_party m.core m.journal))) owns (h.agrees.runs own)

    -- as many requests have begun under a number as were taken there and have no answer
    begun_there : (n : ℕ) → begun_of own n ops + one_if (is_replied (slice_get os n)) ≡ one_if (is_taken (slice_get os n))
    begun_there n =
        let taken = runs_taken (o.terms own) (owner_noted os) m.core own os n m.journal runs in
        let replied = runs_replied (o.terms own) (owner_noted os) m.core own os n m.journal runs in
        let all = tracks.begun n in
        omega (arith, taken, replied, all)

    -- the first that is open is known: it has begun
    first_begun : is_known (slice_get os (least_open os)) ≡ true → begun_of own (least_open os) ops ≡ 1
    first_begun known =
        let n = least_open os in
        let parts = open_parts (slice_get os n) (least_is_open os (known_is_there (slice_get os n) known)) in
        let taken : one_if (is_taken (slice_get os n)) ≡ 1 = ap one_if (parts.1 ∙ known) in
        let unreplied : one_if (is_replied (slice_get os n)) ≡ 0 = ap one_if parts.2 in
        let all = begun_there n in
        omega (arith, all, taken, unreplied)

  -- the request to which the next answer may come
  pub reply_found : is_owner (o.ends own) ≡ true → awaits_reply (o.ends own) ≡ true → (n : ℕ) → n ≡ least_open (offers_of (o.ends own)) → IsSome (find (is_begun own n) ops)
  reply_found = go (o.ends own) refl
    where
      go : (x : LinkEnd) → o.ends own ≡ x → is_owner x ≡ true → awaits_reply x ≡ true → (n : ℕ) → n ≡ least_open (offers_of x) → IsSome (find (is_begun own n) ops)
      go (Owns os) e h waits n is = found_one (is_begun own n) ops 0 (ap (λ k. begun_of own k ops) is ∙ first_begun os e waits)
      go (Decides ds) e h waits n is = let no : false ≡ true = h in absurd (cc)
      go Absent e h waits n is = let no : false ≡ true = h in absurd (cc)

-- ---- what is offered

-- within the limits it is a request that may be made
is_allowed : (f a n : ℕ) → is_transfer f a n ≡ true → ((nat_lt f 16 && nat_le n 256) && nat_le (a + n) 1048576) ≡ true
is_allowed f a n h =
    let one = and_parts (nat_lt f 16) (nat_le n 256 && nat_le (a + n) 1048576) h in
    let two = and_parts (nat_le n 256) (nat_le (a + n) 1048576) one.1 in
    ap (λ b. (b && nat_le n 256) && nat_le (a + n) 1048576) one.0 ∙ ap (λ b. b && nat_le (a + n) 1048576) two.0 ∙ two.1

carried_is : (requests l : ℕ) (a : Asked) (p : Payload) → is_request a ≡ nat_eq l requests → keeps_limits a ≡ true → carries a p ≡ true → is_payload (nat_eq l requests) p ≡ true
carried_is requests l a p at limits carried = subst (λ b. is_payload b p ≡ true) at (by a p limits carried)
  where
    by : (a : Asked) (p : Payload) → keeps_limits a ≡ true → carries a p ≡ true → is_payload (is_request a) p ≡ true
    by (asked.Send value) (payload.Int v) k c = refl
    by (asked.Read file from into) (payload.Read f b n) k c =
        let one = and_parts (nat_eq file f) (nat_eq from b && nat_eq into.len n) c in
        let two = and_parts (nat_eq from b) (nat_eq into.len n) one.1 in
        let same : is_transfer f b n ≡ true = subst (λ x. is_transfer f b x ≡ true) (eqb-true into.len n two.1)
        (subst (λ x. is_transfer f x into.len ≡ true) (eqb-true from b two.0) (subst (λ x. is_transfer x from into.len ≡ true) (eqb-true file f one.0) k)) in
        is_allowed f b n same
    by (asked.Write file from bytes) (payload.Write f b bs) k c =
        let one = and_parts (nat_eq file f) (nat_eq from b && bytes_eq bytes bs) c in
        let two = and_parts (nat_eq from b) (bytes_eq bytes bs) one.1 in
        let all : bytes ≡ bs = (bytes_eq-Decides bytes bs).0 two.1 in
        let same : is_transfer f b (length bs) ≡ true = subst (λ x. is_transfer f b (length x) ≡ true) all
        (subst (λ x. is_transfer f x (length bytes) ≡ true) (eqb-true from b two.0) (subst (λ x. is_transfer x from (length bytes) ≡ true) (eqb-true file f one.0) k)) in
        is_allowed f b (length bs) same
    by a p k c = let no : false ≡ true = c in absurd (cc)

pub offered_is : (requests l : ℕ) (os : List Operation) (p : Payload) → All (IsPlaced requests) os → offer_carries os l p ≡ true → is_payload (nat_eq l requests) p ≡ true
offered_is requests l os p placed h = by (find (is_to_offer l) os) refl h
  where
    by : (q : Option Operation) → find (is_to_offer l) os ≡ q → carried_by q p ≡ true → is_payload (nat_eq l requests) p ≡ true
    by None e c = let no : false ≡ true = c in absurd (cc)
    by (Some o) e c =
        let f = found_at (is_to_offer l) os o e in
        let place = one_of_all (IsPlaced requests) f.back o f.front (subst (All (IsPlaced requests)) f.is placed) in
        let at = (and_parts (nat_eq o.link l) (is_outgoing o.asked && is_waiting o.progress) f.passes).0 in
        carried_is requests l o.asked p (place.link ∙ ap (λ k. nat_eq k requests) (eqb-true o.link l at)) place.limits c

-- ---- at a dispatch point, once room was made

module _ (m b : Machine) (o : Outside) (h : InStep m o) (point : is_at_point m.state ≡ true) (same : IsSameCore m b) (state : b.state ≡ m.state) (run : IsOnItsWay b) (all : HasTracks b) where
  roomed : InStep b o
  roomed = with_room m b o h same state run

  tracks : Tracks (requests_of b) b.journal (operations_of b.state)
  tracks = all (still_going b.state (ap is_at_point state ∙ point))

  own_stays : requests_of b ≡ requests_of m
  own_stays = ap (λ (code : Parts). request_link (length code.ends) b.core) same.code ∙ ap (request_link (length m.code.ends)) same.core

  module _ (l : ℕ) (side : side_of m.code.ends m.core l ≡ Owner) where
    -- the link carries requests where it is that of its requests
    carries_requests : (o.terms l).requests ≡ nat_eq l (requests_of b)
    carries_requests = requests_on m.code m.core o.terms o.ends l h.ports (core_in m h.run) side ∙ ap (nat_eq l) (sym own_stays)

    pub payload_after : (p : Payload) → offer_carries (operations_of b.state) l p ≡ true → is_payload (o.terms l).requests p ≡ true
    payload_after p carried = subst (λ r. is_payload r p ≡ true) (sym carries_requests) (offered_is (requests_of b) l (operations_of b.state) p tracks.placed carried)

    module _ (asks : (o.terms l).requests ≡ true) where
      is_own : l ≡ requests_of b
      is_own = eqb-true l (requests_of b) (sym carries_requests ∙ asks)

      owned : is_owner (o.ends (requests_of b)) ≡ true
      owned = subst (λ k. is_owner (o.ends k) ≡ true) is_own (h.ports.owner l side)

      pub reply_after : awaits_reply (o.ends l) ≡ true → (n : ℕ) → n ≡ least_open (offers_of (o.ends l)) → IsSome (find (is_begun l n) (operations_of b.state))
      reply_after waits n is =
          let there : awaits_reply (o.ends (requests_of b)) ≡ true = subst (λ k. awaits_reply (o.ends k) ≡ true) is_own waits in
          let least : n ≡ least_open (offers_of (o.ends (requests_of b))) = subst (λ k. n ≡ least_open (offers_of (o.ends k))) is_own is in
          subst (λ k. IsSome (find (is_begun k n) (operations_of b.state))) (sym is_own) (reply_found b o roomed tracks owned there n least)
