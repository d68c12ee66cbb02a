-- What the ends of its links tell of a core's journal: which of its offers have not ended, which keep their room, and how many it has made.
use Rattle.std.proofs.Common.{◌≡◌, ℕ, zero, suc, ◌+◌, List, [], ◌∷◌, ◌++◌, length, Option, Some, None, IsSome, Bool, true, false, cond, refl, sym, ap, ◌∙◌, arith}
use Rattle.std.specs.Prelude.{◌-◌, ◌==◌, find, is_some, is_none, nat_eq, nat_lt, not, ◌&&◌, ◌||◌, slice_get, if◌then◌else◌}
use Rattle.std.specs.List.{filter, list_any}
use Rattle.std.proofs.Math.Dec.{eqb-suc-suc, eqb-suc-zero, eqb-zero-suc}
use Rattle.std.proofs.Math.Bool.{or-false, or-true, or_assoc}
use Rattle.std.proofs.lemmas.Bool.{and_parts, or_parts, eqb-true}
use Rattle.std.proofs.lemmas.List.{length-append}
use Rattle.ac_base.specs.declared.entry.Entry.{Entry}
use Rattle.ac_base.specs.declared.entry.Event.{Event}
use Rattle.ac_base.specs.declared.entry.Event.TheVariants.{Offer, Withdraw, Know, Room, Got, Pass, Did, Reply}
use Rattle.ac_base.specs.declared.entry.Payload.{Payload}
use Rattle.ac_base.specs.declared.entry.Stamped.{Stamped}
use Rattle.ac_links.specs.declared.payloads.Terms.{Terms}
use Rattle.ac_links.specs.Link.{link_of}
use Rattle.ac_links.specs.Order.{of_party, is_of_link}
use Rattle.ac_links.specs.Payloads.{is_payload}
use Rattle.ac_links.specs.Views.{OwnerOffer, owner_lead, altered, known_at, may_free, may_withdraw, owner_after, owner_fits, owner_offer, replied_with, withdrawn_at, OwnerRuns}
use Rattle.ac_links.specs.Views.{PeerDecision, PeerRuns, decision_of, peer_fits}
use Rattle.cancel_scope.specs.declared.operation.Operation.{Operation}
use Rattle.core_ports.specs.Ends.{is_known}
use Rattle.core_state.specs.Arrivals.{is_offer, is_room, is_withdrawal, keeps_room, offers_on}
use Rattle.code_safety.specs.Fit.{one_if, total}
use Rattle.core_machine.specs.Tracks.{is_offer_of, is_end_of, offers_of, ends_of}

-- 1 where the offer of that number has not ended, as its owner knows it
abbrev pub open_at : List OwnerOffer → ℕ → ℕ
open_at os n = one_if (may_withdraw (slice_get os n))

-- ---- changes of one offer

open_pushed : (os : List OwnerOffer) (o : OwnerOffer) (n : ℕ) → may_withdraw (Some o) ≡ true → open_at (os ++ o ∷ []) n ≡ open_at os n + one_if (nat_eq (length os) n)
open_pushed [] o zero h = ap one_if h
open_pushed [] o (suc n) h = let e : one_if (nat_eq zero (suc n)) ≡ 0 = ap one_if (eqb-zero-suc n) in omega (arith, e)
open_pushed (x ∷ os) o zero h = let e : one_if (nat_eq (suc (length os)) zero) ≡ 0 = ap one_if (eqb-suc-zero (length os)) in omega (arith, e)
open_pushed (x ∷ os) o (suc n) h =
    let e : one_if (nat_eq (suc (length os)) (suc n)) ≡ one_if (nat_eq (length os) n) = ap one_if (eqb-suc-suc (length os) n) in
    let i = open_pushed os o n h in
    omega (arith, e, i)

module _ (f : OwnerOffer → OwnerOffer) where
  -- where an open one ends
  open_ended : ((o : OwnerOffer) → may_withdraw (Some (f o)) ≡ false) → (os : List OwnerOffer) (k n : ℕ) → may_withdraw (slice_get os k) ≡ true
      → open_at (altered os k f) n + one_if (nat_eq k n) ≡ open_at os n
  open_ended ends [] k n h = let no : false ≡ true = h in absurd (cc)
  open_ended ends (o ∷ os) zero zero h = let a = ap one_if (ends o) in let b : one_if (may_withdraw (Some o)) ≡ 1 = ap one_if h in omega (arith, a, b)
  open_ended ends (o ∷ os) zero (suc n) h = let e : one_if (nat_eq zero (suc n)) ≡ 0 = ap one_if (eqb-zero-suc n) in omega (arith, e)
  open_ended ends (o ∷ os) (suc k) zero h = let e : one_if (nat_eq (suc k) zero) ≡ 0 = ap one_if (eqb-suc-zero k) in omega (arith, e)
  open_ended ends (o ∷ os) (suc k) (suc n) h =
      let e : one_if (nat_eq (suc k) (suc n)) ≡ one_if (nat_eq k n) = ap one_if (eqb-suc-suc k n) in
      let i = open_ended ends os k n h in
      omega (arith, e, i)

  -- where one that is not open stays so
  open_closed : ((o : OwnerOffer) → may_withdraw (Some (f o)) ≡ false) → (os : List OwnerOffer) (k n : ℕ) → may_withdraw (slice_get os k) ≡ false
      → open_at (altered os k f) n ≡ open_at os n
  open_closed ends [] k n h = refl
  open_closed ends (o ∷ os) zero zero h = ap one_if (ends o ∙ sym h)
  open_closed ends (o ∷ os) zero (suc n) h = refl
  open_closed ends (o ∷ os) (suc k) zero h = refl
  open_closed ends (o ∷ os) (suc k) (suc n) h = open_closed ends os k n h

  open_same : ((o : OwnerOffer) → may_withdraw (Some (f o)) ≡ may_withdraw (Some o)) → (os : List OwnerOffer) (k n : ℕ) → open_at (altered os k f) n ≡ open_at os n
  open_same same [] k n = refl
  open_same same (o ∷ os) zero zero = ap one_if (same o)
  open_same same (o ∷ os) zero (suc n) = refl
  open_same same (o ∷ os) (suc k) zero = refl
  open_same same (o ∷ os) (suc k) (suc n) = open_same same os k n

  length_altered : (os : List OwnerOffer) (k : ℕ) → length (altered os k f) ≡ length os
  length_altered [] k = refl
  length_altered (o ∷ os) zero = refl
  length_altered (o ∷ os) (suc k) = ap suc (length_altered os k)

known_ends : (of : ℕ) (o : OwnerOffer) → may_withdraw (Some (known_at of o)) ≡ false
known_ends of o = go (is_none o.withdrawn)
  where
    go : (b : Bool) → (b && false) ≡ false
    go true = refl
    go false = refl

-- whether it was withdrawn, as its owner knows it
abbrev pub was_withdrawn : Option OwnerOffer → Bool
was_withdrawn None = false
was_withdrawn (Some o) = is_some o.withdrawn

-- a property of one offer, where offers are added and changed
module _ (flag : Option OwnerOffer → Bool) where
  pub flag_pushed : flag None ≡ false → (os : List OwnerOffer) (o : OwnerOffer) → flag (Some o) ≡ false → (n : ℕ) → flag (slice_get (os ++ o ∷ []) n) ≡ flag (slice_get os n)
  flag_pushed none [] o e zero = e ∙ sym none
  flag_pushed none [] o e (suc n) = refl
  flag_pushed none (x ∷ os) o e zero = refl
  flag_pushed none (x ∷ os) o e (suc n) = flag_pushed none os o e n

  module _ (f : OwnerOffer → OwnerOffer) where
    pub flag_kept : ((o : OwnerOffer) → flag (Some (f o)) ≡ flag (Some o)) → (os : List OwnerOffer) (k n : ℕ) → flag (slice_get (altered os k f) n) ≡ flag (slice_get os n)
    flag_kept same [] k n = refl
    flag_kept same (o ∷ os) zero zero = same o
    flag_kept same (o ∷ os) zero (suc n) = refl
    flag_kept same (o ∷ os) (suc k) zero = refl
    flag_kept same (o ∷ os) (suc k) (suc n) = flag_kept same os k n

    -- one that is there gets it
    flag_set : ((o : OwnerOffer) → flag (Some (f o)) ≡ true) → (os : List OwnerOffer) (k n : ℕ) → IsSome (slice_get os k)
        → flag (slice_get (altered os k f) n) ≡ (flag (slice_get os n) || nat_eq k n)
    flag_set gets [] k n some = let no : false ≡ true = some in absurd (cc)
    flag_set gets (o ∷ os) zero zero some = gets o ∙ sym (or-true (flag (Some o)))
    flag_set gets (o ∷ os) zero (suc n) some = sym (or-false (flag (slice_get os n))) ∙ ap (λ b. flag (slice_get os n) || b) (sym (eqb-zero-suc n))
    flag_set gets (o ∷ os) (suc k) zero some = sym (or-false (flag (Some o))) ∙ ap (λ b. flag (Some o) || b) (sym (eqb-suc-zero k))
    flag_set gets (o ∷ os) (suc k) (suc n) some = flag_set gets os k n some ∙ ap (λ b. flag (slice_get os n) || b) (sym (eqb-suc-suc k n))

open_is_there : (o : Option OwnerOffer) → may_withdraw o ≡ true → IsSome o
open_is_there None h = h
open_is_there (Some o) h = refl

free_is_there : (o : Option OwnerOffer) → may_free o ≡ true → IsSome o
free_is_there None h = h
free_is_there (Some o) h = refl

free_parts : (o : Option OwnerOffer) → may_free o ≡ true → (was_withdrawn o ≡ true) × (is_known o ≡ false)
free_parts None h = let no : false ≡ true = h in absurd (cc)
free_parts (Some o) h = let both = and_parts (is_some o.withdrawn) (is_none o.known) h in (both.0, unknown o.known both.1)
  where
    unknown : (k : Option ℕ) → is_none k ≡ true → is_some k ≡ false
    unknown None h = refl
    unknown (Some k) h = let no : false ≡ true = h in absurd (cc)

neither : (a b : Bool) → a ≡ false → b ≡ false → (a || b) ≡ false
neither a b p q = ap (λ z. z || b) p ∙ q

-- one whose room is to come back was withdrawn
free_is_closed : (o : Option OwnerOffer) → may_free o ≡ true → may_withdraw o ≡ false
free_is_closed None h = refl
free_is_closed (Some o) h = go o.withdrawn h
  where
    go : (w : Option ℕ) → (is_some w && is_none o.known) ≡ true → (is_none w && is_none o.known) ≡ false
    go None h = let no : false ≡ true = h in absurd (cc)
    go (Some s) h = refl

-- ---- one entry

-- an offer has the next number
pub next_by : (terms : Terms) (os : List OwnerOffer) (l n : ℕ) (payload : Payload) → owner_fits terms os (Offer l n payload) ≡ true → n ≡ length os
next_by terms os l n payload fits =
    let both = and_parts (n == length os && nat_lt (length os - owner_lead os) terms.capacity) (is_payload terms.requests payload) fits in
    eqb-true n (length os) (and_parts (n == length os) (nat_lt (length os - owner_lead os) terms.capacity) both.0).0

-- the event is about the link
pub on_it : (l k : ℕ) (b : Bool) → nat_eq k l ≡ true → (nat_eq k l && b) ≡ b
on_it l k b h = ap (λ z. z && b) h

module _ (terms : Terms) (l : ℕ) (os : List OwnerOffer) (s of : ℕ) where
  abbrev after : Event → List OwnerOffer
  after v = owner_after os s of v

  -- an offer opens one, and its end closes it
  step_open : (n : ℕ) (v : Event) → nat_eq (link_of v) l ≡ true → owner_fits terms os v ≡ true → open_at (after v) n + one_if (is_end_of l n v) ≡ open_at os n + one_if (is_offer_of l n v)
  step_open n (Offer k j payload) h fits =
      let next = next_by terms os k j payload fits in
      let p = open_pushed os (owner_offer payload s) n refl in
      let q : one_if (nat_eq k l && nat_eq j n) ≡ one_if (nat_eq (length os) n) = ap one_if (on_it l k (nat_eq j n) h) ∙ ap (λ z. one_if (nat_eq z n)) next in
      omega (arith, p, q)
  step_open n (Withdraw k j) h fits =
      let p = open_ended (withdrawn_at s) (λ o. refl) os j n fits in
      let q : one_if (nat_eq k l && nat_eq j n) ≡ one_if (nat_eq j n) = ap one_if (on_it l k (nat_eq j n) h) in
      omega (arith, p, q)
  step_open n (Know k j) h fits =
      let p = open_ended (known_at of) (known_ends of) os j n fits in
      let q : one_if (nat_eq k l && nat_eq j n) ≡ one_if (nat_eq j n) = ap one_if (on_it l k (nat_eq j n) h) in
      omega (arith, p, q)
  step_open n (Room k j) h fits =
      let p = open_closed (known_at of) (known_ends of) os j n (free_is_closed (slice_get os j) fits) in
      omega (arith, p)
  step_open n (Reply k j answer) h fits =
      let p = open_same (replied_with answer of) (λ o. refl) os j n in
      omega (arith, p)
  step_open n (Got k j value) h fits = let no : false ≡ true = fits in absurd (cc)
  step_open n (Pass k j) h fits = let no : false ≡ true = fits in absurd (cc)
  step_open n (Did k j answer) h fits = let no : false ≡ true = fits in absurd (cc)

  step_length : (v : Event) → nat_eq (link_of v) l ≡ true → owner_fits terms os v ≡ true → length (after v) ≡ length os + one_if (is_offer l v)
  step_length (Offer k j payload) h fits =
      let p = length-append os (owner_offer payload s ∷ []) in
      let q : one_if (nat_eq k l) ≡ 1 = ap one_if h in
      omega (arith, p, q)
  step_length (Withdraw k j) h fits = let p = length_altered (withdrawn_at s) os j in omega (arith, p)
  step_length (Know k j) h fits = let p = length_altered (known_at of) os j in omega (arith, p)
  step_length (Room k j) h fits = let p = length_altered (known_at of) os j in omega (arith, p)
  step_length (Reply k j answer) h fits = let p = length_altered (replied_with answer of) os j in omega (arith, p)
  step_length (Got k j value) h fits = let no : false ≡ true = fits in absurd (cc)
  step_length (Pass k j) h fits = let no : false ≡ true = fits in absurd (cc)
  step_length (Did k j answer) h fits = let no : false ≡ true = fits in absurd (cc)

  -- it is withdrawn by a withdrawal alone
  step_withdrawn : (n : ℕ) (v : Event) → nat_eq (link_of v) l ≡ true → owner_fits terms os v ≡ true
      → was_withdrawn (slice_get (after v) n) ≡ (was_withdrawn (slice_get os n) || is_withdrawal l n v)
  step_withdrawn n (Offer k j payload) h fits = flag_pushed was_withdrawn refl os (owner_offer payload s) refl n ∙ sym (or-false (was_withdrawn (slice_get os n)))
  step_withdrawn n (Withdraw k j) h fits =
      flag_set was_withdrawn (withdrawn_at s) (λ o. refl) os j n (open_is_there (slice_get os j) fits)
      ∙ ap (λ b. was_withdrawn (slice_get os n) || b) (sym (on_it l k (nat_eq j n) h))
  step_withdrawn n (Know k j) h fits = flag_kept was_withdrawn (known_at of) (λ o. refl) os j n ∙ sym (or-false (was_withdrawn (slice_get os n)))
  step_withdrawn n (Room k j) h fits = flag_kept was_withdrawn (known_at of) (λ o. refl) os j n ∙ sym (or-false (was_withdrawn (slice_get os n)))
  step_withdrawn n (Reply k j answer) h fits = flag_kept was_withdrawn (replied_with answer of) (λ o. refl) os j n ∙ sym (or-false (was_withdrawn (slice_get os n)))
  step_withdrawn n (Got k j value) h fits = let no : false ≡ true = fits in absurd (cc)
  step_withdrawn n (Pass k j) h fits = let no : false ≡ true = fits in absurd (cc)
  step_withdrawn n (Did k j answer) h fits = let no : false ≡ true = fits in absurd (cc)

  -- where its decision is not known now, it was not known before, and its room was not given back
  step_unknown : (n : ℕ) (v : Event) → nat_eq (link_of v) l ≡ true → owner_fits terms os v ≡ true → is_known (slice_get (after v) n) ≡ false
      → (is_known (slice_get os n) ≡ false) × (is_room l n v ≡ false)
  step_unknown n (Offer k j payload) h fits un = (sym (flag_pushed is_known refl os (owner_offer payload s) refl n) ∙ un, refl)
  step_unknown n (Withdraw k j) h fits un = (sym (flag_kept is_known (withdrawn_at s) (λ o. refl) os j n) ∙ un, refl)
  step_unknown n (Know k j) h fits un =
      ((or_parts (is_known (slice_get os n)) (nat_eq j n) (sym (flag_set is_known (known_at of) (λ o. refl) os j n (open_is_there (slice_get os j) fits)) ∙ un)).0, refl)
  step_unknown n (Room k j) h fits un =
      let both = or_parts (is_known (slice_get os n)) (nat_eq j n) (sym (flag_set is_known (known_at of) (λ o. refl) os j n (free_is_there (slice_get os j) fits)) ∙ un) in
      (both.0, on_it l k (nat_eq j n) h ∙ both.1)
  step_unknown n (Reply k j answer) h fits un = (sym (flag_kept is_known (replied_with answer of) (λ o. refl) os j n) ∙ un, refl)
  step_unknown n (Got k j value) h fits un = let no : false ≡ true = fits in absurd (cc)
  step_unknown n (Pass k j) h fits un = let no : false ≡ true = fits in absurd (cc)
  step_unknown n (Did k j answer) h fits un = let no : false ≡ true = fits in absurd (cc)

-- ---- entries of other links

other_end : (l n : ℕ) (v : Event) → nat_eq (link_of v) l ≡ false → one_if (is_end_of l n v) ≡ 0
other_end l n (Know k j) h = ap (λ z. one_if (z && nat_eq j n)) h
other_end l n (Withdraw k j) h = ap (λ z. one_if (z && nat_eq j n)) h
other_end l n v h = refl

other_offer : (l n : ℕ) (v : Event) → nat_eq (link_of v) l ≡ false → one_if (is_offer_of l n v) ≡ 0
other_offer l n (Offer k j payload) h = ap (λ z. one_if (z && nat_eq j n)) h
other_offer l n v h = refl

other_withdrawal : (l n : ℕ) (v : Event) → nat_eq (link_of v) l ≡ false → is_withdrawal l n v ≡ false
other_withdrawal l n (Withdraw k j) h = ap (λ z. z && nat_eq j n) h
other_withdrawal l n v h = refl

other_room : (l n : ℕ) (v : Event) → nat_eq (link_of v) l ≡ false → is_room l n v ≡ false
other_room l n (Room k j) h = ap (λ z. z && nat_eq j n) h
other_room l n v h = refl

no_offer : (l : ℕ) (v : Event) → nat_eq (link_of v) l ≡ false → is_offer l v ≡ false
no_offer l (Offer k j payload) h = h
no_offer l v h = refl

counts_more : (l : ℕ) (e : Entry) (es : List Entry) → offers_on l (e ∷ es) ≡ one_if (is_offer l e.event) + offers_on l es
counts_more l e es = go (is_offer l e.event)
  where
    go : (b : Bool) → (if b then 1 + offers_on l es else offers_on l es) ≡ one_if b + offers_on l es
    go true = refl
    go false = omega arith

-- ---- a journal

abbrev pub withdrawals : ℕ → ℕ → List Entry → Bool
withdrawals l n j = list_any (λ (e : Entry). is_withdrawal l n e.event) j

abbrev pub rooms : ℕ → ℕ → List Entry → Bool
rooms l n j = list_any (λ (e : Entry). is_room l n e.event) j

module _ (terms : Terms) (mine : Event → ℕ) (p l : ℕ) (end : List OwnerOffer) where
  abbrev Runs : List OwnerOffer → List Entry → Type 0
  Runs os j = OwnerRuns terms mine os (filter (is_of_link l) (of_party p j)) end

  abbrev stamped : Entry → Stamped
  stamped e = record { party = p; entry = e }

  abbrev RunsBy : Bool → List OwnerOffer → Entry → List Entry → Type 0
  RunsBy b os e j = OwnerRuns terms mine os (cond b (stamped e ∷ filter (is_of_link l) (of_party p j)) (filter (is_of_link l) (of_party p j))) end

  abbrev OpenBy : ℕ → List Entry → Type 0
  OpenBy n j = (os : List OwnerOffer) → Runs os j → open_at end n + ends_of l n j ≡ open_at os n + offers_of l n j

  open_more : (n : ℕ) (e : Entry) (j : List Entry) (os : List OwnerOffer) → OpenBy n j → (b : Bool) → nat_eq (link_of e.event) l ≡ b → RunsBy b os e j
      → open_at end n + ends_of l n (e ∷ j) ≡ open_at os n + offers_of l n (e ∷ j)
  open_more n e j os rest true h q =
      let later = rest (owner_after os e.stamp (mine e.event) e.event) q.2 in
      let now = step_open terms l os e.stamp (mine e.event) n e.event h q.0 in
      omega (arith, later, now)
  open_more n e j os rest false h q =
      let later = rest os q in
      let a = other_end l n e.event h in
      let b = other_offer l n e.event h in
      omega (arith, later, a, b)

  pub runs_open : (n : ℕ) (j : List Entry) (os : List OwnerOffer) → Runs os j → open_at end n + ends_of l n j ≡ open_at os n + offers_of l n j
  runs_open n [] os r = let e : open_at end n ≡ open_at os n = ap (λ z. open_at z n) r in omega (arith, e)
  runs_open n (e ∷ j) os r = open_more n e j os (runs_open n j) (nat_eq (link_of e.event) l) refl r

  abbrev LongBy : List Entry → Type 0
  LongBy j = (os : List OwnerOffer) → Runs os j → length end ≡ length os + offers_on l j

  length_more : (e : Entry) (j : List Entry) (os : List OwnerOffer) → LongBy j → (b : Bool) → nat_eq (link_of e.event) l ≡ b → RunsBy b os e j → length end ≡ length os + offers_on l (e ∷ j)
  length_more e j os rest true h q =
      let later = rest (owner_after os e.stamp (mine e.event) e.event) q.2 in
      let now = step_length terms l os e.stamp (mine e.event) e.event h q.0 in
      let all = counts_more l e j in
      omega (arith, later, now, all)
  length_more e j os rest false h q =
      let later = rest os q in
      let none : one_if (is_offer l e.event) ≡ 0 = ap one_if (no_offer l e.event h) in
      let all = counts_more l e j in
      omega (arith, later, none, all)

  pub runs_length : (j : List Entry) (os : List OwnerOffer) → Runs os j → length end ≡ length os + offers_on l j
  runs_length [] os r = let e : length end ≡ length os = ap length r in omega (arith, e)
  runs_length (e ∷ j) os r = length_more e j os (runs_length j) (nat_eq (link_of e.event) l) refl r

  abbrev WithdrawnBy : ℕ → List Entry → Type 0
  WithdrawnBy n j = (os : List OwnerOffer) → Runs os j → was_withdrawn (slice_get end n) ≡ (was_withdrawn (slice_get os n) || withdrawals l n j)

  withdrawn_more : (n : ℕ) (e : Entry) (j : List Entry) (os : List OwnerOffer) → WithdrawnBy n j → (b : Bool) → nat_eq (link_of e.event) l ≡ b → RunsBy b os e j
      → was_withdrawn (slice_get end n) ≡ (was_withdrawn (slice_get os n) || withdrawals l n (e ∷ j))
  withdrawn_more n e j os rest true h q =
      rest (owner_after os e.stamp (mine e.event) e.event) q.2 ∙ ap (λ b. b || withdrawals l n j) (step_withdrawn terms l os e.stamp (mine e.event) n e.event h q.0)
      ∙ or_assoc (was_withdrawn (slice_get os n)) (is_withdrawal l n e.event) (withdrawals l n j)
  withdrawn_more n e j os rest false h q = rest os q ∙ ap (λ b. was_withdrawn (slice_get os n) || (b || withdrawals l n j)) (sym (other_withdrawal l n e.event h))

  runs_withdrawn : (n : ℕ) (j : List Entry) → WithdrawnBy n j
  runs_withdrawn n [] os r = ap (λ (z : List OwnerOffer). was_withdrawn (slice_get z n)) r ∙ sym (or-false (was_withdrawn (slice_get os n)))
  runs_withdrawn n (e ∷ j) os r = withdrawn_more n e j os (runs_withdrawn n j) (nat_eq (link_of e.event) l) refl r

  abbrev UnknownBy : ℕ → List Entry → Type 0
  UnknownBy n j = (os : List OwnerOffer) → Runs os j → (is_known (slice_get os n) ≡ false) × (rooms l n j ≡ false)

  unknown_more : (n : ℕ) (e : Entry) (j : List Entry) (os : List OwnerOffer) → UnknownBy n j → (b : Bool) → nat_eq (link_of e.event) l ≡ b → RunsBy b os e j
      → (is_known (slice_get os n) ≡ false) × (rooms l n (e ∷ j) ≡ false)
  unknown_more n e j os rest true h q =
      let later = rest (owner_after os e.stamp (mine e.event) e.event) q.2 in
      let now = step_unknown terms l os e.stamp (mine e.event) n e.event h q.0 later.0 in
      (now.0, neither (is_room l n e.event) (rooms l n j) now.1 later.1)
  unknown_more n e j os rest false h q = let later = rest os q in (later.0, neither (is_room l n e.event) (rooms l n j) (other_room l n e.event h) later.1)

  runs_unknown : (n : ℕ) → is_known (slice_get end n) ≡ false → (j : List Entry) → UnknownBy n j
  runs_unknown n un [] os r = (ap (λ (z : List OwnerOffer). is_known (slice_get z n)) (sym r) ∙ un, refl)
  runs_unknown n un (e ∷ j) os r = unknown_more n e j os (runs_unknown n un j) (nat_eq (link_of e.event) l) refl r

  -- an offer whose room may come back was withdrawn, and keeps its room
  pub runs_free : (n : ℕ) (j : List Entry) → Runs [] j → may_free (slice_get end n) ≡ true → keeps_room l n j ≡ true
  runs_free n j r free =
      let parts = free_parts (slice_get end n) free in
      let withdrawn : withdrawals l n j ≡ true = sym (runs_withdrawn n j [] r) ∙ parts.0 in
      let room : rooms l n j ≡ false = (runs_unknown n parts.1 j [] r).1 in
      ap (λ b. b && not (rooms l n j)) withdrawn ∙ ap not room

-- ---- a link on which the core does not send

module _ (p l n : ℕ) where
  abbrev NoneIn : List Entry → Type 0
  NoneIn j = offers_of l n j ≡ 0

  none_more : (e : Entry) (j : List Entry) → one_if (is_offer_of l n e.event) ≡ 0 → NoneIn j → NoneIn (e ∷ j)
  none_more e j a b = omega (arith, a, b)

  abbrev part : List Entry → List Stamped
  part j = filter (is_of_link l) (of_party p j)

  -- the link has no entries
  pub absent_offers : (j : List Entry) → part j ≡ [] → NoneIn j
  absent_offers [] h = refl
  absent_offers (e ∷ j) h = by (nat_eq (link_of e.event) l) refl h (absent_offers j)
    where
      by : (b : Bool) → nat_eq (link_of e.event) l ≡ b → cond b (record { party = p; entry = e } ∷ part j) (part j) ≡ [] → (part j ≡ [] → NoneIn j) → NoneIn (e ∷ j)
      by true at h later = let no : record { party = p; entry = e } ∷ part j ≡ [] = h in absurd (cc)
      by false at h later = none_more e j (other_offer l n e.event at) (later h)

  peer_offers_none : (terms : Terms) (ds : List PeerDecision) (v : Event) → peer_fits terms ds v ≡ true → one_if (is_offer_of l n v) ≡ 0
  peer_offers_none terms ds (Offer k j payload) h = let no : false ≡ true = h in absurd (cc)
  peer_offers_none terms ds v h = refl

  -- it receives on it
  pub peer_offers : (terms : Terms) (mine : Event → ℕ) (end : List PeerDecision) (j : List Entry) (ds : List PeerDecision) → PeerRuns terms mine ds (part j) end → NoneIn j
  peer_offers terms mine end [] ds r = refl
  peer_offers terms mine end (e ∷ j) ds r = by (nat_eq (link_of e.event) l) refl r (peer_offers terms mine end j)
    where
      by : (b : Bool) → nat_eq (link_of e.event) l ≡ b → PeerRuns terms mine ds (cond b (record { party = p; entry = e } ∷ part j) (part j)) end
          → ((ds : List PeerDecision) → PeerRuns terms mine ds (part j) end → NoneIn j) → NoneIn (e ∷ j)
      by true at r later = none_more e j (peer_offers_none terms ds e.event r.0) (later (ds ++ decision_of e.stamp (mine e.event) e.event ∷ []) r.2)
      by false at r later = none_more e j (other_offer l n e.event at) (later ds r)

-- ---- one that stands is found

found_here : (test : Operation → Bool) (o : Operation) (os : List Operation) (k : ℕ) → ((k : ℕ) → total (λ (o : Operation). one_if (test o)) os ≡ suc k → IsSome (find test os)) → (b : Bool)
    → test o ≡ b
    → total (λ (o : Operation). one_if (test o)) (o ∷ os) ≡ suc k → IsSome (cond b (Some o) (find test os))
found_here test o os k rest true e h = refl
found_here test o os k rest false e h = rest k (let z : one_if (test o) ≡ 0 = ap one_if e in omega (arith, z, h))

pub found_one : (test : Operation → Bool) (os : List Operation) (k : ℕ) → total (λ (o : Operation). one_if (test o)) os ≡ suc k → IsSome (find test os)
found_one test [] k h = let no : ◌≡◌ {A = ℕ} 0 (suc k) = h in absurd (omega (arith, no))
found_one test (o ∷ os) k h = found_here test o os k (found_one test os) (test o) refl h
