-- What the end of a core's requests tells of its journal: which of them were taken, and which have their answers.
use Rattle.std.proofs.Common.{◌≡◌, ℕ, zero, suc, ◌+◌, List, [], ◌∷◌, Option, Some, None, IsSome, Bool, true, false, cond, refl, sym, ap, ◌∙◌, arith}
use Rattle.std.specs.Prelude.{is_some, is_none, nat_eq, not, ◌&&◌, ◌||◌, slice_get, if◌then◌else◌}
use Rattle.std.specs.List.{filter}
use Rattle.std.proofs.Math.Dec.{eqb-suc-suc, eqb-suc-zero, eqb-zero-suc}
use Rattle.std.proofs.lemmas.Bool.{and_parts}
use Rattle.ac_base.specs.declared.entry.Entry.{Entry}
use Rattle.ac_base.specs.declared.entry.Event.{Event}
use Rattle.ac_base.specs.declared.entry.Event.TheVariants.{Offer, Withdraw, Know, Room, Got, Pass, Did, Reply}
use Rattle.ac_base.specs.declared.entry.Stamped.{Stamped}
use Rattle.ac_links.specs.declared.payloads.Terms.{Terms}
use Rattle.ac_links.specs.Link.{link_of}
use Rattle.ac_links.specs.Order.{of_party, is_of_link}
use Rattle.ac_links.specs.Replies.{least_open}
use Rattle.ac_links.specs.Views.{OwnerOffer, Response, altered, known_at, may_free, may_reply, may_withdraw, owner_after, owner_fits, owner_offer, replied_with, withdrawn_at, OwnerRuns}
use Rattle.code_safety.specs.Fit.{one_if, total}
use Rattle.core_machine.specs.Tracks.{is_know_of, is_reply_of, knows_of, replies_of}
use Rattle.core_ports.specs.Ends.{is_known}
use Rattle.core_driver.proofs.Opened.{flag_kept, flag_pushed, on_it}

-- ---- one offer, as its owner knows it

-- it is known to be taken
abbrev pub is_taken : Option OwnerOffer → Bool
is_taken None = false
is_taken (Some o) = is_none o.withdrawn && is_some o.known

-- its answer has come
abbrev pub is_replied : Option OwnerOffer → Bool
is_replied None = false
is_replied (Some o) = is_some o.reply

-- it is neither withdrawn nor replied
abbrev pub is_open : Option OwnerOffer → Bool
is_open None = false
is_open (Some o) = not (is_some o.withdrawn || is_some o.reply)

none_is : {A : Type 0} (o : Option A) → is_none o ≡ true → is_some o ≡ false
none_is None h = refl
none_is (Some x) h = let no : false ≡ true = h in absurd (cc)

and_none : (b : Bool) → (b && false) ≡ false
and_none true = refl
and_none false = refl

-- ---- changes of one offer

module _ (flag : Option OwnerOffer → Bool) (f : OwnerOffer → OwnerOffer) where
  -- where the one that is changed has it as before
  flag_at : (os : List OwnerOffer) (k n : ℕ) → ((o : OwnerOffer) → slice_get os k ≡ Some o → flag (Some (f o)) ≡ flag (Some o)) → flag (slice_get (altered os k f) n) ≡ flag (slice_get os n)
  flag_at [] k n h = refl
  flag_at (o ∷ os) zero zero h = h o refl
  flag_at (o ∷ os) zero (suc n) h = refl
  flag_at (o ∷ os) (suc k) zero h = refl
  flag_at (o ∷ os) (suc k) (suc n) h = flag_at os k n h

  -- where it had it not, and has it now
  flag_gains : (os : List OwnerOffer) (k n : ℕ) → ((o : OwnerOffer) → slice_get os k ≡ Some o → flag (Some (f o)) ≡ true) → IsSome (slice_get os k) → flag (slice_get os k) ≡ false
      → one_if (flag (slice_get (altered os k f) n)) ≡ one_if (flag (slice_get os n)) + one_if (nat_eq k n)
  flag_gains [] k n h some was = let no : false ≡ true = some in absurd (cc)
  flag_gains (o ∷ os) zero zero h some was = let a = ap one_if (h o refl) in let b : one_if (flag (Some o)) ≡ 0 = ap one_if was in omega (arith, a, b)
  flag_gains (o ∷ os) zero (suc n) h some was = let e : one_if (nat_eq zero (suc n)) ≡ 0 = ap one_if (eqb-zero-suc n) in omega (arith, e)
  flag_gains (o ∷ os) (suc k) zero h some was = let e : one_if (nat_eq (suc k) zero) ≡ 0 = ap one_if (eqb-suc-zero k) in omega (arith, e)
  flag_gains (o ∷ os) (suc k) (suc n) h some was =
      let e : one_if (nat_eq (suc k) (suc n)) ≡ one_if (nat_eq k n) = ap one_if (eqb-suc-suc k n) in
      let i = flag_gains os k n h some was in
      omega (arith, e, i)

-- ---- one entry

there_open : (o : Option OwnerOffer) → may_withdraw o ≡ true → IsSome o
there_open None h = h
there_open (Some o) h = refl

there_reply : (o : Option OwnerOffer) → may_reply o ≡ true → IsSome o
there_reply None h = h
there_reply (Some o) h = refl

pub open_untaken : (o : Option OwnerOffer) → may_withdraw o ≡ true → is_taken o ≡ false
open_untaken None h = refl
open_untaken (Some o) h =
    let both = and_parts (is_none o.withdrawn) (is_none o.known) h in
    ap (λ b. is_none o.withdrawn && b) (none_is o.known both.1) ∙ and_none (is_none o.withdrawn)

open_unreplied : (o : Option OwnerOffer) → may_reply o ≡ true → is_replied o ≡ false
open_unreplied None h = refl
open_unreplied (Some o) h = none_is o.reply (and_parts (is_none o.withdrawn) (is_none o.reply) h).1

module _ (terms : Terms) (l n : ℕ) (os : List OwnerOffer) (s of : ℕ) where
  abbrev after : Event → List OwnerOffer
  after v = owner_after os s of v

  abbrev same : (flag : Option OwnerOffer → Bool) (new : List OwnerOffer) → Type 0
  same flag new = one_if (flag (slice_get new n)) ≡ one_if (flag (slice_get os n)) + 0

  no_more : (flag : Option OwnerOffer → Bool) (new : List OwnerOffer) → flag (slice_get new n) ≡ flag (slice_get os n) → same flag new
  no_more flag new e = let a = ap one_if e in omega (arith, a)

  -- a request is taken by the entry by which its owner knows it
  step_taken : (v : Event) → nat_eq (link_of v) l ≡ true → owner_fits terms os v ≡ true → one_if (is_taken (slice_get (after v) n)) ≡ one_if (is_taken (slice_get os n)) + one_if (is_know_of l n v)
  step_taken (Offer k j payload) h fits = no_more is_taken (after (Offer k j payload)) (flag_pushed is_taken refl os (owner_offer payload s) refl n)
  step_taken (Withdraw k j) h fits = no_more is_taken (after (Withdraw k j)) (flag_at is_taken (withdrawn_at s) os j n
      (λ o at. sym (open_untaken (Some o) (sym (ap may_withdraw at) ∙ fits))))
  step_taken (Know k j) h fits =
      let gains = flag_gains is_taken (known_at of) os j n
      (λ o at. ap (λ b. b && true) (and_parts (is_none o.withdrawn) (is_none o.known) (sym (ap may_withdraw at) ∙ fits)).0)
      (there_open (slice_get os j) fits) (open_untaken (slice_get os j) fits) in
      let q : one_if (nat_eq k l && nat_eq j n) ≡ one_if (nat_eq j n) = ap one_if (on_it l k (nat_eq j n) h) in
      omega (arith, gains, q)
  step_taken (Room k j) h fits = no_more is_taken (after (Room k j)) (flag_at is_taken (known_at of) os j n
      (λ o at. freed o (sym (ap may_free at) ∙ fits)))
    where
      freed : (o : OwnerOffer) → may_free (Some o) ≡ true → is_taken (Some (known_at of o)) ≡ is_taken (Some o)
      freed o f =
          let both = and_parts (is_some o.withdrawn) (is_none o.known) f in
          let gone = withdrawn_no o.withdrawn both.0 in
          ap (λ b. b && true) gone ∙ sym (ap (λ b. b && is_some o.known) gone)
        where
          withdrawn_no : (w : Option ℕ) → is_some w ≡ true → is_none w ≡ false
          withdrawn_no None h = let no : false ≡ true = h in absurd (cc)
          withdrawn_no (Some w) h = refl
  step_taken (Reply k j answer) h fits = no_more is_taken (after (Reply k j answer)) (flag_kept is_taken (replied_with answer of) (λ o. refl) os j n)
  step_taken (Got k j value) h fits = let no : false ≡ true = fits in absurd (cc)
  step_taken (Pass k j) h fits = let no : false ≡ true = fits in absurd (cc)
  step_taken (Did k j answer) h fits = let no : false ≡ true = fits in absurd (cc)

  -- and has its answer by a reply
  step_replied : (v : Event) → nat_eq (link_of v) l ≡ true → owner_fits terms os v ≡ true
      → one_if (is_replied (slice_get (after v) n)) ≡ one_if (is_replied (slice_get os n)) + one_if (is_reply_of l n v)
  step_replied (Offer k j payload) h fits = no_more is_replied (after (Offer k j payload)) (flag_pushed is_replied refl os (owner_offer payload s) refl n)
  step_replied (Withdraw k j) h fits = no_more is_replied (after (Withdraw k j)) (flag_kept is_replied (withdrawn_at s) (λ o. refl) os j n)
  step_replied (Know k j) h fits = no_more is_replied (after (Know k j)) (flag_kept is_replied (known_at of) (λ o. refl) os j n)
  step_replied (Room k j) h fits = no_more is_replied (after (Room k j)) (flag_kept is_replied (known_at of) (λ o. refl) os j n)
  step_replied (Reply k j answer) h fits =
      let gains = flag_gains is_replied (replied_with answer of) os j n (λ o at. refl) (there_reply (slice_get os j) fits) (open_unreplied (slice_get os j) fits) in
      let q : one_if (nat_eq k l && nat_eq j n) ≡ one_if (nat_eq j n) = ap one_if (on_it l k (nat_eq j n) h) in
      omega (arith, gains, q)
  step_replied (Got k j value) h fits = let no : false ≡ true = fits in absurd (cc)
  step_replied (Pass k j) h fits = let no : false ≡ true = fits in absurd (cc)
  step_replied (Did k j answer) h fits = let no : false ≡ true = fits in absurd (cc)

other_know : (l n : ℕ) (v : Event) → nat_eq (link_of v) l ≡ false → one_if (is_know_of l n v) ≡ 0
other_know l n (Know k j) h = ap (λ z. one_if (z && nat_eq j n)) h
other_know l n v h = refl

other_reply : (l n : ℕ) (v : Event) → nat_eq (link_of v) l ≡ false → one_if (is_reply_of l n v) ≡ 0
other_reply l n (Reply k j answer) h = ap (λ z. one_if (z && nat_eq j n)) h
other_reply l n v h = refl

-- ---- a journal

module _ (terms : Terms) (mine : Event → ℕ) (p l : ℕ) (end : List OwnerOffer) where
  abbrev Runs : List OwnerOffer → List Entry → Type 0
  Runs os j = OwnerRuns terms mine os (filter (is_of_link l) (of_party p j)) end

  abbrev stamped : Entry → Stamped
  stamped e = record { party = p; entry = e }

  abbrev RunsBy : Bool → List OwnerOffer → Entry → List Entry → Type 0
  RunsBy b os e j = OwnerRuns terms mine os (cond b (stamped e ∷ filter (is_of_link l) (of_party p j)) (filter (is_of_link l) (of_party p j))) end

  -- a property that an entry of the link adds to one offer
  module _ (n : ℕ) (flag : Option OwnerOffer → Bool) (told : Event → Bool)
      (step : (os : List OwnerOffer) (s of : ℕ) (v : Event) → nat_eq (link_of v) l ≡ true → owner_fits terms os v ≡ true
      → one_if (flag (slice_get (owner_after os s of v) n)) ≡ one_if (flag (slice_get os n)) + one_if (told v))
      (other : (v : Event) → nat_eq (link_of v) l ≡ false → one_if (told v) ≡ 0) where
    abbrev counted : List Entry → ℕ
    counted j = total (λ (e : Entry). one_if (told e.event)) j

    abbrev By : List Entry → Type 0
    By j = (os : List OwnerOffer) → Runs os j → one_if (flag (slice_get end n)) ≡ one_if (flag (slice_get os n)) + counted j

    by_more : (e : Entry) (j : List Entry) (os : List OwnerOffer) → By j → (b : Bool) → nat_eq (link_of e.event) l ≡ b → RunsBy b os e j
        → one_if (flag (slice_get end n)) ≡ one_if (flag (slice_get os n)) + counted (e ∷ j)
    by_more e j os rest true h q =
        let later = rest (owner_after os e.stamp (mine e.event) e.event) q.2 in
        let now = step os e.stamp (mine e.event) e.event h q.0 in
        omega (arith, later, now)
    by_more e j os rest false h q =
        let later = rest os q in
        let none = other e.event h in
        omega (arith, later, none)

    runs_by : (j : List Entry) → By j
    runs_by [] os r = let e : one_if (flag (slice_get end n)) ≡ one_if (flag (slice_get os n)) = ap (λ (z : List OwnerOffer). one_if (flag (slice_get z n))) r in omega (arith, e)
    runs_by (e ∷ j) os r = by_more e j os (runs_by j) (nat_eq (link_of e.event) l) refl r

  pub runs_taken : (n : ℕ) (j : List Entry) → Runs [] j → one_if (is_taken (slice_get end n)) ≡ knows_of l n j
  runs_taken n j r = let all = runs_by n is_taken (is_know_of l n) (λ os s of v h fits. step_taken terms l n os s of v h fits) (other_know l n) j [] r in omega (arith, all)

  pub runs_replied : (n : ℕ) (j : List Entry) → Runs [] j → one_if (is_replied (slice_get end n)) ≡ replies_of l n j
  runs_replied n j r = let all = runs_by n is_replied (is_reply_of l n) (λ os s of v h fits. step_replied terms l n os s of v h fits) (other_reply l n) j [] r in omega (arith, all)

-- ---- the least that is open

pub least_is_open : (os : List OwnerOffer) → IsSome (slice_get os (least_open os)) → is_open (slice_get os (least_open os)) ≡ true
least_is_open [] h = let no : false ≡ true = h in absurd (cc)
least_is_open (o ∷ os) h = by (least_is_open os) (is_some o.withdrawn || is_some o.reply) refl h
  where
    by : (IsSome (slice_get os (least_open os)) → is_open (slice_get os (least_open os)) ≡ true) → (b : Bool) → (is_some o.withdrawn || is_some o.reply) ≡ b
        → IsSome (slice_get (o ∷ os) (if b then suc (least_open os) else 0)) → is_open (slice_get (o ∷ os) (if b then suc (least_open os) else 0)) ≡ true
    by later true e some = later some
    by later false e some = ap not e

pub known_is_there : (o : Option OwnerOffer) → is_known o ≡ true → IsSome o
known_is_there None h = h
known_is_there (Some o) h = refl

-- ---- what is known of one that is open

pub open_parts : (o : Option OwnerOffer) → is_open o ≡ true → (may_withdraw o ≡ not (is_known o)) × (is_taken o ≡ is_known o) × (is_replied o ≡ false)
open_parts None h = let no : false ≡ true = h in absurd (cc)
open_parts (Some o) h = by o.withdrawn o.reply h
  where
    known : (k : Option ℕ) → is_none k ≡ not (is_some k)
    known None = refl
    known (Some k) = refl

    by : (w : Option ℕ) (r : Option Response) → not (is_some w || is_some r) ≡ true
        → ((is_none w && is_none o.known) ≡ not (is_some o.known)) × ((is_none w && is_some o.known) ≡ is_some o.known) × (is_some r ≡ false)
    by None None e = (known o.known, refl, refl)
    by None (Some r) e = let no : false ≡ true = e in absurd (cc)
    by (Some w) r e = let no : false ≡ true = e in absurd (cc)
