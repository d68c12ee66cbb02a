-- What one entry of a link makes of the offers and of their marks.
-- An offer goes up a ladder: offered, withdrawn, taken, passed. An entry that brings it to a rung (`gives`) finds it on a lower one, and one
-- that answers finds it on the rung to which the answered entry brought it (`wants`). So no two entries bring one offer to the same rung.
use Rattle.std.proofs.Common.{◌≡◌, ℕ, zero, suc, ◌-◌, ◌<◌, List, [], ◌∷◌, ◌++◌, length, Option, Some, None, Bool, true, false, refl, sym, ap, ◌∙◌, subst, arith, get_or}
use Rattle.std.specs.Prelude.{◌==◌, ◌&&◌, not, slice_get, slice_set, is_some, nat_lt}
use Rattle.std.proofs.lemmas.Bool.{and_parts, eqb-true}
use Rattle.std.proofs.lemmas.Option.{slice_get_within, slice_get_past}
use Rattle.std.proofs.lemmas.List.{get_or-set_same, get_or-set_other, length-set}
use Rattle.ac_base.specs.declared.entry.Payload.{Payload}
use Rattle.ac_base.specs.declared.entry.Answer.{Answer}
use Rattle.ac_base.specs.declared.entry.Event.{Event}
use Rattle.ac_base.specs.declared.entry.Event.TheVariants.{Offer, Withdraw, Know, Room, Got, Pass, Did, Reply}
use Rattle.ac_links.specs.declared.offer.Standing.{Standing}
use Rattle.ac_links.specs.declared.offer.Standing.TheVariants.{Offered, Taken, Withdrawn, Passed}
use Rattle.ac_links.specs.declared.offer.LinkOffer.{LinkOffer}
use Rattle.ac_links.specs.declared.payloads.Terms.{Terms}
use Rattle.ac_links.specs.Payloads.{carries, has_answer, is_payload}
use Rattle.ac_links.specs.Payloads.Taking.{Message, Done}
use Rattle.ac_links.specs.Link.{is_offered, is_taken, is_withdrawn, is_passed, front_of, known_lead, takes, knows, withdraws, passes, frees, replies, link_fits, link_after, number_of}
use Rattle.ac_links.specs.Link.{changed, stands, now_taken, now_known, now_replied, new_offer, answered, standing_stamp}
use Rattle.ac_causal.specs.inner.Marks.{answered_mark, link_marks_after}

-- ---- the ladder

abbrev pub level : Standing → ℕ
level Offered = 1
level Withdrawn = 2
level Taken = 3
level Passed = 4

abbrev pub level_at : Option LinkOffer → ℕ
level_at None = 0
level_at (Some o) = level o.standing

-- the rung to which an event brings its offer; 0 where it leaves it where it is
abbrev pub gives : Event → ℕ
gives (Offer l n payload) = 1
gives (Withdraw l n) = 2
gives (Know l n) = 0
gives (Room l n) = 0
gives (Got l n value) = 3
gives (Pass l n) = 4
gives (Did l n answer) = 3
gives (Reply l n answer) = 0

-- the rung to which the event that is answered has brought it; 0 where none is
abbrev pub wants : Event → ℕ
wants (Offer l n payload) = 0
wants (Withdraw l n) = 0
wants (Know l n) = 3
wants (Room l n) = 4
wants (Got l n value) = 1
wants (Pass l n) = 2
wants (Did l n answer) = 1
wants (Reply l n answer) = 3

abbrev pub is_did : Event → Bool
is_did (Did l n answer) = true
is_did _ = false

abbrev pub is_reply : Event → Bool
is_reply (Reply l n answer) = true
is_reply _ = false

pub did_gives : (e : Event) → is_did e ≡ true → gives e ≡ 3
did_gives (Did l n answer) h = refl
did_gives _ h = let bad : false ≡ true = h in absurd (cc)

abbrev pub has_answer_at : Option LinkOffer → Bool
has_answer_at None = false
has_answer_at (Some o) = is_some o.answer

pub offered_level : (s : Standing) → is_offered s ≡ true → level s ≡ 1
offered_level Offered h = refl
offered_level Taken h = let bad : false ≡ true = h in absurd (cc)
offered_level Withdrawn h = let bad : false ≡ true = h in absurd (cc)
offered_level Passed h = let bad : false ≡ true = h in absurd (cc)

withdrawn_level : (s : Standing) → is_withdrawn s ≡ true → level s ≡ 2
withdrawn_level Offered h = let bad : false ≡ true = h in absurd (cc)
withdrawn_level Taken h = let bad : false ≡ true = h in absurd (cc)
withdrawn_level Withdrawn h = refl
withdrawn_level Passed h = let bad : false ≡ true = h in absurd (cc)

taken_level : (s : Standing) → is_taken s ≡ true → level s ≡ 3
taken_level Offered h = let bad : false ≡ true = h in absurd (cc)
taken_level Taken h = refl
taken_level Withdrawn h = let bad : false ≡ true = h in absurd (cc)
taken_level Passed h = let bad : false ≡ true = h in absurd (cc)

passed_level : (s : Standing) → is_passed s ≡ true → level s ≡ 4
passed_level Offered h = let bad : false ≡ true = h in absurd (cc)
passed_level Taken h = let bad : false ≡ true = h in absurd (cc)
passed_level Withdrawn h = let bad : false ≡ true = h in absurd (cc)
passed_level Passed h = refl

answered_some : (answer : Answer) (q : Option Answer) → has_answer answer q ≡ true → is_some q ≡ true
answered_some answer None h = let bad : false ≡ true = h in absurd (cc)
answered_some answer (Some it) h = refl

-- ---- one element of a list

pub get_set_same : {X : Type 0} (xs : List X) (n : ℕ) (x y : X) → slice_get xs n ≡ Some x → slice_get (slice_set xs n y) n ≡ Some y
get_set_same [] n x y h = let bad : None ≡ Some x = h in absurd (cc)
get_set_same (z ∷ xs) zero x y h = refl
get_set_same (z ∷ xs) (suc n) x y h = get_set_same xs n x y h

pub get_set_other : {X : Type 0} (xs : List X) (k n : ℕ) (y : X) → (k ≡ n → ⊥) → slice_get (slice_set xs k y) n ≡ slice_get xs n
get_set_other [] k n y h = refl
get_set_other (z ∷ xs) zero zero y h = absurd (h refl)
get_set_other (z ∷ xs) zero (suc n) y h = refl
get_set_other (z ∷ xs) (suc k) zero y h = refl
get_set_other (z ∷ xs) (suc k) (suc n) y h = get_set_other xs k n y (λ e. h (ap suc e))

pub get_pushed_last : {X : Type 0} (xs : List X) (y : X) → slice_get (xs ++ y ∷ []) (length xs) ≡ Some y
get_pushed_last [] y = refl
get_pushed_last (x ∷ xs) y = get_pushed_last xs y

pub get_pushed_other : {X : Type 0} (xs : List X) (y : X) (n : ℕ) → (length xs ≡ n → ⊥) → slice_get (xs ++ y ∷ []) n ≡ slice_get xs n
get_pushed_other [] y zero h = absurd (h refl)
get_pushed_other [] y (suc n) h = refl
get_pushed_other (x ∷ xs) y zero h = refl
get_pushed_other (x ∷ xs) y (suc n) h = get_pushed_other xs y n (λ e. h (ap suc e))

index_pushed_last : (xs : List ℕ) (y : ℕ) → get_or (xs ++ y ∷ []) (length xs) 0 ≡ y
index_pushed_last [] y = refl
index_pushed_last (x ∷ xs) y = index_pushed_last xs y

index_pushed_other : (xs : List ℕ) (y n : ℕ) → (length xs ≡ n → ⊥) → get_or (xs ++ y ∷ []) n 0 ≡ get_or xs n 0
index_pushed_other [] y zero h = absurd (h refl)
index_pushed_other [] y (suc n) h = refl
index_pushed_other (x ∷ xs) y zero h = refl
index_pushed_other (x ∷ xs) y (suc n) h = index_pushed_other xs y n (λ e. h (ap suc e))

length_pushed : {X : Type 0} (xs : List X) (y : X) → length (xs ++ y ∷ []) ≡ suc (length xs)
length_pushed [] y = refl
length_pushed (x ∷ xs) y = ap suc (length_pushed xs y)

-- ---- the offer that an event is about

pub own_changed : (os : List LinkOffer) (n : ℕ) (f : LinkOffer → LinkOffer) (o : LinkOffer) → slice_get os n ≡ Some o
    → slice_get (changed os n f (slice_get os n)) n ≡ Some (f o)
own_changed os n f o is = ap (λ q. slice_get (changed os n f q) n) is ∙ get_set_same os n o (f o) is

other_changed : (os : List LinkOffer) (k n : ℕ) (f : LinkOffer → LinkOffer) (q : Option LinkOffer) → (k ≡ n → ⊥)
    → slice_get (changed os k f q) n ≡ slice_get os n
other_changed os k n f None h = refl
other_changed os k n f (Some o) h = get_set_other os k n (f o) h

length_changed : (os : List LinkOffer) (k : ℕ) (f : LinkOffer → LinkOffer) (q : Option LinkOffer) → length (changed os k f q) ≡ length os
length_changed os k f None = refl
length_changed os k f (Some o) = length-set os k (f o)

pub some_of : (test : Option LinkOffer → Bool) → test None ≡ false → (q : Option LinkOffer) → test q ≡ true
    → (o : LinkOffer) × (q ≡ Some o) × (test (Some o) ≡ true)
some_of test none None h = let bad : false ≡ true = sym none ∙ h in absurd (cc)
some_of test none (Some o) h = (o, refl, h)

-- it stands as it stood
pub record Stays (before : Option LinkOffer) (new : LinkOffer) : Type 0 where
  pub old : LinkOffer
  pub is_old : before ≡ Some old
  pub standing : new.standing ≡ old.standing
  pub stamp : new.stamp ≡ old.stamp
  pub answer : new.answer ≡ old.answer

-- it was brought to another rung
pub record Rises (e : Event) (s : ℕ) (before : Option LinkOffer) (new : LinkOffer) : Type 0 where
  pub below : level_at before < gives e
  pub up : level new.standing ≡ gives e
  pub stamp : new.stamp ≡ s
  pub answer : is_some new.answer ≡ true → is_did e ≡ true

-- what an entry with this event and this stamp makes of its offer
pub record Step (e : Event) (s : ℕ) (before after : Option LinkOffer) : Type 0 where
  pub new : LinkOffer
  pub is_new : after ≡ Some new
  pub rises : 0 < gives e → Rises e s before new
  pub stays : gives e ≡ 0 → Stays before new
  pub wanted : 0 < wants e → level_at before ≡ wants e
  pub replied : is_reply e ≡ true → has_answer_at before ≡ true

-- an offer with an answer is taken
abbrev pub IsSound : Option LinkOffer → Type 0
IsSound q = has_answer_at q ≡ true → level_at q ≡ 3

unanswered : (before : Option LinkOffer) (o : LinkOffer) → before ≡ Some o → IsSound before → (level o.standing ≡ 3 → ⊥) → is_some o.answer ≡ true → ⊥
unanswered before o is sound other a = other (sym (ap level_at is) ∙ sound (ap has_answer_at is ∙ a))

raise : (e : Event) (s : ℕ) (before after : Option LinkOffer) (o new : LinkOffer) → before ≡ Some o → after ≡ Some new
    → level o.standing < gives e → level new.standing ≡ gives e → new.stamp ≡ s → (is_some new.answer ≡ true → is_did e ≡ true)
    → (0 < wants e → level o.standing ≡ wants e) → is_reply e ≡ false → Step e s before after
raise e s before after o new is now below up stamp answer wanted other = record {
  new = new;
  is_new = now;
  rises = λ g. record { below = (let k : level_at before ≡ level o.standing = ap level_at is in omega (arith, k)); up = up; stamp = stamp; answer = answer };
  stays = λ g. absurd (omega (arith, g));
  wanted = λ w. ap level_at is ∙ wanted w;
  replied = λ r. (let bad : false ≡ true = sym other ∙ r in absurd (cc));
}

keep : (e : Event) (s : ℕ) (before after : Option LinkOffer) (o new : LinkOffer) → before ≡ Some o → after ≡ Some new → gives e ≡ 0
    → new.standing ≡ o.standing → new.stamp ≡ o.stamp → new.answer ≡ o.answer
    → (0 < wants e → level o.standing ≡ wants e) → (is_reply e ≡ true → is_some o.answer ≡ true) → Step e s before after
keep e s before after o new is now none standing stamp answer wanted replied = record {
  new = new;
  is_new = now;
  rises = λ g. absurd (omega (arith, g, none));
  stays = λ g. record { old = o; is_old = is; standing = standing; stamp = stamp; answer = answer };
  wanted = λ w. ap level_at is ∙ wanted w;
  replied = λ r. ap has_answer_at is ∙ replied r;
}

impossible : (P : Type 0) → false ≡ true → P
impossible P h = absurd (cc)

module _ (terms : Terms) (os : List LinkOffer) (s : ℕ) where
  abbrev own_before : Event → Option LinkOffer
  own_before e = slice_get os (number_of e)

  abbrev own_after : Event → Option LinkOffer
  own_after e = slice_get (link_after os s e) (number_of e)

  -- the number of a new offer is the next one
  pub offers_next : (l n : ℕ) (payload : Payload) → link_fits terms os (Offer l n payload) ≡ true → n ≡ length os
  offers_next l n payload fits =
      let room = nat_lt (length os - known_lead os) terms.capacity in
      let p = and_parts ((n == length os) && room) (is_payload terms.requests payload) fits in
      eqb-true n (length os) (and_parts (n == length os) room p.0).0

  pub own_step : (e : Event) → link_fits terms os e ≡ true → IsSound (own_before e) → Step e s (own_before e) (own_after e)
  own_step (Offer l n payload) fits sound =
      let next = offers_next l n payload fits in
      let none : slice_get os n ≡ None = subst (λ k. slice_get os k ≡ None) (sym next) (slice_get_past os (length os) (omega arith)) in
      let new = new_offer payload s in
      let low : level_at (slice_get os n) ≡ 0 = ap level_at none in
      record {
        new = new;
        is_new = subst (λ k. slice_get (os ++ new ∷ []) k ≡ Some new) (sym next) (get_pushed_last os new);
        rises = λ g. record { below = omega (arith, low); up = refl; stamp = refl; answer = λ a. impossible _ a };
        stays = λ g. absurd (omega (arith, g));
        wanted = λ w. absurd (omega (arith, w));
        replied = λ r. impossible _ r;
      }
  own_step (Withdraw l n) fits sound =
      let q = some_of withdraws refl (slice_get os n) fits in
      let one = offered_level q.0.standing q.2 in
      raise (Withdraw l n) s _ _ q.0 (stands Withdrawn s q.0) q.1 (own_changed os n (stands Withdrawn s) q.0 q.1) (omega (arith, one)) refl refl
      (λ a. absurd (unanswered (slice_get os n) q.0 q.1 sound (λ t. omega (arith, one, t)) a)) (λ w. absurd (omega (arith, w))) refl
  own_step (Know l n) fits sound =
      let q = some_of knows refl (slice_get os n) fits in
      let three = taken_level q.0.standing (and_parts (is_taken q.0.standing) (not q.0.known) q.2).0 in
      keep (Know l n) s _ _ q.0 (now_known q.0) q.1 (own_changed os n now_known q.0 q.1) refl refl refl refl (λ w. three) (λ r. impossible _ r)
  own_step (Room l n) fits sound =
      let q = some_of frees refl (slice_get os n) fits in
      let four = passed_level q.0.standing (and_parts (is_passed q.0.standing) (not q.0.known) q.2).0 in
      keep (Room l n) s _ _ q.0 (now_known q.0) q.1 (own_changed os n now_known q.0 q.1) refl refl refl refl (λ w. four) (λ r. impossible _ r)
  own_step (Got l n value) fits sound =
      let t = (and_parts (n == front_of os) (takes (Message value) (slice_get os n)) fits).1 in
      let q = some_of (takes (Message value)) refl (slice_get os n) t in
      let one = offered_level q.0.standing (and_parts (is_offered q.0.standing) (carries (Message value) q.0.payload) q.2).0 in
      raise (Got l n value) s _ _ q.0 (now_taken (Message value) s q.0) q.1 (own_changed os n (now_taken (Message value) s) q.0 q.1) (omega (arith, one)) refl refl
      (λ a. impossible _ a) (λ w. one) refl
  own_step (Pass l n) fits sound =
      let t = (and_parts (n == front_of os) (passes (slice_get os n)) fits).1 in
      let q = some_of passes refl (slice_get os n) t in
      let two = withdrawn_level q.0.standing q.2 in
      raise (Pass l n) s _ _ q.0 (stands Passed s q.0) q.1 (own_changed os n (stands Passed s) q.0 q.1) (omega (arith, two)) refl refl
      (λ a. absurd (unanswered (slice_get os n) q.0 q.1 sound (λ t. omega (arith, two, t)) a)) (λ w. two) refl
  own_step (Did l n answer) fits sound =
      let t = (and_parts (n == front_of os) (takes (Done answer) (slice_get os n)) fits).1 in
      let q = some_of (takes (Done answer)) refl (slice_get os n) t in
      let one = offered_level q.0.standing (and_parts (is_offered q.0.standing) (carries (Done answer) q.0.payload) q.2).0 in
      raise (Did l n answer) s _ _ q.0 (now_taken (Done answer) s q.0) q.1 (own_changed os n (now_taken (Done answer) s) q.0 q.1) (omega (arith, one)) refl refl
      (λ a. refl) (λ w. one) refl
  own_step (Reply l n answer) fits sound =
      let q = some_of (replies answer) refl (slice_get os n) fits in
      let some = answered_some answer q.0.answer (and_parts (has_answer answer q.0.answer) (not q.0.replied) q.2).0 in
      let three = sym (ap level_at q.1) ∙ sound (ap has_answer_at q.1 ∙ some) in
      keep (Reply l n answer) s _ _ q.0 (now_replied q.0) q.1 (own_changed os n now_replied q.0 q.1) refl refl refl refl (λ w. three) (λ r. some)

  -- the other offers of the link
  pub other_step : (e : Event) (n : ℕ) → link_fits terms os e ≡ true → (number_of e ≡ n → ⊥) → slice_get (link_after os s e) n ≡ slice_get os n
  other_step (Offer l m payload) n fits h = get_pushed_other os (new_offer payload s) n (λ e. h (offers_next l m payload fits ∙ e))
  other_step (Withdraw l m) n fits h = other_changed os m n (stands Withdrawn s) (slice_get os m) h
  other_step (Know l m) n fits h = other_changed os m n now_known (slice_get os m) h
  other_step (Room l m) n fits h = other_changed os m n now_known (slice_get os m) h
  other_step (Got l m value) n fits h = other_changed os m n (now_taken (Message value) s) (slice_get os m) h
  other_step (Pass l m) n fits h = other_changed os m n (stands Passed s) (slice_get os m) h
  other_step (Did l m answer) n fits h = other_changed os m n (now_taken (Done answer) s) (slice_get os m) h
  other_step (Reply l m answer) n fits h = other_changed os m n now_replied (slice_get os m) h

  -- ---- the marks of the link

  module _ (ps : List ℕ) (mark : ℕ) (as_many : length ps ≡ length os) where
    pub marks_length : (e : Event) → length (link_marks_after ps mark e) ≡ length (link_after os s e)
    marks_length (Offer l n payload) = length_pushed ps mark ∙ ap suc as_many ∙ sym (length_pushed os (new_offer payload s))
    marks_length (Withdraw l n) = length-set ps n mark ∙ as_many ∙ sym (length_changed os n (stands Withdrawn s) (slice_get os n))
    marks_length (Know l n) = as_many ∙ sym (length_changed os n now_known (slice_get os n))
    marks_length (Room l n) = as_many ∙ sym (length_changed os n now_known (slice_get os n))
    marks_length (Got l n value) = length-set ps n mark ∙ as_many ∙ sym (length_changed os n (now_taken (Message value) s) (slice_get os n))
    marks_length (Pass l n) = length-set ps n mark ∙ as_many ∙ sym (length_changed os n (stands Passed s) (slice_get os n))
    marks_length (Did l n answer) = length-set ps n mark ∙ as_many ∙ sym (length_changed os n (now_taken (Done answer) s) (slice_get os n))
    marks_length (Reply l n answer) = as_many ∙ sym (length_changed os n now_replied (slice_get os n))

    pub other_mark : (e : Event) (n : ℕ) → link_fits terms os e ≡ true → (number_of e ≡ n → ⊥)
        → get_or (link_marks_after ps mark e) n 0 ≡ get_or ps n 0
    other_mark (Offer l m payload) n fits h = index_pushed_other ps mark n (λ e. h (offers_next l m payload fits ∙ sym as_many ∙ e))
    other_mark (Withdraw l m) n fits h = get_or-set_other ps m n mark 0 (λ e. h (sym e))
    other_mark (Know l m) n fits h = refl
    other_mark (Room l m) n fits h = refl
    other_mark (Got l m value) n fits h = get_or-set_other ps m n mark 0 (λ e. h (sym e))
    other_mark (Pass l m) n fits h = get_or-set_other ps m n mark 0 (λ e. h (sym e))
    other_mark (Did l m answer) n fits h = get_or-set_other ps m n mark 0 (λ e. h (sym e))
    other_mark (Reply l m answer) n fits h = refl

    within : (n : ℕ) (o : LinkOffer) → slice_get os n ≡ Some o → n < length ps
    within n o is = let lt = slice_get_within os n o is in omega (arith, lt, as_many)

    -- an entry that brings its offer to a rung is the one by which it stands there
    pub own_mark : (e : Event) → link_fits terms os e ≡ true → 0 < gives e → get_or (link_marks_after ps mark e) (number_of e) 0 ≡ mark
    own_mark (Offer l n payload) fits g =
        subst (λ k. get_or (ps ++ mark ∷ []) k 0 ≡ mark) (as_many ∙ sym (offers_next l n payload fits)) (index_pushed_last ps mark)
    own_mark (Withdraw l n) fits g =
        let q = some_of withdraws refl (slice_get os n) fits in get_or-set_same ps n mark 0 (within n q.0 q.1)
    own_mark (Know l n) fits g = absurd (omega (arith, g))
    own_mark (Room l n) fits g = absurd (omega (arith, g))
    own_mark (Got l n value) fits g =
        let t = (and_parts (n == front_of os) (takes (Message value) (slice_get os n)) fits).1 in
        let q = some_of (takes (Message value)) refl (slice_get os n) t in get_or-set_same ps n mark 0 (within n q.0 q.1)
    own_mark (Pass l n) fits g =
        let t = (and_parts (n == front_of os) (passes (slice_get os n)) fits).1 in
        let q = some_of passes refl (slice_get os n) t in get_or-set_same ps n mark 0 (within n q.0 q.1)
    own_mark (Did l n answer) fits g =
        let t = (and_parts (n == front_of os) (takes (Done answer) (slice_get os n)) fits).1 in
        let q = some_of (takes (Done answer)) refl (slice_get os n) t in get_or-set_same ps n mark 0 (within n q.0 q.1)
    own_mark (Reply l n answer) fits g = absurd (omega (arith, g))

    -- and one that leaves it where it is changes no mark
    pub same_marks : (e : Event) → gives e ≡ 0 → link_marks_after ps mark e ≡ ps
    same_marks (Offer l n payload) g = absurd (omega (arith, g))
    same_marks (Withdraw l n) g = absurd (omega (arith, g))
    same_marks (Know l n) g = refl
    same_marks (Room l n) g = refl
    same_marks (Got l n value) g = absurd (omega (arith, g))
    same_marks (Pass l n) g = absurd (omega (arith, g))
    same_marks (Did l n answer) g = absurd (omega (arith, g))
    same_marks (Reply l n answer) g = refl

-- ---- what an event that answers sees

pub sees_mark : (ps : List ℕ) (e : Event) → 0 < wants e → answered_mark ps e ≡ get_or ps (number_of e) 0
sees_mark ps (Offer l n payload) w = absurd (omega (arith, w))
sees_mark ps (Withdraw l n) w = absurd (omega (arith, w))
sees_mark ps (Know l n) w = refl
sees_mark ps (Room l n) w = refl
sees_mark ps (Got l n value) w = refl
sees_mark ps (Pass l n) w = refl
sees_mark ps (Did l n answer) w = refl
sees_mark ps (Reply l n answer) w = refl

pub sees_none : (ps : List ℕ) (e : Event) → wants e ≡ 0 → answered_mark ps e ≡ 0
sees_none ps (Offer l n payload) w = refl
sees_none ps (Withdraw l n) w = refl
sees_none ps (Know l n) w = absurd (omega (arith, w))
sees_none ps (Room l n) w = absurd (omega (arith, w))
sees_none ps (Got l n value) w = absurd (omega (arith, w))
sees_none ps (Pass l n) w = absurd (omega (arith, w))
sees_none ps (Did l n answer) w = absurd (omega (arith, w))
sees_none ps (Reply l n answer) w = absurd (omega (arith, w))

pub sees_stamp : (os : List LinkOffer) (e : Event) → 0 < wants e → answered os e ≡ standing_stamp (slice_get os (number_of e))
sees_stamp os (Offer l n payload) w = absurd (omega (arith, w))
sees_stamp os (Withdraw l n) w = absurd (omega (arith, w))
sees_stamp os (Know l n) w = refl
sees_stamp os (Room l n) w = refl
sees_stamp os (Got l n value) w = refl
sees_stamp os (Pass l n) w = refl
sees_stamp os (Did l n answer) w = refl
sees_stamp os (Reply l n answer) w = refl
