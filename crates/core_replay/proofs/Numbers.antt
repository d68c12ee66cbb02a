-- The numbers of the offers of a journal, and the rooms of those that were withdrawn. Each is a count over entries, so one entry more adds what
-- that entry counts; the offers that stand under a number are those made less those ended, which tells that no room of one was given back.
use Rattle.std.proofs.Common.{◌≡◌, ℕ, suc, ◌+◌, ◌≤◌, List, [], ◌∷◌, ◌++◌, length, Some, Bool, true, false, refl, sym, ap, ◌∙◌, subst, arith}
use Rattle.std.specs.Prelude.{◌<◌, find, nat_eq, nat_lt, not, ◌&&◌, ◌||◌, if◌then◌else◌}
use Rattle.std.specs.List.{list_any}
use Rattle.std.proofs.lemmas.Bool.{and_parts, eq-eqb, eqb-true}
use Rattle.std.proofs.lemmas.Bool.Decides.{nat_tests}
use Rattle.ac_base.specs.declared.entry.Entry.{Entry}
use Rattle.ac_base.specs.declared.entry.Event.{Event}
use Rattle.ac_base.specs.declared.entry.Event.TheVariants as event
use Rattle.ac_base.specs.declared.entry.Payload.{Payload}
use Rattle.cancel_scope.specs.declared.operation.Operation.{Operation}
use Rattle.cancel_scope.specs.declared.operation.Progress.{Progress}
use Rattle.cancel_scope.specs.declared.operation.Progress.TheVariants.{Offered}
use Rattle.cancel_scope.specs.Outstanding.{is_offered, is_under}
use Rattle.core_state.specs.Arrivals.{is_offer, is_room, is_withdrawal, keeps_room, offers_on}
use Rattle.code_safety.specs.Fit.{one_if, total}
use Rattle.code_safety.proofs.Lives.{total_append}
use Rattle.code_safety.proofs.Waiting.{found_at}
use Rattle.core_machine.specs.Tracks.{Tracks, is_end_of, is_offer_of, offers_of, standing_of}
use Rattle.core_replay.specs.Standing.{IsNumbered}

abbrev pub withdrawn : ℕ → ℕ → List Entry → Bool
withdrawn link number es = list_any (λ (e : Entry). is_withdrawal link number e.event) es

abbrev pub roomed : ℕ → ℕ → List Entry → Bool
roomed link number es = list_any (λ (e : Entry). is_room link number e.event) es

-- ---- there are no more offers than entries

pub on_few : (link : ℕ) (es : List Entry) → offers_on link es ≤ length es
on_few link [] = omega arith
on_few link (e ∷ es) = by (is_offer link e.event) (on_few link es)
  where
    by : (b : Bool) → offers_on link es ≤ length es → (if b then 1 + offers_on link es else offers_on link es) ≤ suc (length es)
    by true h = omega (arith, h)
    by false h = omega (arith, h)

pub below : (a b : ℕ) → a < b → nat_lt a b ≡ true
below a b h = grind (arith, nat_tests, h)

-- ---- one entry more

offers_more : (link number : ℕ) (es : List Entry) (e : Entry) → offers_of link number (es ++ e ∷ []) ≡ offers_of link number es + one_if (is_offer_of link number e.event)
offers_more link number es e = let h = total_append (λ (f : Entry). one_if (is_offer_of link number f.event)) es (e ∷ []) in omega (arith, h)

on_more : (link : ℕ) (es : List Entry) (e : Entry) → offers_on link (es ++ e ∷ []) ≡ offers_on link es + one_if (is_offer link e.event)
on_more link [] e = by (is_offer link e.event)
  where
    by : (b : Bool) → (if b then 1 + 0 else 0) ≡ 0 + one_if b
    by true = omega arith
    by false = omega arith
on_more link (f ∷ es) e = by (is_offer link f.event) (offers_on link (es ++ e ∷ [])) (offers_on link es) (one_if (is_offer link e.event)) (on_more link es e)
  where
    by : (b : Bool) (x y z : ℕ) → x ≡ y + z → (if b then 1 + x else x) ≡ (if b then 1 + y else y) + z
    by true x y z h = omega (arith, h)
    by false x y z h = h

any_more : {A : Type 0} (p : A → Bool) (xs : List A) (x : A) → list_any p (xs ++ x ∷ []) ≡ (list_any p xs || p x)
any_more p [] x = by (p x)
  where
    by : (b : Bool) → (b || false) ≡ (false || b)
    by true = refl
    by false = refl
any_more p (y ∷ xs) x = ap (λ (b : Bool). p y || b) (any_more p xs x) ∙ by (p y) (list_any p xs) (p x)
  where
    by : (a b c : Bool) → (a || (b || c)) ≡ ((a || b) || c)
    by true b c = refl
    by false b c = refl

either_one : {A : Type 0} (a b : Bool) → (a || b) ≡ true → (a ≡ true → A) → (b ≡ true → A) → A
either_one true b h f g = f refl
either_one false b h f g = g h

first_of : (a b : Bool) → a ≡ true → (a || b) ≡ true
first_of true b h = refl
first_of false b h = let no : false ≡ true = h in absurd (cc)

-- ---- what stays so

abbrev next : Event → ℕ → ℕ → Entry
next v stamp turn = record { stamp = stamp; turn = turn; event = v }

module _ (journal : List Entry) (stamp turn : ℕ) (is : IsNumbered journal) where
  -- an entry that is no offer, and gives no room back but that of one that was withdrawn
  pub other_numbered : (v : Event) → ((l : ℕ) → is_offer l v ≡ false) → ((l n : ℕ) → is_offer_of l n v ≡ false) → ((l n : ℕ) → is_room l n v ≡ true → withdrawn l n journal ≡ true)
      → IsNumbered (journal ++ next v stamp turn ∷ [])
  other_numbered v none never back = record {
    fresh = λ l n le.
        let on : offers_on l (journal ++ e ∷ []) ≡ offers_on l journal + 0 = on_more l journal e ∙ ap (λ (b : Bool). offers_on l journal + one_if b) (none l) in
        let same = of l n in
        let before = is.fresh l n (omega (arith, on, le)) in
        omega (arith, same, before);
    once = λ l n. let same = of l n in let before = is.once l n in omega (arith, same, before);
    rooms = λ l n h.
        let now : (roomed l n journal || is_room l n v) ≡ true = sym (any_more (λ (f : Entry). is_room l n f.event) journal e) ∙ h in
        let was : withdrawn l n journal ≡ true = either_one (roomed l n journal) (is_room l n v) now (is.rooms l n) (back l n) in
        any_more (λ (f : Entry). is_withdrawal l n f.event) journal e ∙ first_of (withdrawn l n journal) (is_withdrawal l n v) was;
  }
    where
      e : Entry
      e = next v stamp turn

      of : (l n : ℕ) → offers_of l n (journal ++ e ∷ []) ≡ offers_of l n journal + 0
      of l n = offers_more l n journal e ∙ ap (λ (b : Bool). offers_of l n journal + one_if b) (never l n)

  -- the next offer of a link
  pub offer_numbered : (link number : ℕ) (payload : Payload) → number ≡ offers_on link journal → IsNumbered (journal ++ next (event.Offer link number payload) stamp turn ∷ [])
  offer_numbered link number payload now = record {
    fresh = λ l n le. new l n (nat_eq link l) (nat_eq number n) refl refl le;
    once = λ l n. few l n (nat_eq link l) (nat_eq number n) refl refl;
    rooms = λ l n h.
        let was : (roomed l n journal || false) ≡ true = sym (any_more (λ (f : Entry). is_room l n f.event) journal e) ∙ h in
        any_more (λ (f : Entry). is_withdrawal l n f.event) journal e
        ∙ first_of (withdrawn l n journal) false (either_one (roomed l n journal) false was (is.rooms l n) (λ no. absurd (false_true no)));
  }
    where
      e : Entry
      e = next (event.Offer link number payload) stamp turn

      false_true : false ≡ true → ⊥
      false_true h = cc

      new : (l n : ℕ) (a b : Bool) → nat_eq link l ≡ a → nat_eq number n ≡ b → offers_on l (journal ++ e ∷ []) ≤ n → offers_of l n (journal ++ e ∷ []) ≡ 0
      new l n false b h g le =
          let on : offers_on l (journal ++ e ∷ []) ≡ offers_on l journal + 0 = on_more l journal e ∙ ap (λ (c : Bool). offers_on l journal + one_if c) h in
          let of : offers_of l n (journal ++ e ∷ []) ≡ offers_of l n journal + 0 =
          offers_more l n journal e ∙ ap (λ (c : Bool). offers_of l n journal + one_if (c && nat_eq number n)) h in
          let before = is.fresh l n (omega (arith, on, le)) in
          omega (arith, of, before)
      new l n true b h g le =
          let same : link ≡ l = eqb-true link l h in
          let on : offers_on l (journal ++ e ∷ []) ≡ offers_on l journal + 1 = on_more l journal e ∙ ap (λ (c : Bool). offers_on l journal + one_if c) h in
          let own : number ≡ offers_on l journal = now ∙ ap (λ (k : ℕ). offers_on k journal) same in
          let before = is.fresh l n (omega (arith, on, le)) in
          let of : offers_of l n (journal ++ e ∷ []) ≡ offers_of l n journal + one_if (true && b) =
          offers_more l n journal e ∙ ap (λ (c : Bool). offers_of l n journal + one_if (c && nat_eq number n)) h ∙ ap (λ (c : Bool). offers_of l n journal + one_if (true && c)) g in
          last b g of before (λ (k : number ≡ n). omega (arith, on, own, k, le))
        where
          last : (b : Bool) → nat_eq number n ≡ b → offers_of l n (journal ++ e ∷ []) ≡ offers_of l n journal + one_if (true && b) → offers_of l n journal ≡ 0 → (number ≡ n → ⊥)
              → offers_of l n (journal ++ e ∷ []) ≡ 0
          last false g of before differ = omega (arith, of, before)
          last true g of before differ = absurd (differ (eqb-true number n g))

      few : (l n : ℕ) (a b : Bool) → nat_eq link l ≡ a → nat_eq number n ≡ b → offers_of l n (journal ++ e ∷ []) ≤ 1
      few l n a b h g =
          let of : offers_of l n (journal ++ e ∷ []) ≡ offers_of l n journal + one_if (a && b) =
          offers_more l n journal e ∙ ap (λ (c : Bool). offers_of l n journal + one_if (c && nat_eq number n)) h ∙ ap (λ (c : Bool). offers_of l n journal + one_if (a && c)) g in
          last a b h g of
        where
          before : offers_of l n journal ≤ 1
          before = is.once l n

          last : (a b : Bool) → nat_eq link l ≡ a → nat_eq number n ≡ b → offers_of l n (journal ++ e ∷ []) ≡ offers_of l n journal + one_if (a && b) → offers_of l n (journal ++ e ∷ []) ≤ 1
          last false b h g of = omega (arith, of, before)
          last true false h g of = omega (arith, of, before)
          last true true h g of =
              let same : link ≡ l = eqb-true link l h in
              let own : number ≡ offers_on l journal = now ∙ ap (λ (k : ℕ). offers_on k journal) same in
              let alike : number ≡ n = eqb-true number n g in
              let none = is.fresh l n (omega (arith, own, alike)) in
              omega (arith, of, none)

-- a room that is given back is one of an offer that was withdrawn
pub kept_withdrawn : (link number : ℕ) (journal : List Entry) → keeps_room link number journal ≡ true → withdrawn link number journal ≡ true
kept_withdrawn link number journal h = (and_parts (withdrawn link number journal) (not (roomed link number journal)) h).0

pub its_room : (link number : ℕ) (journal : List Entry) → keeps_room link number journal ≡ true → (l n : ℕ) → (nat_eq link l && nat_eq number n) ≡ true → withdrawn l n journal ≡ true
its_room link number journal h l n same =
    let parts = and_parts (nat_eq link l) (nat_eq number n) same in
    subst (λ (k : ℕ). withdrawn l k journal ≡ true) (eqb-true number n parts.1)
    (subst (λ (k : ℕ). withdrawn k number journal ≡ true) (eqb-true link l parts.0) (kept_withdrawn link number journal h))

-- ---- the room of an offer that stands was not given back

any_total : (p q : Entry → Bool) → ((e : Entry) → p e ≡ true → q e ≡ true) → (es : List Entry) → list_any p es ≡ true → 1 ≤ total (λ (e : Entry). one_if (q e)) es
any_total p q h [] g = let no : false ≡ true = g in absurd (cc)
any_total p q h (e ∷ es) g = either_one (p e) (list_any p es) g
    (λ k. let one : one_if (q e) ≡ 1 = ap one_if (h e k) in omega (arith, one))
    (λ k. let rest = any_total p q h es k in omega (arith, rest))

ends_it : (link number : ℕ) (v : Event) → is_withdrawal link number v ≡ true → is_end_of link number v ≡ true
ends_it link number (event.Withdraw l n) h = h
ends_it link number v h = let no : false ≡ true = h in absurd (cc)

pub not_roomed : (requests : ℕ) (journal : List Entry) (os : List Operation) (test : Operation → Bool) (o : Operation) (link number : ℕ) → Tracks requests journal os → IsNumbered journal
    → find test os ≡ Some o → o.link ≡ link → o.progress ≡ Offered number → roomed link number journal ≡ false
not_roomed requests journal os test o link number tracks is found own under = by (roomed link number journal) refl
  where
    stands : 1 ≤ standing_of link number os
    stands =
        let at = found_at test os o found in
        let f : Operation → ℕ = λ (x : Operation). one_if (is_offered link number x) in
        let parts : total (λ (x : Operation). one_if (is_offered link number x)) (at.front ++ o ∷ at.back)
        ≡ total (λ (x : Operation). one_if (is_offered link number x)) at.front + (one_if (is_offered link number o) + total (λ (x : Operation). one_if (is_offered link number x)) at.back) =
        total_append (λ (x : Operation). one_if (is_offered link number x)) at.front (o ∷ at.back) in
        let same : standing_of link number os ≡ standing_of link number (at.front ++ o ∷ at.back) = ap (standing_of link number) at.is in
        let one : one_if (is_offered link number o) ≡ 1 =
        ap (λ (p : Progress). one_if (nat_eq o.link link && is_under number p)) under
        ∙ ap (λ (b : Bool). one_if (b && nat_eq number number)) (eq-eqb o.link link own) ∙ ap (λ (b : Bool). one_if (true && b)) (eq-eqb number number refl) in
        omega (arith, parts, same, one)

    by : (b : Bool) → roomed link number journal ≡ b → roomed link number journal ≡ false
    by false h = h
    by true h =
        let ended = any_total (λ (e : Entry). is_withdrawal link number e.event) (λ (e : Entry). is_end_of link number e.event) (λ e k. ends_it link number e.event k) journal
        (is.rooms link number h) in
        let all = tracks.each link number in
        let few = is.once link number in
        absurd (omega (arith, ended, all, few, stands))
