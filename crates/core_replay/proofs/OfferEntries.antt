-- One entry more of a journal, and what it makes of the offers: a count rises on one link, and a room is kept or given back. Both sides are
-- folds over entries, and lists change at one name.
use Rattle.std.proofs.Common.{◌≡◌, ℕ, suc, ◌+◌, List, [], ◌∷◌, ◌++◌, Bool, true, false, refl, sym, ap, ◌∙◌, arith}
use Rattle.std.specs.Prelude.{not, ◌&&◌, ◌||◌, nat_eq, slice_index, if◌then◌else◌}
use Rattle.std.specs.List.{list_any, filter}
use Rattle.std.proofs.lemmas.Bool.{and_parts, eqb-true, eq-eqb}
use Rattle.ac_base.specs.declared.entry.Entry.{Entry}
use Rattle.core_state.specs.Arrivals.{is_offer, offers_on, is_withdrawal, is_room, keeps_room}
use Rattle.core_replay.specs.declared.own_offers.OfferName.{OfferName}
use Rattle.core_replay.specs.Offering.{Offers, is_of, counted, AreOffersOf}

-- ---- counts

one_more : (link : ℕ) (es : List Entry) (e : Entry) → offers_on link (es ++ e ∷ []) ≡ (if is_offer link e.event then suc (offers_on link es) else offers_on link es)
one_more link [] e = here (is_offer link e.event)
  where
    here : (b : Bool) → (if b then 1 + 0 else 0) ≡ (if b then suc 0 else 0)
    here true = refl
    here false = refl
one_more link (f ∷ es) e = ap (λ (n : ℕ). if is_offer link f.event then 1 + n else n) (one_more link es e) ∙ by (is_offer link f.event) (is_offer link e.event) (offers_on link es)
  where
    by : (a b : Bool) (n : ℕ) → (if a then 1 + (if b then suc n else n) else (if b then suc n else n)) ≡ (if b then suc (if a then 1 + n else n) else (if a then 1 + n else n))
    by true true n = omega arith
    by true false n = refl
    by false true n = refl
    by false false n = refl

any_more : {A : Type 0} (p : A → Bool) (xs : List A) (x : A) → list_any p (xs ++ x ∷ []) ≡ (list_any p xs || p x)
any_more p [] x = by (p x)
  where
    by : (b : Bool) → (b || false) ≡ (false || b)
    by true = refl
    by false = refl
any_more p (y ∷ xs) x = ap (λ (b : Bool). p y || b) (any_more p xs x) ∙ by (p y) (list_any p xs) (p x)
  where
    by : (a b c : Bool) → (a || (b || c)) ≡ ((a || b) || c)
    by true b c = refl
    by false b c = refl

-- ---- withdrawals and rooms

abbrev withdrawn : ℕ → ℕ → List Entry → Bool
withdrawn link number es = list_any (λ (e : Entry). is_withdrawal link number e.event) es

abbrev roomed : ℕ → ℕ → List Entry → Bool
roomed link number es = list_any (λ (e : Entry). is_room link number e.event) es

keeps_more : (link number : ℕ) (es : List Entry) (e : Entry)
    → keeps_room link number (es ++ e ∷ []) ≡ ((withdrawn link number es || is_withdrawal link number e.event) && not (roomed link number es || is_room link number e.event))
keeps_more link number es e =
    ap (λ (b : Bool). b && not (roomed link number (es ++ e ∷ []))) (any_more (λ (f : Entry). is_withdrawal link number f.event) es e)
    ∙ ap (λ (b : Bool). (withdrawn link number es || is_withdrawal link number e.event) && not b) (any_more (λ (f : Entry). is_room link number f.event) es e)

true_false : {A : Type 0} → true ≡ false → A
true_false h = cc

unchanged : (w r a b : Bool) → a ≡ false → b ≡ false → ((w || a) && not (r || b)) ≡ (w && not r)
unchanged w r true b h g = true_false h
unchanged w r false true h g = true_false g
unchanged true true false false h g = refl
unchanged true false false false h g = refl
unchanged false true false false h g = refl
unchanged false false false false h g = refl

-- an entry that is no offer, no withdrawal and no room changes nothing
pub others_stay : (journal : List Entry) (o : Offers) (e : Entry) → AreOffersOf journal o → ((link : ℕ) → is_offer link e.event ≡ false)
    → ((link number : ℕ) → (is_withdrawal link number e.event ≡ false) × (is_room link number e.event ≡ false)) → AreOffersOf (journal ++ e ∷ []) o
others_stay journal o e are no_offer nothing = record {
  count = λ link. are.count link ∙ sym (one_more link journal e ∙ ap (λ (b : Bool). if b then suc (offers_on link journal) else offers_on link journal) (no_offer link));
  keep = λ link number. are.keep link number ∙ sym (keeps_more link number journal e
      ∙ unchanged (withdrawn link number journal) (roomed link number journal) (is_withdrawal link number e.event) (is_room link number e.event) (nothing link number).0 (nothing link number).1);
}

-- an offer is one more on its link
pub offer_counts : (journal : List Entry) (o p : Offers) (link : ℕ) (e : Entry) → AreOffersOf journal o
    → ((l : ℕ) → is_offer l e.event ≡ nat_eq link l) → ((l number : ℕ) → (is_withdrawal l number e.event ≡ false) × (is_room l number e.event ≡ false))
    → ((l : ℕ) → slice_index p.counts l ≡ counted link l (slice_index o.counts l)) → p.kept ≡ o.kept → AreOffersOf (journal ++ e ∷ []) p
offer_counts journal o p link e are is nothing counts kept = record {
  count = λ l. counts l ∙ (ap (λ (n : ℕ). counted link l n) (are.count l)
      ∙ sym (one_more l journal e ∙ ap (λ (b : Bool). if b then suc (offers_on l journal) else offers_on l journal) (is l)));
  keep = λ l number. ap (λ (os : List OfferName). list_any (is_of l number) os) kept ∙ (are.keep l number
      ∙ sym (keeps_more l number journal e ∙ unchanged (withdrawn l number journal) (roomed l number journal) (is_withdrawal l number e.event) (is_room l number e.event)
      (nothing l number).0 (nothing l number).1));
}

-- a withdrawal of an offer whose room was not given back keeps it
pub withdrawal_keeps : (journal : List Entry) (o p : Offers) (link number : ℕ) (e : Entry) → AreOffersOf journal o → ((l : ℕ) → is_offer l e.event ≡ false)
    → ((l n : ℕ) → (is_withdrawal l n e.event ≡ (nat_eq link l && nat_eq number n)) × (is_room l n e.event ≡ false))
    → ((l n : ℕ) → (nat_eq link l && nat_eq number n) ≡ true → roomed l n journal ≡ false)
    → p.counts ≡ o.counts → p.kept ≡ o.kept ++ (record { link = link; number = number }) ∷ [] → AreOffersOf (journal ++ e ∷ []) p
withdrawal_keeps journal o p link number e are no_offer is free counts kept = record {
  count = λ l. ap (λ (ns : List ℕ). slice_index ns l) counts ∙ (are.count l
      ∙ sym (one_more l journal e ∙ ap (λ (b : Bool). if b then suc (offers_on l journal) else offers_on l journal) (no_offer l)));
  keep = λ l n.
      ap (λ (os : List OfferName). list_any (is_of l n) os) kept
      ∙ (any_more (is_of l n) o.kept (record { link = link; number = number })
      ∙ (ap (λ (b : Bool). b || (nat_eq link l && nat_eq number n)) (are.keep l n)
      ∙ sym (keeps_more l n journal e
      ∙ by (withdrawn l n journal) (roomed l n journal) (nat_eq link l && nat_eq number n) (is_withdrawal l n e.event) (is_room l n e.event) (is l n).0 (is l n).1 (free l n))));
}
  where
    by : (w r t a b : Bool) → a ≡ t → b ≡ false → (t ≡ true → r ≡ false) → ((w || a) && not (r || b)) ≡ ((w && not r) || t)
    by w r t a b h g f = rw (h, g) (cases w r t f)
      where
        cases : (w r t : Bool) → (t ≡ true → r ≡ false) → ((w || t) && not (r || false)) ≡ ((w && not r) || t)
        cases true true true f = sym (f refl)
        cases true true false f = refl
        cases true false true f = refl
        cases true false false f = refl
        cases false true true f = sym (f refl)
        cases false true false f = refl
        cases false false true f = refl
        cases false false false f = refl

any_without : {A : Type 0} (p q : A → Bool) (xs : List A) → ((x : A) → p x ≡ true → q x ≡ true) → list_any p (filter (λ x. not (q x)) xs) ≡ false
any_without p q [] h = refl
any_without p q (x ∷ xs) h = by (q x) refl (any_without p q xs h)
  where
    by : (b : Bool) → q x ≡ b → list_any p (filter (λ y. not (q y)) xs) ≡ false → list_any p (if not b then x ∷ filter (λ y. not (q y)) xs else filter (λ y. not (q y)) xs) ≡ false
    by true e more = more
    by false e more = none (p x) refl
      where
        none : (c : Bool) → p x ≡ c → (p x || list_any p (filter (λ y. not (q y)) xs)) ≡ false
        none false g = ap (λ (b : Bool). b || list_any p (filter (λ y. not (q y)) xs)) g ∙ more
        none true g = true_false (sym (h x g) ∙ e)

any_with : {A : Type 0} (p q : A → Bool) (xs : List A) → ((x : A) → p x ≡ true → q x ≡ false) → list_any p (filter (λ x. not (q x)) xs) ≡ list_any p xs
any_with p q [] h = refl
any_with p q (x ∷ xs) h = by (q x) refl (any_with p q xs h)
  where
    by : (b : Bool) → q x ≡ b → list_any p (filter (λ y. not (q y)) xs) ≡ list_any p xs
        → list_any p (if not b then x ∷ filter (λ y. not (q y)) xs else filter (λ y. not (q y)) xs) ≡ (p x || list_any p xs)
    by false e more = ap (λ (b : Bool). p x || b) more
    by true e more = more ∙ sym (none (p x) refl)
      where
        none : (c : Bool) → p x ≡ c → (p x || list_any p xs) ≡ list_any p xs
        none false g = ap (λ (b : Bool). b || list_any p xs) g
        none true g = true_false (sym e ∙ h x g)

swap_eq : (a b : ℕ) → nat_eq a b ≡ nat_eq b a
swap_eq a b = by (nat_eq a b) (nat_eq b a) refl refl
  where
    by : (c d : Bool) → nat_eq a b ≡ c → nat_eq b a ≡ d → c ≡ d
    by true true h g = refl
    by false false h g = refl
    by true false h g = true_false (sym (eq-eqb b a (sym (eqb-true a b h))) ∙ g)
    by false true h g = sym (true_false (sym (eq-eqb a b (sym (eqb-true b a g))) ∙ h))

-- one that is this offer is that one too exactly where the two are one
is_too : (o : OfferName) (l n link number : ℕ) (b : Bool) → is_of l n o ≡ true → (nat_eq link l && nat_eq number n) ≡ b → is_of link number o ≡ b
is_too o l n link number b h g =
    let parts = and_parts (nat_eq o.link l) (nat_eq o.number n) h in
    let same : o.link ≡ l = eqb-true o.link l parts.0 in
    let alike : o.number ≡ n = eqb-true o.number n parts.1 in
    ap (λ (k : ℕ). nat_eq k link && nat_eq o.number number) same
    ∙ (ap (λ (k : ℕ). nat_eq l link && nat_eq k number) alike
    ∙ (ap (λ (c : Bool). c && nat_eq n number) (swap_eq l link) ∙ (ap (λ (c : Bool). nat_eq link l && c) (swap_eq n number) ∙ g)))

-- and a room that is given back is kept no longer
pub room_gives : (journal : List Entry) (o p : Offers) (link number : ℕ) (e : Entry) → AreOffersOf journal o → ((l : ℕ) → is_offer l e.event ≡ false)
    → ((l n : ℕ) → (is_withdrawal l n e.event ≡ false) × (is_room l n e.event ≡ (nat_eq link l && nat_eq number n)))
    → p.counts ≡ o.counts → p.kept ≡ filter (λ x. not (is_of link number x)) o.kept → AreOffersOf (journal ++ e ∷ []) p
room_gives journal o p link number e are no_offer is counts kept = record {
  count = λ l. ap (λ (ns : List ℕ). slice_index ns l) counts ∙ (are.count l
      ∙ sym (one_more l journal e ∙ ap (λ (b : Bool). if b then suc (offers_on l journal) else offers_on l journal) (no_offer l)));
  keep = λ l n.
      ap (λ (os : List OfferName). list_any (is_of l n) os) kept
      ∙ (by l n (nat_eq link l && nat_eq number n) refl
      ∙ sym (keeps_more l n journal e ∙ (ap (λ (b : Bool). (withdrawn l n journal || b) && not (roomed l n journal || is_room l n e.event)) (is l n).0
      ∙ ap (λ (b : Bool). (withdrawn l n journal || false) && not (roomed l n journal || b)) (is l n).1)));
}
  where
    gone : (w r : Bool) → false ≡ ((w || false) && not (r || true))
    gone true true = refl
    gone true false = refl
    gone false true = refl
    gone false false = refl

    stays : (w r : Bool) → (w && not r) ≡ ((w || false) && not (r || false))
    stays true true = refl
    stays true false = refl
    stays false true = refl
    stays false false = refl

    by : (l n : ℕ) (t : Bool) → (nat_eq link l && nat_eq number n) ≡ t
        → list_any (is_of l n) (filter (λ x. not (is_of link number x)) o.kept) ≡ ((withdrawn l n journal || false) && not (roomed l n journal || (nat_eq link l && nat_eq number n)))
    by l n true h =
        any_without (is_of l n) (is_of link number) o.kept (λ x g. is_too x l n link number true g h)
        ∙ (gone (withdrawn l n journal) (roomed l n journal) ∙ ap (λ (b : Bool). (withdrawn l n journal || false) && not (roomed l n journal || b)) (sym h))
    by l n false h =
        any_with (is_of l n) (is_of link number) o.kept (λ x g. is_too x l n link number false g h)
        ∙ (are.keep l n ∙ (stays (withdrawn l n journal) (roomed l n journal) ∙ ap (λ (b : Bool). (withdrawn l n journal || false) && not (roomed l n journal || b)) (sym h)))
