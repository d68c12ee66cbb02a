-- How many leading offers are known, after a change. For `KeptLink`, which keeps this number beside its offers.
-- By induction on the offers: to learn may only raise it, a new offer, a withdrawal and a reply leave it. The last three lemmas are the steps of the search for it.
use Rattle.std.proofs.Common.{◌≡◌, ℕ, zero, suc, ◌+◌, ◌<◌, ◌≤◌, List, [], ◌∷◌, ◌++◌, Bool, true, false, cond, refl, ap, arith, length, get_or, is_some}
use Rattle.ac_base.specs.declared.entry.Answer.{Answer}
use Rattle.ac_links.specs.Views.{OwnerOffer, owner_lead, altered, known_at, withdrawn_at, replied_with}

pub lead_within : (os : List OwnerOffer) → owner_lead os ≤ length os
lead_within [] = omega arith
lead_within (o ∷ os) = let ih = lead_within os in elim (is_some o.known) as (λ b. cond b (suc (owner_lead os)) 0 ≤ suc (length os)) [ true ↦ omega arith | false ↦ omega arith ]

-- one more that is not known
pub lead_push : (os : List OwnerOffer) (x : OwnerOffer) → is_some x.known ≡ false → owner_lead (os ++ x ∷ []) ≡ owner_lead os
lead_push [] x t = ap (λ b. cond b 1 0) t
lead_push (o ∷ os) x t = ap (λ r. cond (is_some o.known) (suc r) 0) (lead_push os x t)

pub lead_known : (os : List OwnerOffer) (n s : ℕ) → owner_lead os ≤ owner_lead (altered os n (known_at s))
lead_known [] n s = omega arith
lead_known (o ∷ os) zero s = elim (is_some o.known) as (λ b. cond b (suc (owner_lead os)) 0 ≤ suc (owner_lead os)) [ true ↦ omega arith | false ↦ omega arith ]
lead_known (o ∷ os) (suc n) s = let ih = lead_known os n s in
    elim (is_some o.known) as (λ b. cond b (suc (owner_lead os)) 0 ≤ cond b (suc (owner_lead (altered os n (known_at s)))) 0) [ true ↦ omega arith | false ↦ omega arith ]

pub lead_withdrawn : (os : List OwnerOffer) (n s : ℕ) → owner_lead (altered os n (withdrawn_at s)) ≡ owner_lead os
lead_withdrawn [] n s = refl
lead_withdrawn (o ∷ os) zero s = refl
lead_withdrawn (o ∷ os) (suc n) s = ap (λ r. cond (is_some o.known) (suc r) 0) (lead_withdrawn os n s)

pub lead_replied : (os : List OwnerOffer) (n : ℕ) (w : Answer) (s : ℕ) → owner_lead (altered os n (replied_with w s)) ≡ owner_lead os
lead_replied [] n w s = refl
lead_replied (o ∷ os) zero w s = refl
lead_replied (o ∷ os) (suc n) w s = ap (λ r. cond (is_some o.known) (suc r) 0) (lead_replied os n w s)

-- a search for the first that is not known, from one place to the next
after_first : (o : OwnerOffer) (os : List OwnerOffer) (n : ℕ) (b : Bool) → is_some o.known ≡ b → suc n ≤ cond b (suc (owner_lead os)) 0 → n ≤ owner_lead os
after_first o os n true e h = omega arith
after_first o os n false e h = absurd (omega arith)

after_rest : (o : OwnerOffer) (os : List OwnerOffer) (n : ℕ) (b : Bool) → is_some o.known ≡ b → suc n ≤ cond b (suc (owner_lead os)) 0 → b ≡ true
after_rest o os n true e h = refl
after_rest o os n false e h = absurd (omega arith)

pub lead_more : (os : List OwnerOffer) (n : ℕ) (d : OwnerOffer) → n ≤ owner_lead os → n < length os → is_some (get_or os n d).known ≡ true → n + 1 ≤ owner_lead os
lead_more [] n d h l t = absurd (omega arith)
lead_more (o ∷ os) zero d h l t = let e = ap (λ b. cond b (suc (owner_lead os)) 0) t in omega arith
lead_more (o ∷ os) (suc n) d h l t =
    let e = ap (λ b. cond b (suc (owner_lead os)) 0) (after_rest o os n (is_some o.known) refl h) in
    let ih = lead_more os n d (after_first o os n (is_some o.known) refl h) (omega arith) t in omega arith

pub lead_stop : (os : List OwnerOffer) (n : ℕ) (d : OwnerOffer) → n ≤ owner_lead os → n < length os → is_some (get_or os n d).known ≡ false → n ≡ owner_lead os
lead_stop [] n d h l t = absurd (omega arith)
lead_stop (o ∷ os) zero d h l t = let e = ap (λ b. cond b (suc (owner_lead os)) 0) t in omega arith
lead_stop (o ∷ os) (suc n) d h l t =
    let e = ap (λ b. cond b (suc (owner_lead os)) 0) (after_rest o os n (is_some o.known) refl h) in
    let ih = lead_stop os n d (after_first o os n (is_some o.known) refl h) (omega arith) t in omega arith

pub lead_end : (os : List OwnerOffer) (n : ℕ) → n ≤ owner_lead os → length os ≤ n → n ≡ owner_lead os
lead_end os n h l = let a = lead_within os in omega arith
