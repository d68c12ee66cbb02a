-- How many leading offers are withdrawn or replied, after a change. For `KeptLink`, which searches for its least open request from a number that it keeps.
-- By induction on the offers: no change makes this number less. The last three lemmas are the steps of the search.
use Rattle.std.proofs.Common.{◌≡◌, ℕ, zero, suc, ◌+◌, ◌<◌, ◌≤◌, List, [], ◌∷◌, ◌++◌, Bool, true, false, cond, refl, sym, ap, subst, arith, length, get_or, is_some}
use Rattle.std.specs.Prelude.{◌||◌}
use Rattle.ac_base.specs.declared.entry.Answer.{Answer}
use Rattle.ac_links.specs.Views.{OwnerOffer, altered, known_at, withdrawn_at, replied_with}
use Rattle.ac_links.specs.Replies.{least_open}

abbrev is_closed : OwnerOffer → Bool
is_closed o = is_some o.withdrawn || is_some o.reply

-- one more at the head leaves the order of two counts
step_up : (b : Bool) (m n : ℕ) → m ≤ n → cond b (suc m) 0 ≤ cond b (suc n) 0
step_up true m n h = omega arith
step_up false m n h = omega arith

at_most : (b : Bool) (m : ℕ) → cond b (suc m) 0 ≤ suc m
at_most true m = omega arith
at_most false m = omega arith

pub open_push : (os : List OwnerOffer) (x : OwnerOffer) → least_open os ≤ least_open (os ++ x ∷ [])
open_push [] x = omega arith
open_push (o ∷ os) x = step_up (is_closed o) (least_open os) (least_open (os ++ x ∷ [])) (open_push os x)

or_true : (a : Bool) → (a || true) ≡ true
or_true true = refl
or_true false = refl

pub open_known : (os : List OwnerOffer) (n s : ℕ) → least_open (altered os n (known_at s)) ≡ least_open os
open_known [] n s = refl
open_known (o ∷ os) zero s = refl
open_known (o ∷ os) (suc n) s = ap (λ r. cond (is_closed o) (suc r) 0) (open_known os n s)

pub open_withdrawn : (os : List OwnerOffer) (n s : ℕ) → least_open os ≤ least_open (altered os n (withdrawn_at s))
open_withdrawn [] n s = omega arith
open_withdrawn (o ∷ os) zero s = at_most (is_closed o) (least_open os)
open_withdrawn (o ∷ os) (suc n) s = step_up (is_closed o) (least_open os) (least_open (altered os n (withdrawn_at s))) (open_withdrawn os n s)

pub open_replied : (os : List OwnerOffer) (n : ℕ) (w : Answer) (s : ℕ) → least_open os ≤ least_open (altered os n (replied_with w s))
open_replied [] n w s = omega arith
open_replied (o ∷ os) zero w s = subst (λ b. cond (is_closed o) (suc (least_open os)) 0 ≤ cond b (suc (least_open os)) 0) (sym (or_true (is_some o.withdrawn))) (at_most (is_closed o) (least_open os))
open_replied (o ∷ os) (suc n) w s = step_up (is_closed o) (least_open os) (least_open (altered os n (replied_with w s))) (open_replied os n w s)

open_within : (os : List OwnerOffer) → least_open os ≤ length os
open_within [] = omega arith
open_within (o ∷ os) = let ih = open_within os in elim (is_closed o) as (λ b. cond b (suc (least_open os)) 0 ≤ suc (length os)) [ true ↦ omega arith | false ↦ omega arith ]

-- a search for the first that is not, from one place to the next
after_first : (os : List OwnerOffer) (n : ℕ) (b : Bool) → suc n ≤ cond b (suc (least_open os)) 0 → (n ≤ least_open os) × (b ≡ true)
after_first os n true h = (omega arith, refl)
after_first os n false h = absurd (omega arith)

pub open_more : (os : List OwnerOffer) (n : ℕ) (d : OwnerOffer) → n ≤ least_open os → n < length os → is_closed (get_or os n d) ≡ true → n + 1 ≤ least_open os
open_more [] n d h l t = absurd (omega arith)
open_more (o ∷ os) zero d h l t = let e = ap (λ b. cond b (suc (least_open os)) 0) t in omega arith
open_more (o ∷ os) (suc n) d h l t =
    let a = after_first os n (is_closed o) h in
    let e = ap (λ b. cond b (suc (least_open os)) 0) a.1 in
    let ih = open_more os n d a.0 (omega arith) t in omega arith

pub open_stop : (os : List OwnerOffer) (n : ℕ) (d : OwnerOffer) → n ≤ least_open os → n < length os → is_closed (get_or os n d) ≡ false → n ≡ least_open os
open_stop [] n d h l t = absurd (omega arith)
open_stop (o ∷ os) zero d h l t = let e = ap (λ b. cond b (suc (least_open os)) 0) t in omega arith
open_stop (o ∷ os) (suc n) d h l t =
    let a = after_first os n (is_closed o) h in
    let e = ap (λ b. cond b (suc (least_open os)) 0) a.1 in
    let ih = open_stop os n d a.0 (omega arith) t in omega arith

pub open_end : (os : List OwnerOffer) (n : ℕ) → n ≤ least_open os → length os ≤ n → n ≡ least_open os
open_end os n h l = let a = open_within os in omega arith
