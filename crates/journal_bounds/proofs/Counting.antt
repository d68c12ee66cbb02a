-- How many entries one journal has, and all of them in their order, and how many of these make an offer or settle one.
-- By induction on the journals: counts add up over lists put together and do not change when a list is sorted.
use Rattle.std.proofs.Common.{◌≡◌, ℕ, zero, suc, ◌+◌, ◌-◌, ◌*◌, ◌<◌, ◌≤◌, List, [], ◌∷◌, ◌++◌, length, get_or, Bool, true, false, refl, ap, arith}
use Rattle.std.specs.Prelude.{nat_eq, nat_le, nat_lt, if◌then◌else◌}
use Rattle.std.proofs.lemmas.Bool.{eq-eqb}
use Rattle.std.proofs.lemmas.Bool.Decides.{nat_tests}
use Rattle.std.proofs.lemmas.List.{length-append}
use Rattle.std.proofs.Math.Nat.{suc-mul}
use Rattle.ac_base.specs.declared.entry.Event.{Event}
use Rattle.ac_base.specs.declared.entry.Event.TheVariants as event
use Rattle.ac_base.specs.declared.entry.Entry.{Entry}
use Rattle.ac_base.specs.declared.entry.Stamped.{Stamped}
use Rattle.ac_links.specs.Order.{of_party, placed, in_order}
use Rattle.ac_history.specs.Merged.{all_from}
use Rattle.journal_bounds.specs.Passes.{pass_of, passes_in}

-- ---- one journal

-- an offer that is withdrawn counts for one, and anything else for none
abbrev pub withdrawal_of : Event → ℕ
withdrawal_of (event.Withdraw link number) = 1
withdrawal_of other = 0

-- so for an offer that is made
abbrev pub offer_of : Event → ℕ
offer_of (event.Offer link number payload) = 1
offer_of other = 0

abbrev pub offers_in : List Entry → ℕ
offers_in [] = 0
offers_in (e ∷ es) = offer_of e.event + offers_in es

-- so for an offer that is passed over, or that the worker does
abbrev pub settles_of : Event → ℕ
settles_of (event.Pass link number) = 1
settles_of (event.Did link number answer) = 1
settles_of other = 0

pub passes_append : (xs ys : List Entry) → passes_in (xs ++ ys) ≡ passes_in xs + passes_in ys
passes_append [] ys = omega arith
passes_append (e ∷ xs) ys = let ih = passes_append xs ys in omega arith

pub offers_append : (xs ys : List Entry) → offers_in (xs ++ ys) ≡ offers_in xs + offers_in ys
offers_append [] ys = omega arith
offers_append (e ∷ xs) ys = let ih = offers_append xs ys in omega arith

-- ---- all journals

abbrev pub count : (Stamped → ℕ) → List Stamped → ℕ
count f [] = 0
count f (e ∷ es) = f e + count f es

count_append : (f : Stamped → ℕ) (xs ys : List Stamped) → count f (xs ++ ys) ≡ count f xs + count f ys
count_append f [] ys = omega arith
count_append f (e ∷ xs) ys = let ih = count_append f xs ys in omega arith

count_placed : (f : Stamped → ℕ) (key : Stamped → ℕ) (x : Stamped) (xs : List Stamped) → count f (placed key x xs) ≡ f x + count f xs
count_placed f key x [] = refl
count_placed f key x (y ∷ ys) = at (nat_le (key x) (key y)) (count_placed f key x ys)
  where
    at : (b : Bool) → count f (placed key x ys) ≡ f x + count f ys → count f (if b then x ∷ y ∷ ys else y ∷ placed key x ys) ≡ f x + (f y + count f ys)
    at true ih = refl
    at false ih = omega arith

pub count_in_order : (f : Stamped → ℕ) (key : Stamped → ℕ) (xs : List Stamped) → count f (in_order key xs) ≡ count f xs
count_in_order f key [] = refl
count_in_order f key (x ∷ xs) = let p = count_placed f key x (in_order key xs) in let ih = count_in_order f key xs in omega arith

-- whoever settles it
abbrev pub settled : Stamped → ℕ
settled e = settles_of e.entry.event

-- a party below this number offers it
abbrev pub offered_below : ℕ → Stamped → ℕ
offered_below cores e = if nat_lt e.party cores then offer_of e.entry.event else 0

-- the party of this number settles nothing by it
abbrev pub idle_of : ℕ → Stamped → ℕ
idle_of worker e = if nat_eq e.party worker then 1 - settles_of e.entry.event else 0

party_length : (p : ℕ) (es : List Entry) → length (of_party p es) ≡ length es
party_length p [] = refl
party_length p (e ∷ es) = ap suc (party_length p es)

at_most_settled : (v : Event) → pass_of v ≤ settles_of v
at_most_settled (event.Pass link number) = omega arith
at_most_settled (event.Did link number answer) = omega arith
at_most_settled other = omega arith

passed_by : (p : ℕ) (es : List Entry) → passes_in es ≤ count settled (of_party p es)
passed_by p [] = omega arith
passed_by p (e ∷ es) = let one = at_most_settled e.event in let ih = passed_by p es in omega arith

-- each entry of the worker settles an offer, or is idle
worked_by : (worker p : ℕ) → nat_eq p worker ≡ true → (es : List Entry) → length es ≤ count settled (of_party p es) + count (idle_of worker) (of_party p es)
worked_by worker p h [] = omega arith
worked_by worker p h (e ∷ es) =
    let ih = worked_by worker p h es in
    let one : (if nat_eq p worker then 1 - settles_of e.event else 0) ≡ 1 - settles_of e.event = ap (λ (c : Bool). if c then 1 - settles_of e.event else 0) h in
    omega arith

offered_by : (cores p : ℕ) (b : Bool) → nat_lt p cores ≡ b → (es : List Entry) → count (offered_below cores) (of_party p es) ≡ (if b then offers_in es else 0)
offered_by cores p true h [] = refl
offered_by cores p false h [] = refl
offered_by cores p true h (e ∷ es) =
    let ih = offered_by cores p true h es in
    let one : (if nat_lt p cores then offer_of e.event else 0) ≡ offer_of e.event = ap (λ (c : Bool). if c then offer_of e.event else 0) h in
    omega arith
offered_by cores p false h (e ∷ es) =
    let ih = offered_by cores p false h es in
    let none : (if nat_lt p cores then offer_of e.event else 0) ≡ 0 = ap (λ (c : Bool). if c then offer_of e.event else 0) h in
    omega arith

below : (p cores : ℕ) → p < cores → nat_lt p cores ≡ true
below p cores h = grind (arith, nat_tests)

not_below : (p cores : ℕ) → p ≡ cores → nat_lt p cores ≡ false
not_below p cores h = grind (arith, nat_tests)

-- of n journals of cores that make at most so many offers, and one more
pub few_offered : (most cores n p : ℕ) (js : List (List Entry)) → length js ≡ suc n → p + n ≡ cores → ((i : ℕ) → i < n → offers_in (get_or js i []) ≤ most)
    → count (offered_below cores) (all_from p js) ≤ n * most
few_offered most cores n p [] many at h = absurd (omega arith)
few_offered most cores zero p (j ∷ []) many at h =
    let a = count_append (offered_below cores) (of_party p j) [] in
    let b = offered_by cores p false (not_below p cores (omega arith)) j in
    omega arith
few_offered most cores zero p (j ∷ x ∷ js) many at h = absurd (omega arith)
few_offered most cores (suc n) p (j ∷ js) many at h =
    let a = count_append (offered_below cores) (of_party p j) (all_from (suc p) js) in
    let b = offered_by cores p true (below p cores (omega arith)) j in
    let c = h 0 (omega arith) in
    let ih = few_offered most cores n (suc p) js (omega arith) (omega arith) (λ i lt. h (suc i) (omega arith)) in
    let m = suc-mul n most in
    omega arith

-- of n journals, each of at most k entries beside its passes, and that of the worker
pub few_from : (worker n k p : ℕ) (js : List (List Entry)) → length js ≡ suc n → p + n ≡ worker → ((i : ℕ) → i < n → length (get_or js i []) ≤ k + passes_in (get_or js i []))
    → length (all_from p js) ≤ n * k + (count settled (all_from p js) + count (idle_of worker) (all_from p js))
few_from worker n k p [] many at h = absurd (omega arith)
few_from worker zero k p (j ∷ []) many at h =
    let a = length-append (of_party p j) [] in
    let b = party_length p j in
    let c = worked_by worker p (eq-eqb p worker (omega arith)) j in
    let d = count_append settled (of_party p j) [] in
    let e = count_append (idle_of worker) (of_party p j) [] in
    omega arith
few_from worker zero k p (j ∷ x ∷ js) many at h = absurd (omega arith)
few_from worker (suc n) k p (j ∷ js) many at h =
    let a = length-append (of_party p j) (all_from (suc p) js) in
    let b = party_length p j in
    let c = h 0 (omega arith) in
    let d = count_append settled (of_party p j) (all_from (suc p) js) in
    let e = count_append (idle_of worker) (of_party p j) (all_from (suc p) js) in
    let f = passed_by p j in
    let ih = few_from worker n k (suc p) js (omega arith) (omega arith) (λ i lt. h (suc i) (omega arith)) in
    let m = suc-mul n k in
    omega arith
