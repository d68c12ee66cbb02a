-- Counts of requests.
-- `Outstanding` keeps how many of its operations are requests beside their list. By induction over the list: a change keeps the count,
-- taking one away lowers it by what that one counts, and it is 0 just where none is a request.
use Rattle.std.proofs.Common.{◌≡◌, ℕ, zero, suc, ◌+◌, ◌≤◌, ◌<◌, List, [], ◌∷◌, length, get_or, refl, sym, ap, ◌∙◌, arith}
use Rattle.std.proofs.lemmas.Option.{slice_get_read}
use Rattle.std.specs.Prelude.{Some, None, Bool, true, false, not, nat_eq, cond, slice_get, slice_set, ◌||◌}
use Rattle.std.specs.List.{list_any, remove, filter}
use Rattle.std.proofs.lemmas.Bool.{ne_eqb}
use Rattle.cancel_scope.specs.declared.operation.Operation.{Operation}
use Rattle.cancel_scope.specs.Outstanding.{is_request}

abbrev pub requests_among : List Operation → ℕ
requests_among os = length (filter (λ o. is_request o.asked) os)

abbrev pub count_of : Bool → ℕ
count_of true = 1
count_of false = 0

one_more : (b : Bool) (x : Operation) (xs : List Operation) → length (cond b (x ∷ filter (λ o. is_request o.asked) xs) (filter (λ o. is_request o.asked) xs)) ≡ count_of b + requests_among xs
one_more true x xs = omega arith
one_more false x xs = omega arith

pub count_first : (x : Operation) (xs : List Operation) → requests_among (x ∷ xs) ≡ count_of (is_request x.asked) + requests_among xs
count_first x xs = one_more (is_request x.asked) x xs

-- one is changed, and stays what it is
pub count_changed : (xs : List Operation) (i : ℕ) (x y : Operation) → slice_get xs i ≡ Some x → is_request y.asked ≡ is_request x.asked
    → requests_among (slice_set xs i y) ≡ requests_among xs
count_changed [] i x y at same = let no : None ≡ Some x = at in cc
count_changed (z ∷ xs) zero x y at same =
    let is : z ≡ x = cc in
    count_first y xs ∙ ap (λ b. count_of b + requests_among xs) (same ∙ ap (λ (o : Operation). is_request o.asked) (sym is)) ∙ sym (count_first z xs)
count_changed (z ∷ xs) (suc i) x y at same =
    count_first z (slice_set xs i y) ∙ ap (λ k. count_of (is_request z.asked) + k) (count_changed xs i x y at same) ∙ sym (count_first z xs)

-- one is taken away
pub count_removed : (xs : List Operation) (i : ℕ) (x : Operation) → slice_get xs i ≡ Some x
    → requests_among xs ≡ count_of (is_request x.asked) + requests_among (remove xs i)
count_removed [] i x at = let no : None ≡ Some x = at in cc
count_removed (z ∷ xs) zero x at =
    let is : z ≡ x = cc in
    count_first z xs ∙ ap (λ (o : Operation). count_of (is_request o.asked) + requests_among xs) is
count_removed (z ∷ xs) (suc i) x at =
    let first = count_first z xs in
    let rest = count_removed xs i x at in
    let after : requests_among (remove (z ∷ xs) (suc i)) ≡ count_of (is_request z.asked) + requests_among (remove xs i) = count_first z (remove xs i) in
    omega (arith, first, rest, after)

pub count_without : (xs after : List Operation) (i k : ℕ) (x : Operation) → i < length xs → x ≡ get_or xs i x → after ≡ remove xs i → k ≡ requests_among xs
    → k ≡ count_of (is_request x.asked) + requests_among after
count_without xs after i k x within read is counted =
    counted ∙ count_removed xs i x (slice_get_read xs (length xs) i x refl within read) ∙ ap (λ (ys : List Operation). count_of (is_request x.asked) + requests_among ys) (sym is)

-- there are as many at least
pub count_within : (xs : List Operation) → requests_among xs ≤ length xs
count_within [] = omega arith
count_within (x ∷ xs) =
    let first = count_first x xs in
    let rest = count_within xs in
    let one = at_most_one (is_request x.asked) in
    omega (arith, first, rest, one)
  where
    at_most_one : (b : Bool) → count_of b ≤ 1
    at_most_one true = omega arith
    at_most_one false = omega arith

by_first : (b : Bool) (k : ℕ) (any : Bool) → not (nat_eq k 0) ≡ any → not (nat_eq (count_of b + k) 0) ≡ (b || any)
by_first true k any rest = let positive : nat_eq (1 + k) 0 ≡ false = ne_eqb (1 + k) 0 (λ e. let no : ⊥ = omega (arith, e) in no) in ap not positive
by_first false k any rest = let same : 0 + k ≡ k = omega arith in ap (λ n. not (nat_eq n 0)) same ∙ rest

pub any_counted : (xs : List Operation) → not (nat_eq (requests_among xs) 0) ≡ list_any (λ o. is_request o.asked) xs
any_counted [] = refl
any_counted (x ∷ xs) =
    ap (λ k. not (nat_eq k 0)) (count_first x xs) ∙ by_first (is_request x.asked) (requests_among xs) _ (any_counted xs)
