-- A search for the oldest operation for which a test holds: what it finds, and as far as it has come.
-- For the loop of `oldest_to_try`: among the operations looked at the test holds for none, so the first for which it holds is the oldest.
use Rattle.std.proofs.Common.{◌≡◌, ℕ, suc, ◌+◌, ◌<◌, ◌≤◌, List, ◌∷◌, [], length, get_or, drop, drop-cons, refl, sym, ap, ◌∙◌}
use Rattle.std.specs.Prelude.{Option, Some, None, Bool, false, true, not, ◌&&◌, cond, find, position}
use Rattle.std.specs.List.{position_from}
use Rattle.std.proofs.Math.ListN.{drop_of_length-le}
use Rattle.std.proofs.lemmas.Iterator.Adapters.{position_from-zero}
use Rattle.cancel_scope.specs.declared.operation.Operation.{Operation}
use Rattle.cancel_scope.specs.Outstanding.{has_begun}
use Rattle.core_state.specs.Cancelling.{is_to_try}

-- ---- what is found

holds_by : (test : Operation → Bool) (x o : Operation) (xs : List Operation) (b : Bool) → test x ≡ b → cond b (Some x) (find test xs) ≡ Some o → (find test xs ≡ Some o → test o ≡ true) → test o ≡ true
holds_by test x o xs true is h more = let same : x ≡ o = cc in sym (ap test same) ∙ is
holds_by test x o xs false is h more = more h

-- the test holds for it
found_holds : (test : Operation → Bool) (xs : List Operation) (o : Operation) → find test xs ≡ Some o → test o ≡ true
found_holds test [] o h = let no : ◌≡◌ {A = Option Operation} None (Some o) = h in cc
found_holds test (x ∷ xs) o h = holds_by test x o xs (test x) refl h (found_holds test xs o)

not_begun : (inside begun : Bool) → (inside && not begun) ≡ true → begun ≡ false
not_begun true true h = sym h
not_begun true false h = refl
not_begun false true h = sym h
not_begun false false h = refl

-- its peer has not begun what is to be tried
pub is_not_begun : (inside : Operation → Bool) (xs : List Operation) (o : Operation) → find (is_to_try inside) xs ≡ Some o → has_begun o.progress ≡ false
is_not_begun inside xs o h = not_begun (inside o) (has_begun o.progress) (found_holds (is_to_try inside) xs o h)

-- ---- as far as a search has come

module _ (test : Operation → Bool) (xs : List Operation) (i : ℕ) (so_far : position_from test i (drop i xs) ≡ position_from test 0 xs) where
  -- here it is
  pub found_now : (o : Operation) → i < length xs → o ≡ get_or xs i o → test o ≡ true → Some i ≡ position test xs
  found_now o lt is holds =
      let next : drop i xs ≡ o ∷ drop (suc i) xs = drop-cons xs i o lt ∙ ap (λ x. x ∷ drop (suc i) xs) (sym is) in
      sym (ap (position_from test i) next ∙ ap (λ (b : Bool). cond b (Some i) (position_from test (i + 1) (drop (suc i) xs))) holds) ∙ so_far ∙ sym (position_from-zero test xs)

  -- there is none
  pub none_more : length xs ≤ i → None ≡ position test xs
  none_more le = sym (ap (position_from test i) (drop_of_length-le xs le)) ∙ so_far ∙ sym (position_from-zero test xs)
