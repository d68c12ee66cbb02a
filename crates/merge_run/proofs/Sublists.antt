-- What is left of a list once some elements are taken out, and of that again, is left of it; and where it has as many elements it is all.
use Rattle.std.proofs.Common.{◌≡◌, ℕ, zero, suc, ◌+◌, ◌*◌, ◌≤◌, ◌<◌, List, [], ◌∷◌, ◌++◌, Bool, true, false, cond, length, map, take, get_or}
use Rattle.std.proofs.Common.{refl, sym, ap, ◌∙◌, subst, arith, inl, inr, ⊎_elim, pos}
use Rattle.std.specs.Prelude.{◌==◌}
use Rattle.std.specs.List.{filter}
use mathlib.Core.List.{IsPrefix}
use Rattle.std.proofs.lemmas.List.{length-append, append-nil, take_more}
use Rattle.std.proofs.lemmas.Bool.{cases_lt}
use Rattle.completion_word.specs.declared.views.Decision.{Decision}
use Rattle.completion_word.specs.declared.views.DecisionKind.{DecisionKind}
use Rattle.completion_word.specs.declared.views.DecisionKind.TheVariants as outcome
use Rattle.ac_choice.specs.declared.answers.Tagged.{Tagged}
use Rattle.ac_choice.specs.Relaying.{of_end, if_taken, taken_by}
use Rattle.ac_choice.proofs.Lists.{of_more, of_it, of_other}
use Rattle.merge_run.specs.Series.{series}
use Rattle.merge_run.specs.inner.Parts.{IsPartOf}

module _ {X : Type 0} where
  pub part_self : (xs : List X) → IsPartOf xs xs
  part_self [] = tt
  part_self (x ∷ xs) = inl (refl, part_self xs)

  part_more : (y : X) (xs ys : List X) → IsPartOf xs ys → IsPartOf xs (y ∷ ys)
  part_more y [] ys h = tt
  part_more y (x ∷ xs) ys h = inr h

  pub part_then : (xs ys zs : List X) → IsPartOf xs ys → IsPartOf ys zs → IsPartOf xs zs
  part_then [] ys zs h k = tt
  part_then (x ∷ xs) [] zs h k = absurd h
  part_then (x ∷ xs) (y ∷ ys) [] h k = absurd k
  part_then (x ∷ xs) (y ∷ ys) (z ∷ zs) h k =
      ⊎_elim (λ (q : (y ≡ z) × IsPartOf ys zs).
      ⊎_elim (λ (p : (x ≡ y) × IsPartOf xs ys). inl (p.0 ∙ q.0, part_then xs ys zs p.1 q.1))
      (λ (p : IsPartOf (x ∷ xs) ys). inr (part_then (x ∷ xs) ys zs p q.1)) h)
      (λ (q : IsPartOf (y ∷ ys) zs). inr (part_then (x ∷ xs) (y ∷ ys) zs h q)) k

  pub part_of_none : (xs : List X) → IsPartOf xs [] → xs ≡ []
  part_of_none [] h = refl
  part_of_none (x ∷ xs) h = absurd h

  part_count : (xs ys : List X) → IsPartOf xs ys → length xs ≤ length ys
  part_count [] ys h = omega arith
  part_count (x ∷ xs) [] h = absurd h
  part_count (x ∷ xs) (y ∷ ys) h =
      ⊎_elim (λ (p : (x ≡ y) × IsPartOf xs ys). let l = part_count xs ys p.1 in omega (arith, l))
      (λ (p : IsPartOf (x ∷ xs) ys). let l = part_count (x ∷ xs) ys p in omega (arith, l)) h

  pub part_whole : (xs ys : List X) → IsPartOf xs ys → length ys ≤ length xs → xs ≡ ys
  part_whole [] [] h l = refl
  part_whole [] (y ∷ ys) h l = absurd (omega (arith, l))
  part_whole (x ∷ xs) [] h l = absurd h
  part_whole (x ∷ xs) (y ∷ ys) h l =
      ⊎_elim (λ (p : (x ≡ y) × IsPartOf xs ys). ap (λ z. z ∷ xs) p.0 ∙ ap (λ zs. y ∷ zs) (part_whole xs ys p.1 (omega (arith, l))))
      (λ (p : IsPartOf (x ∷ xs) ys). absurd (let k = part_count (x ∷ xs) ys p in omega (arith, l, k))) h

  pub part_front : (xs zs : List X) → IsPartOf xs (xs ++ zs)
  part_front [] zs = tt
  part_front (x ∷ xs) zs = inl (refl, part_front xs zs)

  -- ---- what an end has taken, of what came out of its ring

  by_kind : (x : X) (k : DecisionKind) (us xs : List X) → IsPartOf us xs → IsPartOf (if_taken x k ++ us) (x ∷ xs)
  by_kind x (outcome.Taken t) us xs h = inl (refl, h)
  by_kind x (outcome.Passed t) us xs h = part_more x us xs h

  pub taken_part : (xs : List X) (ds : List Decision) → IsPartOf (taken_by xs ds) xs
  taken_part [] ds = tt
  taken_part (x ∷ xs) [] = tt
  taken_part (x ∷ xs) (d ∷ ds) = by_kind x d.outcome (taken_by xs ds) xs (taken_part xs ds)

  -- ---- by a test

  kept_by : (b : Bool) (x : X) (us vs : List X) → IsPartOf us vs → IsPartOf (cond b (x ∷ us) us) (cond b (x ∷ vs) vs)
  kept_by true x us vs h = inl (refl, h)
  kept_by false x us vs h = h

  more_by : (b : Bool) (y : X) (us vs : List X) → IsPartOf us vs → IsPartOf us (cond b (y ∷ vs) vs)
  more_by true y us vs h = part_more y us vs h
  more_by false y us vs h = h

-- ---- the messages of one end

pub of_cons : (i : ℕ) (m : Tagged) (ms : List Tagged) → of_end i (m ∷ ms) ≡ cond (m.end == i) (m.value ∷ of_end i ms) (of_end i ms)
of_cons i m ms = by (m.end == i)
  where
    by : (b : Bool) → map (λ (m : Tagged). m.value) (cond b (m ∷ filter (λ (m : Tagged). m.end == i) ms) (filter (λ (m : Tagged). m.end == i) ms))
        ≡ cond b (m.value ∷ of_end i ms) (of_end i ms)
    by true = refl
    by false = refl

pub of_part : (i : ℕ) (ms ns : List Tagged) → IsPartOf ms ns → IsPartOf (of_end i ms) (of_end i ns)
of_part i [] ns h = tt
of_part i (m ∷ ms) [] h = absurd h
of_part i (m ∷ ms) (n ∷ ns) h =
    subst (λ vs. IsPartOf (of_end i (m ∷ ms)) vs) (sym (of_cons i n ns))
    (⊎_elim (λ (p : (m ≡ n) × IsPartOf ms ns).
    subst (λ us. IsPartOf us (cond (n.end == i) (n.value ∷ of_end i ns) (of_end i ns))) (sym (ap (λ z. of_end i (z ∷ ms)) p.0 ∙ of_cons i n ms))
    (kept_by (n.end == i) n.value (of_end i ms) (of_end i ns) (of_part i ms ns p.1)))
    (λ (p : IsPartOf (m ∷ ms) ns). more_by (n.end == i) n.value (of_end i (m ∷ ms)) (of_end i ns) (of_part i (m ∷ ms) ns p)) h)

-- ---- what was sent so far, of all that is sent

pub series_part : (m n width tag : ℕ) → m ≤ n → IsPartOf (series m width tag) (series n width tag)
series_part m zero width tag l = let e : 0 ≡ m = omega (arith, l) in subst (λ k. IsPartOf (series k width tag) []) e tt
series_part m (suc n) width tag l =
    ⊎_elim (λ (s : m < suc n). part_then (series m width tag) (series n width tag) (series (suc n) width tag)
    (series_part m n width tag (omega (arith, s))) (part_front (series n width tag) (pos (n * width + tag) ∷ [])))
    (λ (g : suc n ≤ m). let e : suc n ≡ m = omega (arith, l, g) in subst (λ k. IsPartOf (series k width tag) (series (suc n) width tag)) e (part_self (series (suc n) width tag)))
    (cases_lt m (suc n))

pub series_count : (n width tag : ℕ) → length (series n width tag) ≡ n
series_count zero width tag = refl
series_count (suc n) width tag =
    let a = length-append (series n width tag) (pos (n * width + tag) ∷ []) in let b = series_count n width tag in omega (arith, a, b)

pub part_prefix : {X : Type 0} (xs ys : List X) → IsPrefix xs ys → IsPartOf xs ys
part_prefix xs ys h = subst (λ zs. IsPartOf xs zs) h.1 (part_front xs h.0)

-- ---- how many messages of one end there are

module _ (i : ℕ) (ms : List Tagged) (k : ℕ) (d : Tagged) (within : k < length ms) where
  of_take : of_end i (take (k + 1) ms) ≡ of_end i (take k ms) ++ of_end i (get_or ms k d ∷ [])
  of_take = ap (of_end i) (take_more ms k d within) ∙ of_more i (take k ms) (get_or ms k d)

  pub count_it : (get_or ms k d).end ≡ i → length (of_end i (take (k + 1) ms)) ≡ length (of_end i (take k ms)) + 1
  count_it e =
      ap length (of_take ∙ ap (λ xs. of_end i (take k ms) ++ xs) (of_it i (get_or ms k d) e)) ∙ length-append (of_end i (take k ms)) ((get_or ms k d).value ∷ [])

  pub count_other : ((get_or ms k d).end ≡ i → ⊥) → length (of_end i (take (k + 1) ms)) ≡ length (of_end i (take k ms))
  count_other n = ap length (of_take ∙ ap (λ xs. of_end i (take k ms) ++ xs) (of_other i (get_or ms k d) n) ∙ append-nil (of_end i (take k ms)))
