-- What an end has taken grows with each offer that it takes, and stays where it passes one; what was offered of one end grows likewise.
use Rattle.std.proofs.Common.{◌≡◌, ℕ, zero, suc, List, [], ◌∷◌, ◌++◌, Some, None, true, false, length, refl, sym, ap, ◌∙◌, cond, arith, map, inl, inr, ⊎_elim, append_assoc}
use Rattle.std.specs.Prelude.{slice_get, ◌==◌, ◌⊎◌}
use Rattle.std.specs.List.{filter}
use Rattle.std.proofs.lemmas.List.{append-nil, map-append}
use Rattle.std.proofs.lemmas.List.Elements.{filter-append}
use Rattle.std.proofs.lemmas.Bool.Decides.{nat_tests}
use Rattle.completion_word.specs.declared.views.Decision.{Decision}
use Rattle.completion_word.specs.declared.views.DecisionKind.{DecisionKind}
use Rattle.channel_ends.specs.Receiving.{Receiving, Decides}
use Rattle.ac_choice.specs.declared.answers.Tagged.{Tagged}
use Rattle.ac_choice.specs.AnyOf.{SoAt, SameList}
use Rattle.ac_choice.specs.Relaying.{of_end, if_taken, taken_by, taken_of, taken_at}

-- the elements at one place of two lists of one length
pub both_at : {X : Type 0} (xs ys : List X) (k : ℕ) → length ys ≡ length xs
    → ((x : X) × (y : X) × (slice_get xs k ≡ Some x) × (slice_get ys k ≡ Some y)) ⊎ ((slice_get xs k ≡ None) × (slice_get ys k ≡ None))
both_at [] [] k e = inr (refl, refl)
both_at [] (y ∷ ys) k e = absurd (omega arith)
both_at (x ∷ xs) [] k e = absurd (omega arith)
both_at (x ∷ xs) (y ∷ ys) zero e = inl (x, y, refl, refl)
both_at (x ∷ xs) (y ∷ ys) (suc k) e = both_at xs ys k (omega arith)

module _ {M : Type 0} where
  pub taken_more : (xs : List M) (ds : List Decision) (x : M) (d : Decision) → length xs ≡ length ds
      → taken_by (xs ++ x ∷ []) (ds ++ d ∷ []) ≡ taken_by xs ds ++ if_taken x d.outcome
  taken_more [] [] x d e = append-nil (if_taken x d.outcome)
  taken_more [] (c ∷ ds) x d e = absurd (omega arith)
  taken_more (y ∷ ys) [] x d e = absurd (omega arith)
  taken_more (y ∷ ys) (c ∷ ds) x d e =
      ap (λ r. if_taken y c.outcome ++ r) (taken_more ys ds x d (omega arith)) ∙ sym (append_assoc (if_taken y c.outcome) (taken_by ys ds) (if_taken x d.outcome))

  same_taken : (x y : Receiving M) → SameList x y → taken_of (Some y) ≡ taken_of (Some x)
  same_taken x y s = ap (λ p. taken_by p y.peer.decisions) s.1 ∙ ap (λ d. taken_by x.popped d) s.0

  pub taken_same : (ins ins' : List (Receiving M)) (k : ℕ) → length ins' ≡ length ins → SoAt SameList ins k ins' → taken_at ins' k ≡ taken_at ins k
  taken_same ins ins' k count so =
      ⊎_elim (λ (h : (x : Receiving M) × (y : Receiving M) × (slice_get ins k ≡ Some x) × (slice_get ins' k ≡ Some y)).
      ap taken_of h.3 ∙ same_taken h.0 h.1 (so h.0 h.1 h.2 h.3) ∙ sym (ap taken_of h.2))
      (λ (h : (slice_get ins k ≡ None) × (slice_get ins' k ≡ None)). ap taken_of h.1 ∙ sym (ap taken_of h.0)) (both_at ins ins' k count)

  pub taken_there : (a b : Receiving M) (last number s : ℕ) (how : DecisionKind) (value : M) → length a.popped ≡ length a.peer.decisions
      → Decides a last number how s value b → taken_of (Some b) ≡ taken_of (Some a) ++ if_taken value how
  taken_there a b last number s how value each h =
      ap (λ p. taken_by p b.peer.decisions) h.popped ∙ ap (λ d. taken_by (a.popped ++ value ∷ []) d) h.decisions
      ∙ taken_more a.popped a.peer.decisions value _ each

-- ---- what was offered, by ends

pub of_more : (i : ℕ) (ms : List Tagged) (m : Tagged) → of_end i (ms ++ m ∷ []) ≡ of_end i ms ++ of_end i (m ∷ [])
of_more i ms m =
    ap (map (λ (m : Tagged). m.value)) (filter-append (λ (m : Tagged). m.end == i) ms (m ∷ []))
    ∙ map-append (λ (m : Tagged). m.value) (filter (λ (m : Tagged). m.end == i) ms) (filter (λ (m : Tagged). m.end == i) (m ∷ []))

is_it : (m n : ℕ) → m ≡ n → (m == n) ≡ true
is_it m n h = grind (arith, nat_tests)

is_other : (m n : ℕ) → (m ≡ n → ⊥) → (m == n) ≡ false
is_other m n h = grind (arith, nat_tests)

pub of_it : (i : ℕ) (m : Tagged) → m.end ≡ i → of_end i (m ∷ []) ≡ m.value ∷ []
of_it i m e = ap (λ b. map (λ (m : Tagged). m.value) (cond b (m ∷ []) [])) (is_it m.end i e)

pub of_other : (i : ℕ) (m : Tagged) → (m.end ≡ i → ⊥) → of_end i (m ∷ []) ≡ []
of_other i m n = ap (λ b. map (λ (m : Tagged). m.value) (cond b (m ∷ []) [])) (is_other m.end i n)
