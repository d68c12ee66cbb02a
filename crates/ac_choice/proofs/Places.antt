-- What is so of the elements of a list by their places stays so where another element is put in one place.
use Rattle.std.proofs.Common.{◌≡◌, ℕ, zero, suc, ◌<◌, ◌≤◌, List, [], ◌∷◌, Some, length, slice_set, refl, sym, ap, ◌∙◌, subst, arith, ⊎_elim}
use Rattle.std.specs.Prelude.{slice_get}
use Rattle.std.proofs.lemmas.Option.{slice_get_within}
use Rattle.std.proofs.lemmas.Bool.{cases_eq}
use Rattle.ac_choice.specs.AnyOf.{SoAt}

pub get_same : {X : Type 0} (xs : List X) (i : ℕ) (y : X) → i < length xs → slice_get (slice_set xs i y) i ≡ Some y
get_same [] i y h = absurd (omega arith)
get_same (x ∷ xs) zero y h = refl
get_same (x ∷ xs) (suc i) y h = get_same xs i y (omega arith)

pub get_other : {X : Type 0} (xs : List X) (i k : ℕ) (y : X) → (k ≡ i → ⊥) → slice_get (slice_set xs i y) k ≡ slice_get xs k
get_other [] i k y n = refl
get_other (x ∷ xs) zero zero y n = absurd (n refl)
get_other (x ∷ xs) zero (suc k) y n = refl
get_other (x ∷ xs) (suc i) zero y n = refl
get_other (x ∷ xs) (suc i) (suc k) y n = get_other xs i k y (λ e. n (ap suc e))

pub same_Some : {X : Type 0} (x y : X) → Some x ≡ Some y → x ≡ y
same_Some x y e = cc

-- there is no element at a place past the end
pub so_beyond : {X : Type 0} (R : X → X → Type 0) (old new : List X) (k : ℕ) → length old ≤ k → SoAt R old k new
so_beyond R old new k past = λ a b from to. absurd (let h = slice_get_within old k a from in omega (arith, h, past))

module _ {X : Type 0} (old cur : List X) (at : ℕ) (a b : X) (was : slice_get old at ≡ Some a) (within : at < length cur) where
  pub so_here : (R : X → X → Type 0) → R a b → SoAt R old at (slice_set cur at b)
  so_here R r = λ x y from to.
      let e : a ≡ x = same_Some a x (sym was ∙ from) in
      let f : b ≡ y = same_Some b y (sym (get_same cur at b within) ∙ to) in
      subst (λ z. R z y) e (subst (λ z. R a z) f r)

  pub so_there : (R : X → X → Type 0) (k : ℕ) → (k ≡ at → ⊥) → SoAt R old k cur → SoAt R old k (slice_set cur at b)
  so_there R k n so = λ x y from to. so x y from (sym (get_other cur at k b n) ∙ to)

  pub so_each : (R : X → X → Type 0) → R a b → ((k : ℕ) → SoAt R old k cur) → (k : ℕ) → SoAt R old k (slice_set cur at b)
  so_each R r so k = ⊎_elim (λ (e : k ≡ at). subst (λ n. SoAt R old n (slice_set cur at b)) (sym e) (so_here R r)) (λ (n : k ≡ at → ⊥). so_there R k n (so k)) (cases_eq k at)
