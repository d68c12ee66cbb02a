-- Who stands at which place among the parties, as a merge begins and after a run.
use Rattle.std.proofs.Common.{◌≡◌, ℕ, zero, suc, ◌+◌, ◌<◌, List, [], ◌∷◌, ◌++◌, Some, length, map, refl, ap, subst, arith}
use Rattle.std.specs.Prelude.{slice_get}
use Rattle.settled_rounds.specs.Linked.{Pointwise}

pub same_Some : {X : Type 0} (x y : X) → Some x ≡ Some y → x ≡ y
same_Some x y e = cc

pub exists : {X : Type 0} (xs : List X) (k : ℕ) → k < length xs → (x : X) × (slice_get xs k ≡ Some x)
exists [] k l = absurd (omega (arith, l))
exists (x ∷ xs) zero l = (x, refl)
exists (x ∷ xs) (suc k) l = exists xs k (omega (arith, l))

module _ {X Y : Type 0} (f : X → Y) where
  -- one of the first
  pub among : (xs : List X) (ys : List Y) (k : ℕ) → k < length xs → (x : X) × (slice_get xs k ≡ Some x) × (slice_get (map f xs ++ ys) k ≡ Some (f x))
  among [] ys k l = absurd (omega (arith, l))
  among (x ∷ xs) ys zero l = (x, refl, refl)
  among (x ∷ xs) ys (suc k) l = among xs ys k (omega (arith, l))

  -- the one after them
  pub next : (xs : List X) (y : Y) (ys : List Y) → slice_get (map f xs ++ y ∷ ys) (length xs) ≡ Some y
  next [] y ys = refl
  next (x ∷ xs) y ys = next xs y ys

  -- and the one after that
  pub next_but_one : (xs : List X) (y z : Y) (ys : List Y) → slice_get (map f xs ++ y ∷ z ∷ ys) (suc (length xs)) ≡ Some z
  next_but_one [] y z ys = refl
  next_but_one (x ∷ xs) y z ys = next_but_one xs y z ys

  pub all_of : (xs : List X) (ys : List Y) → length (map f xs ++ ys) ≡ length xs + length ys
  all_of [] ys = omega arith
  all_of (x ∷ xs) ys = let r = all_of xs ys in omega (arith, r)

  -- one more
  pub one_more : (xs : List X) (x : X) → map f (xs ++ x ∷ []) ≡ map f xs ++ f x ∷ []
  one_more [] x = refl
  one_more (y ∷ xs) x = ap (λ zs. f y ∷ zs) (one_more xs x)

-- the last one
pub last_at : {X : Type 0} (xs : List X) (x : X) → slice_get (xs ++ x ∷ []) (length xs) ≡ Some x
last_at [] x = refl
last_at (y ∷ xs) x = last_at xs x

-- of a list to which one more is put
pub get_front : {X : Type 0} (xs : List X) (x : X) (k : ℕ) → k < length xs → slice_get (xs ++ x ∷ []) k ≡ slice_get xs k
get_front [] x k l = absurd (omega (arith, l))
get_front (y ∷ xs) x zero l = refl
get_front (y ∷ xs) x (suc k) l = get_front xs x k (omega (arith, l))

-- ---- after a run

module _ {P : Type 0} (R : P → P → Type 0) where
  pub after_count : (ps qs : List P) → Pointwise R ps qs → length qs ≡ length ps
  after_count [] [] h = refl
  after_count [] (q ∷ qs) h = absurd h
  after_count (p ∷ ps) [] h = absurd h
  after_count (p ∷ ps) (q ∷ qs) h = let e = after_count ps qs h.1 in omega (arith, e)

  pub after_at : (ps qs : List P) (k : ℕ) (p : P) → Pointwise R ps qs → slice_get ps k ≡ Some p → (q : P) × (slice_get qs k ≡ Some q) × R p q
  after_at [] qs k p h at = absurd cc
  after_at (x ∷ ps) [] k p h at = absurd h
  after_at (x ∷ ps) (y ∷ qs) zero p h at = (y, refl, subst (λ z. R z y) (same_Some x p at) h.0)
  after_at (x ∷ ps) (y ∷ qs) (suc k) p h at = after_at ps qs k p h.1 at
