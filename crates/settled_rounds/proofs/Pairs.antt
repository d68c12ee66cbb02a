-- Two parties of a list are changed, one in each of two parts of it; the others stay.
use Rattle.std.proofs.Common.{◌≡◌, ◌++◌, List, [], ◌∷◌, ℕ, zero, suc, ◌<◌, length, get_or, slice_set, Some, subst, sym, refl, ap, arith, ◌∙◌}
use Rattle.std.proofs.lemmas.Grind.{common_steps}
use Rattle.std.specs.Prelude.{slice_get}
use Rattle.settled_rounds.specs.Linked.{Pointwise}
use Rattle.settled_rounds.proofs.Pointwise.{each_append, each_self}

pub same_Some : {X : Type 0} (x y : X) → Some x ≡ Some y → x ≡ y
same_Some x y e = cc

set_reads : {X : Type 0} (xs ys : List X) (i : ℕ) (c : X) → i < length xs → slice_get (slice_set xs i c ++ ys) i ≡ Some c
set_reads [] ys i c h = absurd (omega arith)
set_reads (x ∷ xs) ys zero c h = refl
set_reads (x ∷ xs) ys (suc i) c h = set_reads xs ys i c (omega arith)

tail_reads : {X : Type 0} (xs ys : List X) (j : ℕ) (d : X) → length xs ≡ j → 0 < length ys → slice_get (xs ++ slice_set ys 0 d) j ≡ Some d
tail_reads [] [] j d e h = absurd (omega arith)
tail_reads [] (y ∷ ys) zero d e h = refl
tail_reads [] (y ∷ ys) (suc j) d e h = absurd (omega arith)
tail_reads (x ∷ xs) ys zero d e h = absurd (omega arith)
tail_reads (x ∷ xs) ys (suc j) d e h = tail_reads xs ys j d (omega arith) h

back_reads : {X : Type 0} (xs ys : List X) (i j : ℕ) (c d : X) → length xs ≡ j → 0 < length ys → slice_get (slice_set xs i c ++ slice_set ys 0 d) j ≡ Some d
back_reads [] ys i j c d e h = tail_reads [] ys j d e h
back_reads (x ∷ xs) ys i zero c d e h = absurd (omega arith)
back_reads (x ∷ xs) ys zero (suc j) c d e h = tail_reads xs ys j d (omega arith) h
back_reads (x ∷ xs) ys (suc i) (suc j) c d e h = back_reads xs ys i j c d (omega arith) h

module _ {P : Type 0} (R : P → P → Type 0) (self : (p : P) → R p p) where
  each_set : (xs : List P) (i : ℕ) (x c : P) → R (get_or xs i x) c → i < length xs → Pointwise R xs (slice_set xs i c)
  each_set [] i x c h below = absurd (omega arith)
  each_set (y ∷ ys) zero x c h below = (h, each_self R self ys)
  each_set (y ∷ ys) (suc i) x c h below = (self y, each_set ys i x c h (omega arith))

  pub two_each : (all front back : List P) (i j : ℕ) (x y c d : P) → all ≡ front ++ back → length front ≡ j → i < j → j < length all
      → R (get_or front i x) c → R (get_or back 0 y) d → Pointwise R all (slice_set front i c ++ slice_set back 0 d)
  two_each all front back i j x y c d e len below inside one two =
      let some : 0 < length back = grind (arith, common_steps, ap length e) in
      subst (λ (xs : List P). Pointwise R xs (slice_set front i c ++ slice_set back 0 d)) (sym e)
      (each_append R front (slice_set front i c) back (slice_set back 0 d) (each_set front i x c one (omega arith)) (each_set back 0 y d two some))

pub two_read : {P : Type 0} (all front back : List P) (i j : ℕ) (c d : P) → all ≡ front ++ back → length front ≡ j → i < j → j < length all
    → (slice_get (slice_set front i c ++ slice_set back 0 d) i ≡ Some c) × (slice_get (slice_set front i c ++ slice_set back 0 d) j ≡ Some d)
two_read all front back i j c d e len below inside =
    let some : 0 < length back = grind (arith, common_steps, ap length e) in
    (set_reads front (slice_set back 0 d) i c (omega arith), back_reads front back i j c d len some)

front_gets : {P : Type 0} (front back : List P) (i : ℕ) (x : P) → i < length front → slice_get (front ++ back) i ≡ Some (get_or front i x)
front_gets [] back i x l = absurd (omega arith)
front_gets (y ∷ front) back zero x l = refl
front_gets (y ∷ front) back (suc i) x l = front_gets front back i x (omega arith)

back_gets : {P : Type 0} (front back : List P) (j : ℕ) (y : P) → length front ≡ j → 0 < length back → slice_get (front ++ back) j ≡ Some (get_or back 0 y)
back_gets [] [] j y e l = absurd (omega arith)
back_gets [] (z ∷ back) zero y e l = refl
back_gets [] (z ∷ back) (suc j) y e l = absurd (omega arith)
back_gets (x ∷ front) back zero y e l = absurd (omega arith)
back_gets (x ∷ front) back (suc j) y e l = back_gets front back j y (omega arith) l

-- the two that are changed, as they stood in the whole list
pub two_stand : {P : Type 0} (all front back : List P) (i j : ℕ) (x y : P) → all ≡ front ++ back → length front ≡ j → i < j → j < length all
    → (slice_get all i ≡ Some (get_or front i x)) × (slice_get all j ≡ Some (get_or back 0 y))
two_stand all front back i j x y e len below inside =
    let some : 0 < length back = grind (arith, common_steps, ap length e) in
    (ap (λ l. slice_get l i) e ∙ front_gets front back i x (omega arith), ap (λ l. slice_get l j) e ∙ back_gets front back j y len some)
