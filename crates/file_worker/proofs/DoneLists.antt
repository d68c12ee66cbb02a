-- The count of what was done, entry by entry.
use Rattle.std.proofs.Common.{◌≡◌, ℕ, zero, suc, ◌+◌, List, [], ◌∷◌, Some, Bool, true, false, cond, refl, ap, ◌∙◌, arith, length}
use Rattle.std.specs.Prelude.{◌<◌, drop, slice_get}
use Rattle.std.specs.List.{filter}
use Rattle.ac_base.specs.declared.entry.Entry.{Entry}
use Rattle.ac_base.specs.Done.{is_done_on}
use Rattle.file_worker.specs.Ends.{done_on}

rest : {X : Type 0} (xs : List X) (n : ℕ) (x : X) → slice_get xs n ≡ Some x → drop n xs ≡ x ∷ drop (suc n) xs
rest [] n x e = cc
rest (y ∷ xs) zero x e = let same : y ≡ x = cc in ap (λ z. z ∷ xs) same
rest (y ∷ xs) (suc n) x e = rest xs n x e

-- below the length there is an element
pub one_there : {X : Type 0} (xs : List X) (n : ℕ) → n < length xs → (x : X) × (slice_get xs n ≡ Some x)
one_there [] n l = absurd (omega (arith, l))
one_there (x ∷ xs) zero l = (x, refl)
one_there (x ∷ xs) (suc n) l = one_there xs n (omega (arith, l))

-- the next entry is counted, or it is none of those
module _ (link : ℕ) (es : List Entry) (n : ℕ) (e : Entry) (at : slice_get es n ≡ Some e) where
  left : (b : Bool) → is_done_on link e.event ≡ b → done_on link (drop n es) ≡ length (cond b (e ∷ filter (λ x. is_done_on link x.event) (drop (suc n) es)) (filter (λ x. is_done_on link x.event) (drop
      (suc n) es)))
  left b is = ap (done_on link) (rest es n e at) ∙ ap (λ c. length (cond c (e ∷ filter (λ x. is_done_on link x.event) (drop (suc n) es)) (filter (λ x. is_done_on link x.event) (drop (suc n) es)))) is

  next : done_on link (drop (suc n) es) ≡ done_on link (drop (n + 1) es)
  next = ap (λ m. done_on link (drop m es)) (let e : suc n ≡ n + 1 = omega arith in e)

  pub one_done : is_done_on link e.event ≡ true → done_on link (drop n es) ≡ done_on link (drop (n + 1) es) + 1
  one_done is = let l = left true is in let m = next in omega (arith, l, m)

  pub none_done : is_done_on link e.event ≡ false → done_on link (drop n es) ≡ done_on link (drop (n + 1) es)
  none_done is = left false is ∙ next
