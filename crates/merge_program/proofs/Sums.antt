-- Counts and sums of messages with one more; and that a sum of so many is not too large for the machine.
use Rattle.std.proofs.Common.{◌≡◌, ℕ, ℤ, pos, suc, ◌+◌, ◌-◌, ◌*◌, ◌^◌, ◌<◌, ◌≤◌, List, [], ◌∷◌, ◌++◌, Bool, true, false, cond, length, take, get_or}
use Rattle.std.proofs.Common.{sym, ap, ◌∙◌, subst, arith, w64, to_z, of_z, SFits}
use Rattle.std.specs.Int.{w128}
use Rattle.std.specs.Prelude.{ltb, ◌+ℤ◌}
use lib.IntN.{negsuc, sub_ℕ}
use lib.Signed.{mag}
use Rattle.std.proofs.lemmas.Int.{ints, to_z-of_z}
use Rattle.std.proofs.lemmas.List.{take_more, map-append, length-append, append-nil}
use Rattle.ac_choice.specs.declared.answers.Tagged.{Tagged}
use Rattle.ac_choice.specs.Relaying.{of_end}
use Rattle.ac_choice.proofs.Lists.{of_more, of_it, of_other}
use Rattle.merge_program.specs.Lines.{sum_of, values}

-- ---- sizes

mag_sub : (m n : ℕ) → mag (sub_ℕ m n) ≤ m + n
mag_sub m n = let h = by (ltb m n) (n - suc m) (m - n) in omega (arith, h)
  where
    by : (b : Bool) (x y : ℕ) → mag (cond b (negsuc x) (pos y)) ≤ x + y
    by true x y = omega arith
    by false x y = omega arith

pub mag_add : (a b : ℤ) → mag (a +ℤ b) ≤ mag a + mag b + 1
mag_add (pos a) (pos b) = omega arith
mag_add (pos a) (negsuc b) = let h = mag_sub a (suc b) in omega (arith, h)
mag_add (negsuc a) (pos b) = let h = mag_sub b (suc a) in omega (arith, h)
mag_add (negsuc a) (negsuc b) = omega arith

-- ---- one more

pub sum_more : (xs : List ℤ) (y : ℤ) → sum_of (xs ++ y ∷ []) ≡ sum_of xs +ℤ y
sum_more [] y = omega (arith, ints)
sum_more (x ∷ xs) y = ap (λ z. x +ℤ z) (sum_more xs y) ∙ regroup x (sum_of xs) y
  where
    regroup : (a b c : ℤ) → a +ℤ (b +ℤ c) ≡ (a +ℤ b) +ℤ c
    regroup a b c = omega (arith, ints)

module _ (i : ℕ) (ms : List Tagged) (k : ℕ) (d : Tagged) (within : k < length ms) where
  pub of_take : of_end i (take (k + 1) ms) ≡ of_end i (take k ms) ++ of_end i (get_or ms k d ∷ [])
  of_take = ap (of_end i) (take_more ms k d within) ∙ of_more i (take k ms) (get_or ms k d)

  -- a message of this end
  pub taken_it : (get_or ms k d).end ≡ i → of_end i (take (k + 1) ms) ≡ of_end i (take k ms) ++ (get_or ms k d).value ∷ []
  taken_it e = of_take ∙ ap (λ xs. of_end i (take k ms) ++ xs) (of_it i (get_or ms k d) e)

  -- and of another one
  pub taken_other : ((get_or ms k d).end ≡ i → ⊥) → of_end i (take (k + 1) ms) ≡ of_end i (take k ms)
  taken_other n = of_take ∙ ap (λ xs. of_end i (take k ms) ++ xs) (of_other i (get_or ms k d) n) ∙ append-nil (of_end i (take k ms))

  pub count_it : (get_or ms k d).end ≡ i → length (of_end i (take (k + 1) ms)) ≡ length (of_end i (take k ms)) + 1
  count_it e = ap length (taken_it e) ∙ length-append (of_end i (take k ms)) ((get_or ms k d).value ∷ [])

  pub sum_it : (get_or ms k d).end ≡ i → sum_of (of_end i (take (k + 1) ms)) ≡ sum_of (of_end i (take k ms)) +ℤ (get_or ms k d).value
  sum_it e = ap sum_of (taken_it e) ∙ sum_more (of_end i (take k ms)) (get_or ms k d).value

  pub sum_all : sum_of (values (take (k + 1) ms)) ≡ sum_of (values (take k ms)) +ℤ (get_or ms k d).value
  sum_all =
      ap (λ xs. sum_of (values xs)) (take_more ms k d within) ∙ ap sum_of (map-append (λ (m : Tagged). m.value) (take k ms) (get_or ms k d ∷ []))
      ∙ sum_more (values (take k ms)) (get_or ms k d).value

-- ---- one more in the machine

module _ (s f v : ℤ) (k : ℕ) (small : mag s ≤ 2 ^ 63 * k) (few : k + 1 < 2 ^ 64) (fits : SFits w64 v) (is : f ≡ to_z w64 (of_z w64 v)) where
  bits_are : to_z w128 (of_z w128 f) ≡ v
  bits_are =
      let narrow : mag v < 2 ^ 63 = fits.sfits in
      ap (λ x. to_z w128 (of_z w128 x)) (is ∙ to_z-of_z w64 v fits) ∙ to_z-of_z w128 v (record { sfits = omega (arith, narrow) })

  pub small_more : mag (s +ℤ v) ≤ 2 ^ 63 * (k + 1)
  small_more = let narrow : mag v < 2 ^ 63 = fits.sfits in let h = mag_add s v in omega (arith, h, narrow, small)

  sum_fits : SFits w128 (s +ℤ v)
  sum_fits = record { sfits = (let h = small_more in omega (arith, h, few)) }

  pub added_fits : SFits w128 (s +ℤ to_z w128 (of_z w128 f))
  added_fits = subst (λ x. SFits w128 (s +ℤ x)) (sym bits_are) sum_fits

  pub added_is : to_z w128 (of_z w128 (s +ℤ to_z w128 (of_z w128 f))) ≡ s +ℤ v
  added_is = ap (λ x. to_z w128 (of_z w128 (s +ℤ x))) bits_are ∙ to_z-of_z w128 (s +ℤ v) sum_fits
