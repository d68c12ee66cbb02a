-- Messages out of the ints of an array and into them, one by one.
-- For the loops of `message_at` and `put_message`: what was taken or set so far and what comes from this index on are together the whole, so
-- one more moves from the one to the other.
use Rattle.std.proofs.Common.{◌≡◌, ℕ, suc, ◌+◌, ◌-◌, ◌<◌, ◌≤◌, List, [], ◌∷◌, ◌++◌, drop, take, sym, ap, ◌∙◌, append_assoc, arith}
use Rattle.std.specs.Prelude.{ℤ}
use Rattle.work_item.specs.declared.cell.Place.{Place}
use Rattle.work_item.specs.Store.{Store, int_at, int_from}
use Rattle.core_state.specs.Messages.{ints_from, ints_at, with_ints_from}

module _ (store : Store) (array : Place) where
  -- those from this one on
  abbrev pub ints_on : ℕ → List ℤ
  ints_on index = ints_from store array.home (array.start + index) (array.len - index)

  pub first_taken : (value : ℤ) (ints : List ℤ) → 1 ≤ array.len → value ≡ int_at store array 0 → ints ≡ value ∷ [] → ints ++ ints_on 1 ≡ ints_at store array
  first_taken value ints some is made =
      let n : array.len ≡ suc (array.len - 1) = omega (arith, some) in
      let s : array.start + 0 ≡ array.start = omega arith in
      ap (λ xs. xs ++ ints_on 1) made ∙ ap (λ v. v ∷ ints_on 1) (is ∙ ap (λ k. int_from store array.home k) s)
      ∙ sym (ap (λ k. ints_from store array.home array.start k) n)

  pub one_taken : (index : ℕ) (value : ℤ) (ints after all : List ℤ) → index < array.len → value ≡ int_at store array index → after ≡ ints ++ value ∷ []
      → ints ++ ints_on index ≡ all → after ++ ints_on (index + 1) ≡ all
  one_taken index value ints after all lt is pushed so_far =
      let more = ints_on (index + 1) in
      let n : array.len - index ≡ suc (array.len - (index + 1)) = omega arith in
      let s : array.start + index + 1 ≡ array.start + (index + 1) = omega arith in
      ap (λ xs. xs ++ more) pushed ∙ append_assoc ints (value ∷ []) more ∙ ap (λ x. ints ++ x ∷ more) is
      ∙ sym
      (ap (λ k. ints ++ ints_from store array.home (array.start + index) k) n
      ∙ ap (λ k. ints ++ int_at store array index ∷ ints_from store array.home k (array.len - (index + 1))) s)
      ∙ so_far

-- with the others in their elements too, from this one on
abbrev pub with_ints_on : Place → List ℤ → Store → ℕ → Store
with_ints_on into ints store index = with_ints_from store into.home (into.start + index) (drop index (take into.len ints))
