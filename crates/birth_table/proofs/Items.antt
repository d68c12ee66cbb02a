-- The items by number.
-- A list of items is told by what stands at each number. So it is enough to know what a step does to the key of a number and to what stands
-- under a key: a value that is added takes a key at which nothing stood, and one that is taken or written stands under its own key alone.
use Rattle.std.proofs.Common.{◌≡◌, ℕ, zero, suc, ◌<◌, ◌≤◌, List, [], ◌∷◌, ◌++◌, length, Option, None, IsSome, Bool, true, false, nat_eq, nat_lt}
use Rattle.std.proofs.Common.{sym, ap, ◌∙◌, refl, subst, arith, get_or, set, get_or-set_same, length-append}
use Rattle.std.proofs.lemmas.Bool.Decides.{nat_tests}
use Rattle.std.proofs.lemmas.List.{ext_get_or, length-set, get_or_push, get_or_append_left, get_or-set_other, get_or_past}
use Rattle.birth_table.specs.Kept.{items_of}

-- `IsSome None` computes to the premise
pub none_is_gone : false ≡ true → ⊥
none_is_gone h = cc

module _ {T : Type 0} where
  pub items_long : (at : ℕ → Option T) (n : ℕ) → length (items_of at n) ≡ n
  items_long at zero = refl
  items_long at (suc n) = omega (arith, items_long at n, length-append (items_of at n) (at n ∷ []))

  -- what stands at a number that was given
  pub item_of : (at : ℕ → Option T) (births n : ℕ) → n < births → get_or (items_of at births) n None ≡ at n
  item_of at zero n lt = absurd (omega arith)
  item_of at (suc b) n lt = go (item_of at b n) (nat_lt n b) refl
    where
      go : (n < b → get_or (items_of at b) n None ≡ at n) → (test : Bool) → nat_lt n b ≡ test → get_or (items_of at b ++ at b ∷ []) n None ≡ at n
      go h true q =
          let k : n < b = grind (arith, nat_tests) in
          get_or_append_left (items_of at b) (at b ∷ []) None n (omega (arith, items_long at b)) ∙ h k
      go h false q =
          let le : b ≤ n = grind (arith, nat_tests) in
          let same : b ≡ n = omega arith in
          get_or_push (items_of at b) (at b) None n (items_long at b ∙ same) ∙ ap at same

  -- nothing stands behind the end
  pub item_past : (at : ℕ → Option T) (births n : ℕ) → births ≤ n → get_or (items_of at births) n None ≡ None
  item_past at births n h = get_or_past (items_of at births) n None (omega (arith, items_long at births))

  pub is_born : (at : ℕ → Option T) (births n : ℕ) → IsSome (get_or (items_of at births) n None) → n < births
  is_born at births n h = go (nat_lt n births) refl
    where
      go : (test : Bool) → nat_lt n births ≡ test → n < births
      go true q = grind (arith, nat_tests)
      go false q =
          let none = item_past at births n (grind (arith, nat_tests)) in
          let wrong : IsSome {T = T} None = subst (λ (o : Option T). IsSome o) none h in
          absurd (none_is_gone wrong)

  pub same_items : (at other : ℕ → Option T) (births : ℕ) → ((n : ℕ) → n < births → other n ≡ at n) → items_of other births ≡ items_of at births
  same_items at other zero h = refl
  same_items at other (suc b) h =
      ap (λ (xs : List (Option T)). xs ++ other b ∷ []) (same_items at other b (λ n lt. h n (omega arith)))
      ∙ ap (λ (o : Option T). items_of at b ++ o ∷ []) (h b (omega arith))

  pub items_set : (at other : ℕ → Option T) (births number : ℕ) (o : Option T) → number < births → other number ≡ o → ((n : ℕ) → (number ≡ n → ⊥) → other n ≡ at n)
      → items_of other births ≡ set (items_of at births) number o
  items_set at other births number o lt here far =
      ext_get_or None (items_of other births) (set (items_of at births) number o)
      (items_long other births ∙ sym (items_long at births) ∙ sym (length-set (items_of at births) number o))
      (λ n within. item_of other births n (omega (arith, items_long other births)) ∙ go n (omega (arith, items_long other births)) (nat_eq number n) refl)
    where
      go : (n : ℕ) → n < births → (test : Bool) → nat_eq number n ≡ test → other n ≡ get_or (set (items_of at births) number o) n None
      go n k true q =
          let same : number ≡ n = grind (arith, nat_tests) in
          subst (λ m. other m ≡ get_or (set (items_of at births) number o) m None) same
          (here ∙ sym (get_or-set_same (items_of at births) number o None (omega (arith, items_long at births))))
      go n k false q =
          let ne : number ≡ n → ⊥ = λ e. grind (arith, nat_tests) in
          far n ne ∙ sym (item_of at births n k) ∙ sym (get_or-set_other (items_of at births) number n o None (λ e. ne (sym e)))
