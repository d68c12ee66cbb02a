-- Each number of a list fits its type once its items have been read one after the other: what holds of the items before a place and of the one
-- there holds of one item more, and at the end of all.
use Rattle.std.proofs.Common.{◌≡◌, ℕ, ◌+◌, ◌<◌, ◌≤◌, List, length, get_or, take, sym, subst}
use Rattle.std.specs.Prelude.{All}
use Rattle.std.proofs.lemmas.List.{take_more, take_all}
use Rattle.std.proofs.lemmas.List.Elements.{All-push}

module _ {A : Type 0} (P : A → Type 0) (xs : List A) (i : ℕ) where
  pub all_more : (x item : A) → i < length xs → x ≡ get_or xs i item → All P (take i xs) → P x → All P (take (i + 1) xs)
  all_more x item less is all here =
      subst (λ (ys : List A). All P ys) (sym (take_more xs i item less))
      (All-push P (take i xs) (get_or xs i item) all (subst P is here))

  pub all_of_them : length xs ≤ i → All P (take i xs) → All P xs
  all_of_them past all = subst (λ (ys : List A). All P ys) (take_all i xs past) all
