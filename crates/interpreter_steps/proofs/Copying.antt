-- Copies that are told alike, and parts of lists.
-- For loops that copy item by item: what was copied and what is left stand for the whole, so at the end the copy stands for the same as the
-- list.
use Rattle.std.proofs.Common.{◌≡◌, ℕ, ◌≤◌, List, [], ◌∷◌, ◌++◌, map, take, drop, length, refl, sym, ap, ◌∙◌, append-nil, length-drop, ◌-◌, subst}
use Rattle.std.specs.Prelude.{reverse}
use Rattle.std.proofs.Math.ListN.{drop_of_length-le}
use Rattle.std.proofs.Math.Seq.{take-length}
use Rattle.std.proofs.lemmas.List.{reverse-append, map-append}

module _ {A B : Type 0} (f : A → B) where
  map-reverse : (xs : List A) → map f (reverse xs) ≡ reverse (map f xs)
  map-reverse [] = refl
  map-reverse (x ∷ xs) = ap (map f) (reverse-append (x ∷ []) xs) ∙ map-append f (reverse xs) (x ∷ []) ∙ ap (λ ys. ys ++ f x ∷ []) (map-reverse xs) ∙ sym (reverse-append (f x ∷ []) (map f xs))

  pub copied : (xs ys : List A) (n : ℕ) → length ys ≤ n → map f xs ++ map f (drop n ys) ≡ map f ys → map f (reverse xs) ≡ map f (reverse ys)
  copied xs ys n le h =
      let all : map f xs ≡ map f ys = sym (append-nil (map f xs)) ∙ sym (ap (λ zs. map f xs ++ map f zs) (drop_of_length-le ys le)) ∙ h in
      map-reverse xs ∙ ap reverse all ∙ sym (map-reverse ys)

pub all_after : {A : Type 0} (xs : List A) (n : ℕ) → take (length xs - n) (drop n xs) ≡ drop n xs
all_after xs n = subst (λ k. take k (drop n xs) ≡ drop n xs) (length-drop n xs) (take-length (drop n xs))
