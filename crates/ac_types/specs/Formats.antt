-- The texts that are formats.
use Rattle.std.specs.Prelude.{◌≡◌, ℕ, suc, List, [], ◌∷◌}

-- a text is a row of plain bytes, `%%`, `%d` and `%c`, and has so many of the last two
pub data HasHoles : List ℕ → ℕ → Type 0 where
  no_more : HasHoles [] 0
  a_byte : (b : ℕ) (bs : List ℕ) (n : ℕ) → (b ≡ 37 → ⊥) → HasHoles bs n → HasHoles (b ∷ bs) n
  a_percent_sign : (bs : List ℕ) (n : ℕ) → HasHoles bs n → HasHoles (37 ∷ 37 ∷ bs) n
  a_number : (bs : List ℕ) (n : ℕ) → HasHoles bs n → HasHoles (37 ∷ 100 ∷ bs) (suc n)
  a_letter : (bs : List ℕ) (n : ℕ) → HasHoles bs n → HasHoles (37 ∷ 99 ∷ bs) (suc n)
