-- What the first of some numbers leaves of their text.
use Rattle.std.specs.Prelude.{◌≡◌, ℕ, ◌<◌, List, [], ◌∷◌, ◌↔◌, length}
use Rattle.order_words.specs.declared.numbers.First.{First}
use Rattle.order_words.specs.declared.numbers.First.TheVariants.{Last, More}
use Rattle.order_words.specs.Words.{IsNumbers}

-- this number, and those of the text behind it
pub record IsJoined (number : ℕ) (others : List ℕ) (numbers : List ℕ) : Type 0 where
  pub rest : List ℕ
  pub form : numbers ≡ number ∷ rest
  pub are : IsNumbers others rest

-- the numbers of a text, by the first of them
abbrev pub GoesOn : List ℕ → First → Type 0
GoesOn text (Last number) = (numbers : List ℕ) → IsNumbers text numbers ↔ (numbers ≡ number ∷ [])
GoesOn text (More number others) =
    (length others.now < length text) × ((numbers : List ℕ) → IsNumbers text numbers ↔ IsJoined number others.now numbers)
