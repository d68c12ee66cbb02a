-- Which words form a call of the program.
use Rattle.std.specs.Prelude.{◌≡◌, ℕ, ◌<◌, ◌≤◌, List, [], ◌∷◌}
use Rattle.ac_words.specs.Words.{IsNumber}

-- the word is a number from 1 to a limit, in decimal, without a leading zero
pub record IsCount (word : List ℕ) (most number : ℕ) : Type 0 where
  pub number_is : IsNumber word number
  pub least : 1 ≤ number
  pub within : number ≤ most

-- the words ask for n messages, 1 to 10,000, of each of w producers, 1 to 8
pub record IsCall (words : List (List ℕ)) (n w : ℕ) : Type 0 where
  pub first : List ℕ
  pub second : List ℕ
  pub two : words ≡ first ∷ second ∷ []
  pub messages : IsCount first 10000 n
  pub producers : IsCount second 8 w

-- so many messages of so many producers can be merged
abbrev pub MayMerge : ℕ → ℕ → Type 0
MayMerge n w = (n ≤ 10000) × (0 < w) × (w ≤ 8)
