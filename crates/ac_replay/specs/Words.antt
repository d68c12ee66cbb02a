-- Which words form a call of the program.
use Rattle.std.specs.Prelude.{List, [], ◌∷◌, ℕ, None}
use Rattle.ac_words.specs.Words.{IsArguments}

-- the words give two operands, the file of a program and that of a trace, and no bound on steps
abbrev pub IsCall : List (List ℕ) → List ℕ → List ℕ → Type 0
IsCall words file trace = IsArguments words (file ∷ trace ∷ []) None

abbrev pub IsNoCall : List (List ℕ) → Type 0
IsNoCall words = (file trace : List ℕ) → IsCall words file trace → ⊥
