-- The one call that words form.
use Rattle.std.specs.Prelude.{◌≡◌, List, ℕ}
use Rattle.ac_replay.specs.Words.{IsCall}

-- the words are a call with no other operands
abbrev pub IsOnlyCall : List (List ℕ) → List ℕ → List ℕ → Type 0
IsOnlyCall words file trace = (other named : List ℕ) → IsCall words other named → (other ≡ file) × (named ≡ trace)
