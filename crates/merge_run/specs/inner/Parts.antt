-- A list that is left of another one where some elements are taken out.
use Rattle.std.specs.Prelude.{◌≡◌, ℕ, ◌⊎◌, List, [], ◌∷◌}
use Rattle.ac_choice.specs.declared.answers.Tagged.{Tagged}
use Rattle.ac_choice.specs.Relaying.{of_end}
use Rattle.merge_run.specs.Series.{sent_by}

abbrev pub IsPartOf : {X : Type 0} → List X → List X → Type 0
IsPartOf [] ys = Unit {0}
IsPartOf (x ∷ xs) [] = ⊥
IsPartOf (x ∷ xs) (y ∷ ys) = ((x ≡ y) × IsPartOf xs ys) ⊎ IsPartOf (x ∷ xs) ys

-- of each producer some of what it sends was received, in order
abbrev pub ArePartOf : ℕ → ℕ → List Tagged → Type 0
ArePartOf n width received = (i : ℕ) → IsPartOf (of_end i received) (sent_by n width i)
