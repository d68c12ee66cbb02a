-- What is taken back of a scope where memory was wanting half way.
use Rattle.std.specs.Prelude.{ℕ, List, [], ◌∷◌, length, take}
use Rattle.ac_names.specs.Scopes.{Declaration}

-- the declarations of the innermost scope
abbrev pub inner_len : List (List Declaration) → ℕ
inner_len [] = 0
inner_len (scope ∷ scopes) = length scope

-- the innermost scope has its first declarations alone
abbrev pub cut : ℕ → List (List Declaration) → List (List Declaration)
cut len [] = []
cut len (scope ∷ scopes) = take len scope ∷ scopes
