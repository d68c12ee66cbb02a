-- Names, the scopes in which they are declared, and what they mean.
use Rattle.std.specs.Prelude.{ℕ, List, [], ◌∷◌, ◌++◌, Option, None, Some, is_some, if◌then◌else◌}
use Rattle.std.specs.Str.{bytes_eq}
use Rattle.ac_names.specs.declared.meaning.Meaning.{Meaning}

pub record Declaration : Type 0 where
  pub name : List ℕ
  pub meaning : Meaning

abbrev pub in_scope : List ℕ → List Declaration → Option Meaning
in_scope name [] = None
in_scope name (d ∷ ds) = if bytes_eq d.name name then Some d.meaning else in_scope name ds

-- of several declarations of one name in one scope the first is meant, and so it alone is kept
abbrev pub added : List ℕ → Meaning → List Declaration → List Declaration
added name meaning scope = if is_some (in_scope name scope) then scope else scope ++ record { name = name; meaning = meaning } ∷ []

abbrev pub or_else : {A : Type 0} → Option A → Option A → Option A
or_else None b = b
or_else (Some a) b = Some a

-- The scopes round a place, of which the innermost comes first and hides those after it.
abbrev pub visible : List ℕ → List (List Declaration) → Option Meaning
visible name [] = None
visible name (scope ∷ scopes) = or_else (in_scope name scope) (visible name scopes)

-- one declaration more in the innermost scope
abbrev pub declared : List ℕ → Meaning → List (List Declaration) → List (List Declaration)
declared name meaning [] = []
declared name meaning (scope ∷ scopes) = added name meaning scope ∷ scopes

-- the innermost scope is closed
abbrev pub closed : List (List Declaration) → List (List Declaration)
closed [] = []
closed (scope ∷ scopes) = scopes

-- what the innermost scope says of a name
abbrev pub in_inner : List ℕ → List (List Declaration) → Option Meaning
in_inner name [] = None
in_inner name (scope ∷ scopes) = in_scope name scope
