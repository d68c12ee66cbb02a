-- The lines of this program alone.
use Rattle.std.specs.Prelude.{ℕ, List, [], ◌∷◌, ◌++◌, codes}
use Rattle.std.specs.Fmt.{decimal}

abbrev pub usage_line : List ℕ
usage_line = codes "usage: ac_again FILE TRACE" ++ 10 ∷ []

-- a file that is not as the trace says
abbrev pub differs_line : ℕ → List ℕ
differs_line file = codes "file " ++ (decimal file ++ (codes " differs" ++ 10 ∷ []))
