-- A scope as its names beside their meanings.
use Rattle.std.specs.Prelude.{ℕ, List, [], ◌∷◌}
use Rattle.std.specs.Global.{Vec}
use Rattle.ac_names.specs.declared.meaning.Meaning.{Meaning}
use Rattle.ac_names.specs.Scopes.{Declaration}

abbrev pub beside : List (Vec ℕ) → List Meaning → List Declaration
beside [] meanings = []
beside (k ∷ ks) [] = []
beside (k ∷ ks) (m ∷ ms) = record { name = k.items; meaning = m } ∷ beside ks ms
