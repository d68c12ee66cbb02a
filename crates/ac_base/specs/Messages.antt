-- Messages are equal where they have the same ints in the same order.
use Rattle.std.specs.Prelude.{ℤ, List, Bool}
use Rattle.std.specs.Ordering.{int_eq}
use Rattle.std.specs.Cmp.Lexicographic.{pointwise}

abbrev pub ints_eq : List ℤ → List ℤ → Bool
ints_eq = pointwise int_eq
