-- A message has the same ints as itself. For `payload_of`.
-- The test on lists decides equality, as the test on ints does.
use Rattle.std.proofs.Common.{◌≡◌, List, true, refl}
use Rattle.std.specs.Prelude.{ℤ}
use Rattle.std.specs.Cmp.Lexicographic.{pointwise_decides}
use Rattle.std.proofs.lemmas.Bool.Decides.{Decides-int_eq}
use Rattle.ac_base.specs.Messages.{ints_eq}

pub same_ints : (ints : List ℤ) → ints_eq ints ints ≡ true
same_ints ints = (pointwise_decides Decides-int_eq ints ints).1 refl
