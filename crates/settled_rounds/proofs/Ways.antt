-- The places of a way in a list of ways that are all between parties.
use Rattle.std.proofs.Common.{◌≡◌, ℕ, ◌<◌, zero, suc, List, [], ◌∷◌, length, get_or, Some, refl, arith}
use Rattle.std.specs.Prelude.{slice_get}
use Rattle.settled_rounds.specs.declared.party.Way.{Way}
use Rattle.settled_rounds.specs.Linked.{AreWays}

found : (ways : List Way) (l : ℕ) (d : Way) → l < length ways → slice_get ways l ≡ Some (get_or ways l d)
found [] l d h = absurd (omega arith)
found (w ∷ ways) zero d h = refl
found (w ∷ ways) (suc l) d h = found ways l d (omega arith)

module _ (n : ℕ) (ways : List Way) (l : ℕ) (d : Way) (are : AreWays n ways) (within : l < length ways) where
  pub goes_from : (get_or ways l d).from < n
  goes_from = (are l (get_or ways l d) (found ways l d within)).0

  pub goes_to : (get_or ways l d).to < n
  goes_to = (are l (get_or ways l d) (found ways l d within)).1
