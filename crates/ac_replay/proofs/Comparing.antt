-- The first of the files that holds other bytes than are told: those before it are as they are told.
use Rattle.std.proofs.Common.{◌≡◌, ◌≢◌, ℕ, ◌+◌, ◌<◌, ◌≤◌, List, [], ◌∷◌, ◌++◌, take, get_or, length, sym, ap, ◌∙◌, arith}
use Rattle.std.proofs.lemmas.List.{get_or_read, take_all, take_more}
use Rattle.ac_replay.specs.Due.{IsFirstOther}

-- the first so many are as they are told
pub same_more : (start told : List (List ℕ)) (k : ℕ) → k < length start → length start ≡ length told → take k start ≡ take k told → get_or start k [] ≡ get_or told k []
    → take (k + 1) start ≡ take (k + 1) told
same_more start told k lt many h e =
    let there : k < length told = omega arith in
    take_more start k [] lt ∙ ap (λ bs. take k start ++ bs ∷ []) e ∙ ap (λ fs. fs ++ get_or told k [] ∷ []) h ∙ sym (take_more told k [] there)

pub all_same : (start told : List (List ℕ)) (k : ℕ) → length start ≡ length told → length start ≤ k → take k start ≡ take k told → start ≡ told
all_same start told k many le h = sym (take_all k start le) ∙ h ∙ take_all k told (omega arith)

-- what stands at a place of both
module _ (start told : List (List ℕ)) (k : ℕ) (here there : List ℕ) (lt : k < length start) (many : length start ≡ length told) (is_here : here ≡ get_or start k here)
    (is_there : there ≡ get_or told k there) where
  in_start : here ≡ get_or start k []
  in_start = get_or_read start k here lt is_here []

  in_told : there ≡ get_or told k []
  in_told = let also : k < length told = omega arith in get_or_read told k there also is_there []

  pub same_further : take k start ≡ take k told → here ≡ there → take (k + 1) start ≡ take (k + 1) told
  same_further before same = same_more start told k lt many before (sym in_start ∙ same ∙ in_told)

  pub first_other : take k start ≡ take k told → here ≢ there → IsFirstOther start told k
  first_other before differ = record { within = lt; before = before; other = λ e. differ (in_start ∙ e ∙ sym in_told) }
