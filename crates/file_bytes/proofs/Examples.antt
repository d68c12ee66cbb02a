-- Bytes that are written within a file, over its end and past it: what `overwritten` says of each, by computing.
use Rattle.std.proofs.Common.{◌≡◌, [], ◌∷◌, refl}
use Rattle.file_bytes.specs.Overwritten.{overwritten}

pub within_the_file : overwritten (1 ∷ 2 ∷ 3 ∷ 4 ∷ []) 1 (7 ∷ 8 ∷ []) ≡ 1 ∷ 7 ∷ 8 ∷ 4 ∷ []
within_the_file = refl

pub over_its_end : overwritten (1 ∷ 2 ∷ 3 ∷ 4 ∷ []) 3 (7 ∷ 8 ∷ []) ≡ 1 ∷ 2 ∷ 3 ∷ 7 ∷ 8 ∷ []
over_its_end = refl

pub past_its_end : overwritten (1 ∷ 2 ∷ []) 2 (7 ∷ []) ≡ 1 ∷ 2 ∷ 7 ∷ []
past_its_end = refl

pub a_gap_is_filled_with_noughts : overwritten (1 ∷ []) 3 (7 ∷ 8 ∷ []) ≡ 1 ∷ 0 ∷ 0 ∷ 7 ∷ 8 ∷ []
a_gap_is_filled_with_noughts = refl

pub no_bytes_change_nothing : overwritten (1 ∷ 2 ∷ []) 1 [] ≡ 1 ∷ 2 ∷ []
no_bytes_change_nothing = refl

-- a write of no bytes fills no gap
pub no_bytes_past_its_end : overwritten (1 ∷ []) 3 [] ≡ 1 ∷ []
no_bytes_past_its_end = refl
