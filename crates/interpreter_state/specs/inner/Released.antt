-- How frames that are over are taken away, from the youngest on.
use Rattle.std.specs.Prelude.{ℕ, zero, suc, ◌+◌, List, [], ◌∷◌, drop, Option, Some, None, Bool, false}
use Rattle.std.specs.Prelude.{not, ◌&&◌, slice_index_or, slice_set, if◌then◌else◌}
use Rattle.work_item.specs.Store.{Frame, any_in, kept}

abbrev pub is_over : Option Frame → Bool
is_over None = false
is_over (Some x) = x.over

-- the frames from this place on are those that live; the first has this number
abbrev pub kept_from : ℕ → ℕ → List (Option Frame) → List (Option Frame)
kept_from zero number xs = kept number xs
kept_from (suc index) number [] = []
kept_from (suc index) number (x ∷ xs) = x ∷ kept_from index (number + 1) xs

-- whether the frame at this place is over, and none lies in it
abbrev pub is_done : ℕ → ℕ → List (Option Frame) → Bool
is_done index number xs = is_over (slice_index_or xs index None) && not (any_in number (drop (index + 1) xs))

abbrev pub one_ended : ℕ → List (Option Frame) → List (Option Frame)
one_ended index xs = if is_done index index xs then slice_set xs index None else xs
