-- The stamps that the seat of an owner keeps.
use Rattle.std.specs.Prelude.{◌≡◌, ℕ, ◌+◌, ◌%◌, ◌^◌, ◌<◌, ◌≤◌, List, length, slice_index}
use Rattle.completion_word.specs.declared.views.Offer.{Offer}
use Rattle.completion_word.specs.Link.{offer_at}

-- the stamps of the last 64 offers stand each at its number modulo 64
abbrev pub AreStamps : List ℕ → List Offer → Type 0
AreStamps stamps offers = (k : ℕ) → k < length offers → length offers ≤ k + 64
    → (slice_index stamps (k % 64) ≡ (offer_at offers k).stamp) × ((offer_at offers k).stamp < 2 ^ 60)
