-- How many places the links of a code's requests have.
use Rattle.std.specs.Prelude.{◌≡◌, ℕ, ◌+◌, ◌<◌, length, Some, slice_get}
use Rattle.stack_code.specs.Parts.{Parts}

-- the link of each core's requests has sixteen places
abbrev pub HavePlaces : Parts → Type 0
HavePlaces code = (k : ℕ) → k < length code.entries → slice_get code.capacities (length code.ends + k) ≡ Some 16
