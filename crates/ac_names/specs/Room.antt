-- Room in 32 bits for what a walk counts, before parts of a program that weigh so much.
use Rattle.std.specs.Prelude.{ℕ, ◌+◌, ◌*◌, ◌<◌}
use Rattle.ac_names.specs.declared.past.Counts.{Counts}

-- For each token that it weighs a part takes at most 683 slots: an array takes at most 4,096 and weighs 6, and all else takes one or none.
abbrev pub HasSlots : ℕ → ℕ → Type 0
HasSlots slot weight = slot + 683 * weight < 4294967296

-- an async body is one deeper, and weighs at least one less than the statement
abbrev pub HasDepths : ℕ → ℕ → Type 0
HasDepths depth weight = depth + weight < 4294967296

-- what is counted of items, all of it together
abbrev pub all_counts : Counts → ℕ
all_counts c = c.cores + (c.functions + (c.channels + (c.files + c.slots)))

abbrev pub HasCounts : Counts → ℕ → Type 0
HasCounts c weight = all_counts c + 683 * weight < 4294967296
