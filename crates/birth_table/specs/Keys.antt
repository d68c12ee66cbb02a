-- The keys of numbers, as slots tell them.
use Rattle.std.specs.Prelude.{◌≡◌, ℕ, suc, ◌≤◌, ◌&&◌, List, [], ◌∷◌}
use Rattle.std.specs.Prelude.{Bool, nat_eq, nat_lt, slice_index_or, Option, Some, None, if◌then◌else◌}
use Rattle.birth_table.specs.declared.index.Slot.{Slot}
use Rattle.birth_table.specs.declared.index.TheConstants.{GONE}

-- its value is not gone
abbrev pub lives : Slot → Bool
lives slot = nat_lt slot.key GONE

-- the value of that number lives under its key
abbrev pub is_of : ℕ → Slot → Bool
is_of number slot = nat_eq slot.number number && lives slot

-- it tells that key
abbrev pub is_under : ℕ → Slot → Bool
is_under key slot = nat_eq slot.key key

-- the key that a slot tells
abbrev pub told : Slot → Option ℕ
told slot = if lives slot then Some slot.key else None

-- the slot at a place, and behind the last one that tells no key
abbrev pub slot_at : List Slot → ℕ → Slot
slot_at slots place = slice_index_or slots place (record { number = 0; key = GONE })

-- the key of the value of a number, if it lives
abbrev pub key_of : List Slot → ℕ → Option ℕ
key_of [] number = None
key_of (slot ∷ rest) number = if is_of number slot then Some slot.key else key_of rest number

-- numbers rise strictly, from `low` on and below `high`
abbrev pub Rises : ℕ → List Slot → ℕ → Type 0
Rises low [] high = low ≤ high
Rises low (slot ∷ rest) high = (low ≤ slot.number) × Rises (suc slot.number) rest high

-- the slot tells the key of its number, or that it has none
abbrev pub Tells : List Slot → Slot → Type 0
Tells slots slot = key_of slots slot.number ≡ told slot
