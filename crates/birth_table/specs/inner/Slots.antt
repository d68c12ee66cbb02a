-- Lists of slots, and what becomes of them.
use Rattle.std.specs.Prelude.{◌≡◌, ◌≢◌, ℕ, suc, ◌+◌, ◌<◌, ◌≤◌, ◌∷◌, ◌++◌, List, length, take, drop, set, count_by, Some, None, slice_get}
use Rattle.slab.specs.Slab.{Slab, get, slab_len}
use Rattle.birth_table.specs.declared.index.Slot.{Slot}
use Rattle.birth_table.specs.declared.index.TheConstants.{GONE}
use Rattle.birth_table.specs.Keys.{lives, is_under, slot_at, key_of, Rises}

-- numbers rise strictly
abbrev pub IsRising : List Slot → Type 0
IsRising slots = (high : ℕ) × Rises 0 slots high

-- the slot of a number, if there is one, lies between these places
abbrev pub LiesBetween : List Slot → ℕ → ℕ → ℕ → Type 0
LiesBetween slots number low high =
    (place : ℕ) (slot : Slot) → slice_get slots place ≡ Some slot → slot.number ≡ number → (low ≤ place) × (place ≤ high)

-- the slot of a number lies at that place
abbrev pub IsAt : List Slot → ℕ → ℕ → Type 0
IsAt slots number place = (slot : Slot) × (slice_get slots place ≡ Some slot) × (slot.number ≡ number)

-- each number has the key that it had, and no more slots are kept
pub record HaveSameKeys (slots now : List Slot) : Type 0 where
  pub keys : (number : ℕ) → key_of now number ≡ key_of slots number
  pub rise : (low high : ℕ) → Rises low slots high → Rises low now high
  pub count : count_by lives now ≡ count_by lives slots
  pub shorter : length now ≤ length slots

-- the value of a number is gone, each other number has the key that it had, and no more slots are kept
pub record IsWithout (slots : List Slot) (number : ℕ) (now : List Slot) : Type 0 where
  pub gone : key_of now number ≡ None
  pub others : (other : ℕ) → number ≢ other → key_of now other ≡ key_of slots other
  pub rise : (high : ℕ) → Rises 0 slots high → Rises 0 now high
  pub count : count_by lives now + 1 ≡ count_by lives slots
  pub shorter : length now ≤ length slots

-- this slot at that place, or behind the last
abbrev pub put : List Slot → ℕ → Slot → List Slot
put slots place slot = take place slots ++ slot ∷ drop (suc place) slots

-- the slot at that place tells no key
abbrev pub emptied : List Slot → ℕ → List Slot
emptied slots place = set slots place (record { number = (slot_at slots place).number; key = GONE })

-- as many tell keys, and each key is told no more often
pub record AreFewer (slots now : List Slot) : Type 0 where
  pub fewer : (key : ℕ) → count_by (is_under key) now ≤ count_by (is_under key) slots
  pub count : count_by lives now ≡ count_by lives slots
  pub shorter : length now ≤ length slots

-- what tells keys still stands as it did, and no more slots tell a key
pub record Shrinks {T : Type 0} (slots : List Slot) (entries : Slab T) (now : List Slot) (after : Slab T) : Type 0 where
  pub values : (key : ℕ) → key < GONE → 0 < count_by (is_under key) now → get after key ≡ get entries key
  pub fewer : (key : ℕ) → key < GONE → count_by (is_under key) now ≤ count_by (is_under key) slots
  pub len : slab_len after ≤ slab_len entries
  pub capacity : after.capacity ≡ entries.capacity
