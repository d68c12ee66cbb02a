-- The values as they are kept.
use Rattle.std.specs.Prelude.{◌≡◌, ℕ, zero, suc, ◌+◌, ◌<◌, ◌≤◌, ◌^◌, List, []}
use Rattle.std.specs.Prelude.{◌∷◌, ◌++◌, length, take, count_by, Option, Some, None, is_some, if◌then◌else◌}
use Rattle.slab.specs.Slab.{Slab, get, slab_len, HasRoomFor}
use Rattle.birth_table.specs.declared.index.Slot.{Slot}
use Rattle.birth_table.specs.declared.index.TheConstants.{GONE}
use Rattle.birth_table.specs.declared.leaving.Ends.{Ends}
use Rattle.birth_table.specs.Keys.{lives, is_under, told, slot_at, key_of, Rises, Tells}

-- the slots of numbers end there, and so many of them tell no key
pub record AreBelow (slots : List Slot) (ends : Ends) : Type 0 where
  pub within : ends.top ≤ length slots
  pub gaps : count_by lives (take ends.top slots) + ends.gone ≡ ends.top

module _ {T : Type 0} where
  abbrev pub in_slab : Slab T → Option ℕ → Option T
  in_slab entries None = None
  in_slab entries (Some key) = get entries key

  -- the value of a number, if it lives
  abbrev pub value_at : List Slot → Slab T → ℕ → Option T
  value_at slots entries number = in_slab entries (key_of slots number)

  -- what stands at each number, of so many
  abbrev pub items_of : (ℕ → Option T) → ℕ → List (Option T)
  items_of at zero = []
  items_of at (suc number) = items_of at number ++ at number ∷ []

  -- the value that is left in the slot at that place
  abbrev pub left_at : List Slot → Slab T → ℕ → Option T
  left_at slots entries place = in_slab entries (told (slot_at slots place))

  -- no key is told twice, only one under which a value stands is, and each of these is
  pub record HaveKeys (slots : List Slot) (entries : Slab T) : Type 0 where
    pub once : (key : ℕ) → key < GONE
        → count_by (is_under key) slots ≤ (if is_some (get entries key) then 1 else 0)
    pub count : count_by lives slots ≡ slab_len entries

  -- below `ends.top` each number that lives has a place of its own, from there on values are left, and no
  -- other place is taken
  pub record IsKept (slots : List Slot) (ends : Ends) (recent : Slot) (capacity : ℕ) (entries : Slab T) (births spare : ℕ) : Type 0 where
    pub keys : HaveKeys slots entries
    pub ends_are : AreBelow slots ends
    pub rise : Rises 0 (take ends.top slots) births
    pub seen : Tells (take ends.top slots) recent
    pub tight : ends.gone ≤ count_by lives (take ends.top slots) + 32
    pub left : length slots ≤ ends.top + 256
    pub room : ends.top + spare ≤ capacity
    pub places : HasRoomFor entries spare
    pub few : births + spare < 2 ^ 64
