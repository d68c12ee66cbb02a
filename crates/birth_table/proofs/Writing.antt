-- A value that is written through a loan.
-- The value stands under a key of its own: so no other item changes, and no slot.
use Rattle.std.proofs.Common.{◌≡◌, ℕ, ◌<◌, List, Option, Some, IsSome, take, true, ap, ◌∙◌, refl, subst, get_or, set}
use Rattle.slab.specs.Slab.{Slab, get, ContainsKey, with_value}
use Rattle.birth_table.specs.declared.index.Slot.{Slot}
use Rattle.birth_table.specs.declared.leaving.Ends.{Ends}
use Rattle.birth_table.specs.Births.{Births, with_left}
use Rattle.birth_table.specs.Keys.{lives, slot_at, key_of}
use Rattle.birth_table.specs.Kept.{in_slab, value_at, items_of, left_at, IsKept}
use Rattle.birth_table.proofs.Counts.{told_lives}
use Rattle.birth_table.proofs.Going.{read_is}
use Rattle.birth_table.proofs.Steps.{taken, stands, some_left, lent_len, keys_written, items_written, left_far, items_left, left_written}
use Rattle.birth_table.proofs.Standing.{kept_written}

module _ {T : Type 0} where
  -- what a contract sees
  abbrev pub seen_as : List Slot → Slab T → ℕ → ℕ → ℕ → Births T
  seen_as slots entries top births spare = record {
    items = items_of (value_at (take top slots) entries) births;
    left = left_at slots entries top;
    spare = spare;
  }

  -- the value that was left
  module _ (slots : List Slot) (ends : Ends) (recent s : Slot) (capacity : ℕ) (entries : Slab T) (births spare : ℕ)
      (k : IsKept slots ends recent capacity entries births spare) (some : IsSome (left_at slots entries ends.top)) (read : s ≡ get_or slots ends.top s) where
    live : lives (slot_at slots ends.top) ≡ true
    live = some_left slots entries ends.top some

    it_is : slot_at slots ends.top ≡ s
    it_is = read_is slots ends.top s read live

    pub left_stands : ContainsKey entries s.key
    left_stands = subst (λ (x : Slot). ContainsKey entries x.key) it_is (stands slots entries ends.top k.keys live)

    pub left_read : left_at slots entries ends.top ≡ get entries s.key
    left_read = ap (in_slab entries) (told_lives (slot_at slots ends.top) live) ∙ ap (λ (x : Slot). get entries x.key) it_is

    pub kept_left : (w : T) → IsKept slots ends recent capacity (with_value entries s.key w) births spare
    kept_left w =
        kept_written slots ends recent capacity entries (with_value entries s.key w) births spare k (keys_written slots entries s.key w k.keys left_stands)
        (lent_len entries s.key w left_stands) refl

    pub seen_left : (w : T) → seen_as slots (with_value entries s.key w) ends.top births spare ≡ with_left (seen_as slots entries ends.top births spare) w
    seen_left w =
        subst (λ (x : Slot). seen_as slots (with_value entries x.key w) ends.top births spare ≡ with_left (seen_as slots entries ends.top births spare) w) it_is
        (
        ap (λ (xs : List (Option T)). record { items = xs; left = left_at slots (with_value entries (slot_at slots ends.top).key w) ends.top; spare = spare })
        (items_left slots entries ends.top births w k.keys live)
        ∙ ap (λ (o : Option T). record { items = items_of (value_at (take ends.top slots) entries) births; left = o; spare = spare })
        (left_written slots entries ends.top w k.keys live)
        )

  -- the value of a number
  module _ (slots : List Slot) (ends : Ends) (recent : Slot) (capacity : ℕ) (entries : Slab T) (births spare number key : ℕ)
      (k : IsKept slots ends recent capacity entries births spare) (is : key_of (take ends.top slots) number ≡ Some key) where
    pub kept_value : (w : T) → IsKept slots ends recent capacity (with_value entries key w) births spare
    kept_value w =
        let has = (taken slots entries ends.top number key k.keys is).1 in
        kept_written slots ends recent capacity entries (with_value entries key w) births spare k (keys_written slots entries key w k.keys has) (lent_len entries key w has) refl

    pub seen_value : (w : T) → number < births → seen_as slots (with_value entries key w) ends.top births spare
        ≡ record (seen_as slots entries ends.top births spare) { items = set (items_of (value_at (take ends.top slots) entries) births) number (Some w) }
    seen_value w lt =
        ap (λ (xs : List (Option T)). record { items = xs; left = left_at slots (with_value entries key w) ends.top; spare = spare })
        (items_written slots entries ends.top births key number w k.keys is lt)
        ∙ ap (λ (o : Option T). record { items = set (items_of (value_at (take ends.top slots) entries) births) number (Some w); left = o; spare = spare })
        (left_far slots entries ends.top number key w k.keys is)
