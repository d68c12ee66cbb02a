-- A number whose life ends.
-- It has a slot, as something stands there. Where that is the last one, the end of the numbers moves below it, and all else stays.
use Rattle.std.proofs.Common.{◌≡◌, ℕ, zero, suc, ◌+◌, ◌<◌, ◌≤◌, List, [], ◌∷◌, Option, Some, None, IsSome, length, take, sym, ap, ◌∙◌, refl, subst, arith, get_or, set}
use Rattle.std.specs.Prelude.{slice_get}
use Rattle.std.proofs.lemmas.Option.{slice_get-get_or}
use Rattle.slab.specs.Slab.{Slab}
use Rattle.birth_table.specs.declared.index.Slot.{Slot}
use Rattle.birth_table.specs.declared.leaving.Ends.{Ends}
use Rattle.birth_table.specs.Births.{Births, item_at}
use Rattle.birth_table.specs.Keys.{slot_at, key_of, Rises, Tells}
use Rattle.birth_table.specs.Kept.{value_at, items_of, AreBelow, IsKept}
use Rattle.birth_table.specs.inner.Slots.{IsAt, IsWithout, Shrinks}
use Rattle.birth_table.proofs.Items.{none_is_gone, is_born}
use Rattle.birth_table.proofs.Keys.{count}
use Rattle.birth_table.proofs.Going.{same_slot, last_goes}
use Rattle.birth_table.proofs.Steps.{item_is, has_key, items_less}
use Rattle.birth_table.proofs.Standing.{kept_less, same_values}
use Rattle.birth_table.proofs.Writing.{seen_as}

get_take : (n i : ℕ) (slots : List Slot) (s : Slot) → i < n → slice_get slots i ≡ Some s → slice_get (take n slots) i ≡ Some s
get_take zero i slots s lt e = absurd (omega (arith, lt))
get_take (suc n) i [] s lt e = e
get_take (suc n) zero (x ∷ xs) s lt e = e
get_take (suc n) (suc i) (x ∷ xs) s lt e = get_take n i xs s (omega (arith, lt)) e

-- the slot at a place below the end of the numbers
pub at_place : (slots : List Slot) (top place number : ℕ) → place < top → top ≤ length slots → (slot_at slots place).number ≡ number → IsAt (take top slots) number place
at_place slots top place number lt within is =
    let got = slice_get-get_or slots place (record { number = 0; key = 18446744073709551615 }) (omega (arith, lt, within)) in
    (slot_at slots place, get_take top place slots (slot_at slots place) lt got, is)

-- a slot that was read
pub read_there : (slots : List Slot) (place : ℕ) (s : Slot) → place < length slots → s ≡ get_or slots place s → slot_at slots place ≡ s
read_there slots place s lt read = same_slot slots place s (slice_get-get_or slots place s lt ∙ ap Some (sym read))

-- there is a slot
pub some_top : (slots : List Slot) (top number : ℕ) → IsSome (key_of (take top slots) number) → 0 < top
some_top slots zero number some = absurd (none_is_gone some)
some_top slots (suc top) number some = omega arith

module _ {T : Type 0} (slots : List Slot) (ends : Ends) (recent : Slot) (capacity : ℕ) (entries : Slab T) (births spare number : ℕ)
    (k : IsKept slots ends recent capacity entries births spare) where
  -- a number at which something stands
  pub has_life : (now : Births T) → seen_as slots entries ends.top births spare ≡ now → IsSome (item_at now number)
      → IsSome (key_of (take ends.top slots) number) × (number < births)
  has_life now view some =
      let xs = take ends.top slots in
      let was : IsSome (item_at (seen_as slots entries ends.top births spare) number) = subst (λ (b : Births T). IsSome (item_at b number)) (sym view) some in
      let key = has_key xs entries number (subst (λ (o : Option T). IsSome o) (item_is xs entries births number k.rise) was) in
      (subst (λ (o : Option ℕ). IsSome o) (sym key.1) refl, is_born (value_at xs entries) births number was)

  pub items_ended : (now : List Slot) (last : Ends) (after : Slab T) → IsWithout (take ends.top slots) number (take last.top now) → Shrinks slots entries now after
      → number < births → items_of (value_at (take last.top now) after) births ≡ set (items_of (value_at (take ends.top slots) entries) births) number None
  items_ended now last after less shrinks lt =
      items_less (take ends.top slots) (take last.top now) entries after births number less (same_values slots now entries after last.top shrinks) lt

  -- the last is gone, and is left where it stands
  module _ (last : ℕ) (is : last + 1 ≡ ends.top) (its : (slot_at slots last).number ≡ number) (some : IsSome (key_of (take ends.top slots) number)) where
    gone_last : IsWithout (take ends.top slots) number (take last slots) × AreBelow slots (record { top = last; gone = ends.gone })
    gone_last =
        last_goes slots ends last number k.ends_are is (births, k.rise) (at_place slots ends.top last number (omega (arith, is)) k.ends_are.within its) some

    pub still_rises : (high : ℕ) × Rises 0 (take last slots) high
    still_rises = (births, gone_last.0.rise births k.rise)

    pub kept_last : (seen : Slot) → length slots ≤ last + 256 → ends.gone ≤ 32 → Tells (take last slots) seen
        → IsKept slots (record { top = last; gone = ends.gone }) seen capacity entries births spare
    kept_last seen left few tells =
        let top : last ≤ ends.top = omega (arith, is) in
        let tight : ends.gone ≤ count (take last slots) + 32 = omega (arith, few) in
        kept_less slots slots ends (record { top = last; gone = ends.gone }) recent seen capacity entries entries births spare number k k.keys gone_last.1 gone_last.0 tells tight
        left top (omega arith) refl

    pub items_last : number < births → items_of (value_at (take last slots) entries) births ≡ set (items_of (value_at (take ends.top slots) entries) births) number None
    items_last lt = items_less (take ends.top slots) (take last slots) entries entries births number gone_last.0 (λ n key e. refl) lt
