-- What the definitions say of three small numbers, of which the one in the middle is gone.
-- The slots of the same three show what gives a key and what does not.
use Rattle.std.proofs.Common.{◌≡◌, refl, ℕ, zero, suc, ◌≤◌, [], ◌∷◌, List, Option, None, Some, true, is_some, if◌then◌else◌, arith, lit<, lit≤, count_by}
use Rattle.birth_table.specs.Births.{Births, item_at, with_value, with_left}
use Rattle.birth_table.specs.declared.index.Slot.{Slot}
use Rattle.slab.specs.Slab.{Slab, get}
use Rattle.birth_table.specs.Keys.{lives, is_under, slot_at, key_of, Rises, Tells}
use Rattle.birth_table.specs.Kept.{in_slab, value_at, items_of, left_at, AreBelow, HaveKeys, IsKept}
use Rattle.birth_table.proofs.Counts.{once_other, under_cons}

-- 5 stands at 0 and 7 at 2; what stood at 1 is gone, 6 is left, and there is room for two more
abbrev pub births : Births ℕ
births = record { items = Some 5 ∷ None ∷ Some 7 ∷ []; left = Some 6; spare = 2 }

pub the_third : item_at births 2 ≡ Some 7
the_third = refl

pub one_that_is_gone : item_at births 1 ≡ None
one_that_is_gone = refl

pub none_was_born_there : item_at births 3 ≡ None
none_was_born_there = refl

pub not_another : item_at births 0 ≡ Some 7 → ⊥
not_another h = cc

pub one_that_is_written : with_value births 2 9 ≡ record { items = Some 5 ∷ None ∷ Some 9 ∷ []; left = Some 6; spare = 2 }
one_that_is_written = refl

pub nothing_is_added : with_value births 3 9 ≡ births
nothing_is_added = refl

pub the_others_stay : item_at (with_value births 2 9) 0 ≡ Some 9 → ⊥
the_others_stay h = cc

pub one_that_is_left : with_left births 9 ≡ record { items = Some 5 ∷ None ∷ Some 7 ∷ []; left = Some 9; spare = 2 }
one_that_is_left = refl

pub no_number_is_written : item_at (with_left births 9) 1 ≡ Some 9 → ⊥
no_number_is_written h = cc

-- ---- the slots of 3, 5 and 8, of which the value of 5 is gone

abbrev pub slot : ℕ → ℕ → Slot
slot number key = record { number = number; key = key }

abbrev pub slots : List Slot
slots = slot 3 1 ∷ slot 5 18446744073709551615 ∷ slot 8 0 ∷ []

pub its_key : key_of slots 8 ≡ Some 0
its_key = refl

pub no_key_of_one_that_is_gone : key_of slots 5 ≡ None
no_key_of_one_that_is_gone = refl

pub no_key_of_one_without_a_slot : key_of slots 4 ≡ None
no_key_of_one_without_a_slot = refl

pub not_the_key_of_another : key_of slots 3 ≡ Some 0 → ⊥
not_the_key_of_another h = cc

pub they_rise : Rises 0 slots 9
they_rise = (lit≤ tt, (lit≤ tt, (lit≤ tt, lit≤ tt)))

pub not_below_eight : Rises 0 slots 8 → ⊥
not_below_eight h = omega (arith, h)

-- 5 stands under the key of 3, and 7 under that of 8
abbrev pub entries : Slab ℕ
entries = record { slots = Some 7 ∷ Some 5 ∷ []; vacant_key = 2; capacity = 4 }

pub what_stands_at_three : in_slab entries (key_of slots 3) ≡ Some 5
what_stands_at_three = refl

pub nothing_without_a_key : in_slab entries (key_of slots 5) ≡ None
nothing_without_a_key = refl

pub by_number : items_of (value_at slots entries) 9 ≡ None ∷ None ∷ None ∷ Some 5 ∷ None ∷ None ∷ None ∷ None ∷ Some 7 ∷ []
by_number = refl

pub not_elsewhere : value_at slots entries 8 ≡ Some 5 → ⊥
not_elsewhere h = cc

-- ---- what slots tell

pub tells_its_key : Tells slots (slot 8 0)
tells_its_key = refl

pub tells_that_it_is_gone : Tells slots (slot 5 18446744073709551615)
tells_that_it_is_gone = refl

pub tells_another : Tells slots (slot 3 0) → ⊥
tells_another h = let wrong : ◌≡◌ {A = Option ℕ} (Some 1) (Some 0) = h in cc

pub told_once : count_by (is_under 1) slots ≡ 1
told_once = refl

pub the_second : slot_at slots 1 ≡ slot 5 18446744073709551615
the_second = refl

pub behind_the_last : lives (slot_at slots 3) ≡ true → ⊥
behind_the_last h = cc

-- two slots are of numbers, the second of a value that is gone, and 7 is left behind them
pub ends_there : AreBelow slots (record { top = 2; gone = 1 })
ends_there = record { within = lit≤ tt; gaps = refl }

pub not_at_the_end : AreBelow slots (record { top = 3; gone = 0 }) → ⊥
not_at_the_end h = let wrong : 2 ≡ 3 = h.gaps in omega (arith, wrong)

pub left_behind : left_at slots entries 2 ≡ Some 7
left_behind = refl

pub nothing_left : left_at slots entries 1 ≡ Some 5 → ⊥
nothing_left h = cc

-- ---- one value, of the number 3 of four, and one that is left

abbrev pub two : List Slot
two = slot 3 0 ∷ slot 1 1 ∷ []

abbrev pub five : Slab ℕ
five = record { slots = Some 5 ∷ Some 6 ∷ []; vacant_key = 2; capacity = 4 }

one_at_most : (key : ℕ) → count_by (is_under key) two ≤ (if is_some (get five key) then 1 else 0)
one_at_most zero = lit≤ tt
one_at_most (suc zero) = lit≤ tt
one_at_most (suc (suc key)) =
    let first = once_other (suc (suc key)) (slot 3 0) (λ e. omega arith) in
    let second = once_other (suc (suc key)) (slot 1 1) (λ e. omega arith) in
    omega (arith, first, second, under_cons (suc (suc key)) (slot 3 0) (slot 1 1 ∷ []), under_cons (suc (suc key)) (slot 1 1) [])

pub keys_are_had : HaveKeys two five
keys_are_had = record { once = λ key lt. one_at_most key; count = refl }

pub it_is_kept : IsKept two (record { top = 1; gone = 0 }) (slot 3 0) 3 five 4 2
it_is_kept = record {
  keys = keys_are_had;
  ends_are = record { within = lit≤ tt; gaps = refl };
  rise = (lit≤ tt, lit≤ tt);
  seen = refl;
  tight = lit≤ tt;
  left = lit≤ tt;
  room = lit≤ tt;
  places = lit≤ tt;
  few = lit< tt;
}

-- there is no room for three more
pub without_room : IsKept two (record { top = 1; gone = 0 }) (slot 3 0) 3 five 4 3 → ⊥
without_room h = omega (arith, h.room)

-- nothing stands under the key 2
pub without_a_value : HaveKeys (slot 3 0 ∷ slot 1 2 ∷ []) five → ⊥
without_a_value h = omega (arith, h.once 2 (lit< tt))

-- two slots do not tell one key
pub shared : HaveKeys (slot 2 0 ∷ slot 3 0 ∷ []) five → ⊥
shared h = omega (arith, h.once 0 (lit< tt))
