-- Messages out of an array of three ints in the globals, and into it.
-- All elements are sent as they are, in order, and what is received goes into the elements in order, up to the shorter of the two.
use Rattle.std.proofs.Common.{◌≡◌, refl, pos, negsuc, [], ◌∷◌, None, Some, false}
use Rattle.work_item.specs.declared.cell.Place.{Place}
use Rattle.work_item.specs.declared.cell.Cell.TheVariants as cell
use Rattle.work_item.specs.Store.{Store}
use Rattle.core_state.specs.Messages.{ints_from, ints_at, with_ints_from, with_ints_at, message_in}

-- 4, 0 and -6 after an 8
abbrev pub store : Store
store = record {
  globals = pos 8 ∷ pos 4 ∷ pos 0 ∷ negsuc 5 ∷ [];
  frames = Some (record { parent = None; cells = cell.Int (pos 1) ∷ cell.Int (pos 2) ∷ []; over = false }) ∷ [];
}

abbrev pub three : Place
three = record { home = None; start = 1; len = 3 }

abbrev pub in_its_frame : Place
in_its_frame = record { home = Some (record { number = 0 }); start = 0; len = 2 }

pub all_elements_in_order : (ints_at store three ≡ pos 4 ∷ pos 0 ∷ negsuc 5 ∷ []) × (ints_at store in_its_frame ≡ pos 1 ∷ pos 2 ∷ [])
    × (ints_from store None 2 1 ≡ pos 0 ∷ []) × (ints_from store None 2 0 ≡ [])
all_elements_in_order = (refl, refl, refl, refl)

pub what_is_sent : (message_in store (cell.Array three) ≡ pos 4 ∷ pos 0 ∷ negsuc 5 ∷ []) × (message_in store (cell.Int (pos 4)) ≡ pos 4 ∷ [])
    × (message_in store (cell.Array (record three { len = 1 })) ≡ pos 4 ∷ []) × (message_in store (cell.Block (record { number = 7 })) ≡ pos 0 ∷ [])
what_is_sent = (refl, refl, refl, refl)

-- one int into each element; an int for which there is no element is dropped, and an element for which there is no int stays
pub what_is_received : (with_ints_at store three (pos 1 ∷ pos 2 ∷ pos 3 ∷ []) ≡ record store { globals = pos 8 ∷ pos 1 ∷ pos 2 ∷ pos 3 ∷ [] })
    × (with_ints_at store three (pos 1 ∷ pos 2 ∷ pos 3 ∷ pos 5 ∷ []) ≡ record store { globals = pos 8 ∷ pos 1 ∷ pos 2 ∷ pos 3 ∷ [] })
    × (with_ints_at store three (pos 1 ∷ []) ≡ record store { globals = pos 8 ∷ pos 1 ∷ pos 0 ∷ negsuc 5 ∷ [] })
    × (with_ints_at store (record three { len = 1 }) (pos 1 ∷ pos 2 ∷ []) ≡ record store { globals = pos 8 ∷ pos 1 ∷ pos 0 ∷ negsuc 5 ∷ [] })
    × (with_ints_from store None 2 (pos 7 ∷ []) ≡ record store { globals = pos 8 ∷ pos 4 ∷ pos 7 ∷ negsuc 5 ∷ [] })
what_is_received = (refl, refl, refl, refl, refl)
