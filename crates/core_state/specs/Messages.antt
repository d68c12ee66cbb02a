-- What a message takes from the ints of a core, and what it puts into them.
use Rattle.std.specs.Prelude.{ℕ, zero, suc, ◌+◌, ℤ, List, [], ◌∷◌, Option, take}
use Rattle.work_item.specs.declared.ids.FrameId.{FrameId}
use Rattle.work_item.specs.declared.cell.Place.{Place}
use Rattle.work_item.specs.declared.cell.Cell.{Cell}
use Rattle.work_item.specs.declared.cell.Cell.TheVariants as c
use Rattle.work_item.specs.Store.{Store, int_in, int_from, with_int_from}

-- so many ints, from that slot on
abbrev pub ints_from : Store → Option FrameId → ℕ → ℕ → List ℤ
ints_from store home slot zero = []
ints_from store home slot (suc len) = int_from store home slot ∷ ints_from store home (slot + 1) len

abbrev pub ints_at : Store → Place → List ℤ
ints_at store place = ints_from store place.home place.start place.len

abbrev pub with_ints_from : Store → Option FrameId → ℕ → List ℤ → Store
with_ints_from store home slot [] = store
with_ints_from store home slot (v ∷ ints) = with_ints_from (with_int_from store home slot v) home (slot + 1) ints

-- in order, as many as there are elements
abbrev pub with_ints_at : Store → Place → List ℤ → Store
with_ints_at store place ints = with_ints_from store place.home place.start (take place.len ints)

-- what is sent: the int, or all elements of the array as they are now
abbrev pub message_in : Store → Cell → List ℤ
message_in store (c.Array place) = ints_at store place
message_in store x = int_in x ∷ []
