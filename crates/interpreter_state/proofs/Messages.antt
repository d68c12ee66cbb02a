-- What is sent of a slot, by whether it refers to an array. For `message_in`.
-- By cases on what the slot holds.
use Rattle.std.proofs.Common.{◌≡◌, [], ◌∷◌, Some, None, refl, ap}
use Rattle.work_item.specs.declared.cell.Cell.{Cell}
use Rattle.work_item.specs.declared.cell.Cell.TheVariants as cell
use Rattle.work_item.specs.declared.cell.Place.{Place}
use Rattle.work_item.specs.Store.{Store, int_in}
use Rattle.core_state.specs.Messages.{ints_at, message_in}
use Rattle.interpreter_state.specs.inner.Data.{array_in}

pub array_is_sent : (store : Store) (x : Cell) (place : Place) → Some place ≡ array_in x → ints_at store place ≡ message_in store x
array_is_sent store (cell.Array its) place e = let same : place ≡ its = cc in ap (ints_at store) same
array_is_sent store (cell.Int value) place e = let no : Some place ≡ None = e in absurd (cc)
array_is_sent store (cell.Block block) place e = let no : Some place ≡ None = e in absurd (cc)

pub int_is_sent : (store : Store) (x : Cell) → None ≡ array_in x → int_in x ∷ [] ≡ message_in store x
int_is_sent store (cell.Array its) e = let no : None ≡ Some its = e in absurd (cc)
int_is_sent store (cell.Int value) e = refl
int_is_sent store (cell.Block block) e = refl
