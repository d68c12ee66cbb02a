-- What a message can be made of, by example.
-- Of an int, and of an array of 1 to 16 elements in the globals or in a frame that lives; not of none, of 17, or of one in a frame that is gone.
use Rattle.std.proofs.Common.{◌≡◌, [], ◌∷◌, Some, None, true, false, refl, arith}
use Rattle.std.specs.Prelude.{pos}
use Rattle.work_item.specs.declared.cell.Place.{Place}
use Rattle.work_item.specs.declared.cell.Cell.TheVariants as cell
use Rattle.work_item.specs.Store.{Store, no_int}
use Rattle.core_operators.specs.Carrying.{MakesMessage}

-- two globals, a frame that is gone and one that lives
abbrev store : Store
store = record { globals = pos 7 ∷ pos 0 ∷ []; frames = None ∷ Some (record { parent = None; cells = no_int ∷ no_int ∷ []; over = false }) ∷ [] }

abbrev second : Place
second = record { home = Some (record { number = 1 }); start = 0; len = 2 }

pub of_an_int_and_of_an_array : MakesMessage store (cell.Int (pos 5)) × (MakesMessage store (cell.Array second) × MakesMessage store (cell.Array (record second { home = None; len = 16 })))
of_an_int_and_of_an_array = (tt, ((refl, (omega arith, omega arith)), (tt, (omega arith, omega arith))))

pub of_no_elements_nor_of_17 : (MakesMessage store (cell.Array (record second { len = 0 })) → ⊥) × (MakesMessage store (cell.Array (record second { len = 17 })) → ⊥)
of_no_elements_nor_of_17 = (λ h. let least = h.1.0 in absurd (omega (arith, least)), λ h. let most = h.1.1 in absurd (omega (arith, most)))

pub of_none_in_a_frame_that_is_gone : MakesMessage store (cell.Array (record second { home = Some (record { number = 0 }) })) → ⊥
of_none_in_a_frame_that_is_gone h = let no : false ≡ true = h.0 in cc
