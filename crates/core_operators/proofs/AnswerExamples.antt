-- Where an answer can be stored, by example.
-- A read stores into the globals or into a frame that lives, and not into one that is gone; a write and a send store nothing, so they ask
-- for nothing.
use Rattle.std.proofs.Common.{◌≡◌, [], ◌∷◌, Some, None, true, false, refl}
use Rattle.std.specs.Prelude.{pos}
use Rattle.work_item.specs.declared.cell.Place.{Place}
use Rattle.work_item.specs.Store.{Store, no_int}
use Rattle.cancel_scope.specs.declared.operation.Asked.TheVariants.{Send, Read, Write}
use Rattle.core_operators.specs.Answers.{ReadsIntoLiving}

-- two globals, a frame that is gone and one that lives
abbrev store : Store
store = record { globals = pos 7 ∷ pos 0 ∷ []; frames = None ∷ Some (record { parent = None; cells = no_int ∷ no_int ∷ []; over = false }) ∷ [] }

abbrev second : Place
second = record { home = Some (record { number = 1 }); start = 0; len = 2 }

abbrev first : Place
first = record second { home = Some (record { number = 0 }) }

pub into_globals_and_a_living_frame : ReadsIntoLiving store (Read 6 4 (record second { home = None })) × ReadsIntoLiving store (Read 6 4 second)
into_globals_and_a_living_frame = (tt, refl)

pub into_no_frame_that_is_gone : ReadsIntoLiving store (Read 6 4 first) → ⊥
into_no_frame_that_is_gone h = let no : false ≡ true = h in cc

pub a_write_puts_nothing : ReadsIntoLiving store (Write 6 4 (66 ∷ [])) × ReadsIntoLiving store (Send (pos 5 ∷ []))
a_write_puts_nothing = (tt, tt)
