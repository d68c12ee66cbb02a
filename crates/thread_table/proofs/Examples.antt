-- What the definitions say of the operands of a thread, of activations that wait, and of a value that was given to a thread.
-- Those that hold do so by computing.
use Rattle.std.proofs.Common.{◌≡◌, ℕ, refl, pos, true, false, List, [], ◌∷◌, Some, None}
use Rattle.work_item.specs.declared.ids.FrameId.{FrameId}
use Rattle.work_item.specs.declared.ids.Item.{Item}
use Rattle.work_item.specs.declared.cell.Cell.{Cell}
use Rattle.work_item.specs.declared.cell.Cell.TheVariants as cell
use Rattle.code_meaning.specs.Machine.{Caller, nobody}
use Rattle.code_safety.specs.Fit.{is_int}
use Rattle.thread_table.specs.declared.callers.WaitingCall as callers
use Rattle.thread_table.specs.Operands.{is_reference, on_top}
use Rattle.thread_table.specs.Callers.{callers_of, all_below, Popped}
use Rattle.thread_table.specs.Table.{Table, HasPlace, living, or_nobody, with_given}

abbrev pub frame : ℕ → FrameId
frame n = record { number = n }

abbrev pub int : ℕ → Cell
int n = cell.Int (pos n)

abbrev pub array : Cell
array = cell.Array (record { home = None; start = 0; len = 3 })

-- ---- the topmost operand

pub what_is_a_reference : (is_reference array ≡ true) × (is_reference (int 3) ≡ false)
what_is_a_reference = (refl, refl)

-- the others do not matter
pub what_is_on_top : (on_top is_int (int 3 ∷ array ∷ []) ≡ true) × (on_top is_int (array ∷ int 3 ∷ []) ≡ false) × (on_top is_int [] ≡ false)
what_is_on_top = (refl, refl, refl)

-- ---- activations that wait

abbrev pub inner : callers.WaitingCall
inner = record { place = 9; frame = frame 2; below = 1 }

abbrev pub outer : callers.WaitingCall
outer = record { place = 5; frame = frame 1; below = 2 }

-- the operand on top of all is that of the innermost
abbrev pub both : List Caller
both =
    (record { place = 9; frame = frame 2; operands = int 3 ∷ [] }) ∷ (record { place = 5; frame = frame 1; operands = int 2 ∷ int 1 ∷ [] }) ∷ []

pub each_has_its_own : callers_of (inner ∷ outer ∷ []) (int 3 ∷ int 2 ∷ int 1 ∷ []) ≡ both
each_has_its_own = refl

pub all_of_them : all_below (inner ∷ outer ∷ []) ≡ 3
all_of_them = refl

pub innermost_goes_on : Popped both (callers_of (outer ∷ []) (int 2 ∷ int 1 ∷ [])) (int 7) (Some inner) (int 7 ∷ []) (int 7 ∷ int 3 ∷ [])
innermost_goes_on = (refl, (refl, (refl, refl)))

pub value_is_on_top : Popped both (callers_of (outer ∷ []) (int 2 ∷ int 1 ∷ [])) (int 7) (Some inner) (int 7 ∷ []) (int 3 ∷ int 7 ∷ []) → ⊥
value_is_on_top h = let e = h.1.1.1 in cc

pub none_waits : Popped [] [] (int 7) None (int 7 ∷ []) (int 7 ∷ [])
none_waits = (refl, refl)

pub none_is_passed_over : Popped both both (int 7) None (int 7 ∷ []) (int 7 ∷ []) → ⊥
none_is_passed_over h = h

-- ---- a value that was given

abbrev pub second : Item
second = record { number = 1 }

-- what was given to a thread lies on top of its operands, and one that has ended is passed over
pub a_thread_has_its_value : (with_given (Some nobody ∷ Some (record nobody { operands = int 3 ∷ [] }) ∷ []) (Some (record { item = second; value = int 0 }))
    ≡ Some nobody ∷ Some (record nobody { operands = int 0 ∷ int 3 ∷ [] }) ∷ [])
    × (with_given (Some nobody ∷ None ∷ []) (Some (record { item = second; value = int 0 })) ≡ Some nobody ∷ None ∷ [])
    × (with_given (Some nobody ∷ []) None ≡ Some nobody ∷ [])
a_thread_has_its_value = (refl, refl, refl)

-- the first lives, the second has ended
abbrev pub two : Table
two = record { threads = nobody ∷ nobody ∷ []; lives = true ∷ false ∷ []; pending = false; spare = 0 }

pub a_thread_that_lives_has_a_place : HasPlace two (record { number = 0 }) × (HasPlace two second → ⊥) × (HasPlace two (record { number = 2 }) → ⊥)
a_thread_that_lives_has_a_place = (refl, (λ h. let no : false ≡ true = h in cc), (λ h. let no : false ≡ true = h in cc))

pub one_of_them_lives : living two ≡ 1
one_of_them_lives = refl

pub ended_is_nobody : (or_nobody None ≡ nobody) × (or_nobody (Some (record nobody { place = 4 })) ≡ record nobody { place = 4 })
ended_is_nobody = (refl, refl)
