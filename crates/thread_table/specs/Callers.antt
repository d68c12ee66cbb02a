-- The activations of a thread that wait, as they are kept: beside the operands of all of them.
use Rattle.std.specs.Prelude.{◌≡◌, ℕ, ◌+◌, List, [], ◌∷◌, Option, Some, None, take, drop}
use Rattle.work_item.specs.declared.cell.Cell.{Cell}
use Rattle.code_meaning.specs.Machine.{Caller}
use Rattle.thread_table.specs.declared.callers.WaitingCall.{WaitingCall}

-- the innermost comes first, and so does its topmost operand
abbrev pub callers_of : List WaitingCall → List Cell → List Caller
callers_of [] cells = []
callers_of (w ∷ waiting) cells =
    (record { place = w.place; frame = w.frame; operands = take w.below cells }) ∷ callers_of waiting (drop w.below cells)

abbrev pub all_below : List WaitingCall → ℕ
all_below [] = 0
all_below (w ∷ waiting) = w.below + all_below waiting

-- the innermost goes on, if there is one, with the value on top of its operands
abbrev pub Popped : List Caller → List Caller → Cell → Option WaitingCall → List Cell → List Cell → Type 0
Popped [] after value None operands left = (after ≡ []) × (left ≡ operands)
Popped (c ∷ callers) after value (Some w) operands left =
    (w.place ≡ c.place) × ((w.frame ≡ c.frame) × ((after ≡ callers) × (left ≡ value ∷ c.operands)))
Popped _ after value back operands left = ⊥
