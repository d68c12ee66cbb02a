-- Where the code stands that does what is round an open place.
-- What the source keeps as a list of contexts is a place in the code with operands on the stack. `Waits` says by induction on the list
-- which operands lie below the value, and where the code goes on with it.
use Rattle.std.proofs.Common.{◌≡◌, ℕ, ◌+◌, ◌≤◌, List, [], ◌∷◌, ◌++◌, length, map, Some, true}
use Rattle.std.specs.Prelude.{slice_get, ℤ, pos}
use Rattle.ac_tree.specs.declared.expr.BinaryOp.{BinaryOp}
use Rattle.ac_tree.specs.declared.expr.BinaryOp.TheVariants as b
use Rattle.work_item.specs.declared.cell.Place as cells
use Rattle.work_item.specs.declared.cell.Cell.{Cell}
use Rattle.work_item.specs.Store.{int_in, place_in}
use Rattle.ac_commands.specs.declared.value.Value.{Value}
use Rattle.ac_commands.specs.declared.value.ValueLink.{ValueLink}
use Rattle.ac_semantics.specs.Evaluation.{Head, Acting, Ending, Context, ElementAt, PartAt, Operand, First, Right, Operands}
use Rattle.stack_code.specs.declared.instr.Instr.{Instr}
use Rattle.stack_code.specs.declared.instr.Instr.TheVariants as i
use Rattle.ac_translation.specs.Pieces.{Exits, Piece, one, ◌⨾◌, over}
use Rattle.ac_translation.specs.Translation.{unary_code, operator_code, chained_code, link_code, action_code, values_code}
use Rattle.ac_translation.proofs.WellFormed.{takes, all_fit, links_fit}
use Rattle.ac_translation.proofs.Placed.{Placed}

-- after a right side that may be passed over, and before what follows it
abbrev pub lazy_end : Instr → Piece
lazy_end decided = one i.Bool ⨾ over i.Jump 1 ⨾ one decided

-- after a right operand
abbrev pub right_code : BinaryOp → Piece
right_code b.Or = lazy_end (i.Push (pos 1))
right_code b.And = lazy_end (i.Push (pos 0))
right_code op = one (operator_code op)

-- what lies below a right operand: the jump over it has taken the left one of `||` and `&&`
abbrev pub LeftBelow : BinaryOp → ℤ → List Cell → List Cell → Type 0
LeftBelow b.Or x operands below = operands ≡ below
LeftBelow b.And x operands below = operands ≡ below
LeftBelow op x operands below = (o : Cell) × (operands ≡ o ∷ below) × (int_in o ≡ x)

abbrev pub ArrayBelow : cells.Place → List Cell → List Cell → Type 0
ArrayBelow place operands below = (o : Cell) × (operands ≡ o ∷ below) × (place_in o ≡ place)

module _ (code : List Instr) where
  -- the index of an element, or of a reference to one
  pub record IndexAt (instr : Instr) (whole : cells.Place) (place : ℕ) (operands : List Cell) (Then : ℕ → List Cell → Type 0) : Type 0 where
    pub exits : Exits
    pub to : ℕ
    pub below : List Cell
    pub stands : Placed code (one instr) exits place to
    pub lies : ArrayBelow whole operands below
    pub rest : Then to below

  -- what takes one operand
  pub record SingleAt (piece : Piece) (place : ℕ) (operands : List Cell) (Then : ℕ → List Cell → Type 0) : Type 0 where
    pub exits : Exits
    pub to : ℕ
    pub stands : Placed code piece exits place to
    pub rest : Then to operands

  -- a right operand, and the rest of its chain
  pub record RightAt (x : ℤ) (op : BinaryOp) (links : List ValueLink) (place : ℕ) (operands : List Cell) (Then : ℕ → List Cell → Type 0) : Type 0 where
    pub exits : Exits
    pub after : ℕ
    pub to : ℕ
    pub below : List Cell
    pub operator : Placed code (right_code op) exits place after
    pub others : Placed code (chained_code (map link_code links)) exits after to
    pub fit : links_fit links ≡ true
    pub lies : LeftBelow op x operands below
    pub rest : Then to below

  -- what takes so many operands, above those that lie below them
  abbrev pub HeadAt : Head → ℕ → ℕ → List Cell → (ℕ → List Cell → Type 0) → (ℕ → ℕ → Type 0) → Type 0
  HeadAt (Acting action) place count below Then Last = (slice_get code place ≡ Some (action_code action count)) × (takes action count ≡ true) × Then (place + 1) below
  HeadAt Ending place count below Then Last = (below ≡ []) × (1 ≤ count) × Last place count

  -- one of several operands, with those after it
  pub record RowAt (head : Head) (values : List Cell) (xs : List Value) (place : ℕ) (operands : List Cell) (Then : ℕ → List Cell → Type 0) (Last : ℕ → ℕ → Type 0) : Type 0 where
    pub exits : Exits
    pub to : ℕ
    pub below : List Cell
    pub stands : Placed code (values_code xs) exits place to
    pub fit : all_fit xs ≡ true
    pub lies : operands ≡ values ++ below
    pub rest : HeadAt head to (length values + 1 + length xs) below Then Last

  -- With a value on top of these operands the code at this address does what is round the open place. Where a statement takes its operands,
  -- `Last` holds of the address and of their number.
  abbrev pub Waits : List Context → ℕ → List Cell → (ℕ → ℕ → Type 0) → Type 0
  Waits [] place operands Last = ⊥
  Waits (ElementAt whole ∷ around) place operands Last = IndexAt i.Elem whole place operands (λ to below. Waits around to below Last)
  Waits (PartAt whole ∷ around) place operands Last = IndexAt i.Place whole place operands (λ to below. Waits around to below Last)
  Waits (Operand op ∷ around) place operands Last = SingleAt (one (unary_code op)) place operands (λ to below. Waits around to below Last)
  Waits (First links ∷ around) place operands Last =
      (links_fit links ≡ true) × SingleAt (chained_code (map link_code links)) place operands (λ to below. Waits around to below Last)
  Waits (Right x op links ∷ around) place operands Last = RightAt x op links place operands (λ to below. Waits around to below Last)
  Waits (Operands head values xs ∷ around) place operands Last = RowAt head values xs place operands (λ to below. Waits around to below Last) Last

  -- a statement takes its operands somewhere
  pub taken_at : (around : List Context) (place : ℕ) (operands : List Cell) (Last : ℕ → ℕ → Type 0) → Waits around place operands Last → (to : ℕ) × (count : ℕ) × Last to count
  taken_at [] place operands Last w = absurd w
  taken_at (ElementAt whole ∷ around) place operands Last w = taken_at around w.to w.below Last w.rest
  taken_at (PartAt whole ∷ around) place operands Last w = taken_at around w.to w.below Last w.rest
  taken_at (Operand op ∷ around) place operands Last w = taken_at around w.to operands Last w.rest
  taken_at (First links ∷ around) place operands Last w = taken_at around w.1.to operands Last w.1.rest
  taken_at (Right x op links ∷ around) place operands Last w = taken_at around w.to w.below Last w.rest
  taken_at (Operands (Acting action) values xs ∷ around) place operands Last w = taken_at around (w.to + 1) w.below Last w.rest.2
  taken_at (Operands Ending values xs ∷ around) place operands Last w = (w.to, length values + 1 + length xs, w.rest.2)
