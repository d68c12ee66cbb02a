-- What expressions come to in a frame of a core, from left to right: a cell, the first trap, or a stop, where something waits for a value.
-- What is still to come of an expression that has stopped is the list of what is round its open place, from there outwards.
use Rattle.std.specs.Prelude.{ℤ, pos, List, [], ◌∷◌, map, Some, None, Result, Ok, Err}
use Rattle.ac_base.specs.declared.ends.Trap.{Trap}
use Rattle.ac_tree.specs.declared.expr.UnaryOp.{UnaryOp}
use Rattle.ac_tree.specs.declared.expr.UnaryOp.TheVariants as u
use Rattle.ac_tree.specs.declared.expr.BinaryOp.{BinaryOp}
use Rattle.ac_tree.specs.declared.expr.BinaryOp.TheVariants as b
use Rattle.work_item.specs.declared.ids.FrameId.{FrameId}
use Rattle.work_item.specs.declared.cell.Place as cells
use Rattle.work_item.specs.declared.cell.Cell.{Cell}
use Rattle.work_item.specs.declared.cell.Cell.TheVariants as c
use Rattle.work_item.specs.Store.{Store, above, cell_at, int_in, place_in, global_at}
use Rattle.core_state.specs.Arithmetic.{Computed, at_zero, truth, negated, not_true, flipped, sum_of}
use Rattle.core_state.specs.Arithmetic.{difference_of, product_of, quotient, remainder, shifted_left, shifted_right}
use Rattle.core_state.specs.Arithmetic.{is_equal, is_not_equal, is_less, is_at_most, both_bits, either_bits, differing_bits}
use Rattle.core_state.specs.Frames.{element, part_at}
use Rattle.ac_commands.specs.declared.value.Place.{Place}
use Rattle.ac_commands.specs.declared.value.Place.TheVariants as p
use Rattle.ac_commands.specs.declared.value.Array.{Array}
use Rattle.ac_commands.specs.declared.value.Array.TheVariants as a
use Rattle.ac_commands.specs.declared.value.Action.{Action}
use Rattle.ac_commands.specs.declared.value.Value.{Value, roll-Value, map-Value, fold-Value}
use Rattle.ac_commands.specs.declared.value.ValueLink.{ValueLink, fold-ValueLink}
use Rattle.ac_commands.specs.declared.value.Value.TheOpen.{Value-F, ValueLink-F}

-- ---- operators

abbrev pub unary : UnaryOp → ℤ → ℤ
unary u.Neg x = negated x
unary u.Not x = not_true x
unary u.Flip x = flipped x

-- after the left operand of `||` and `&&` has not decided alone, the truth of the right one is the value
abbrev pub operate : BinaryOp → ℤ → ℤ → Computed
operate b.Or x y = Ok (truth y)
operate b.And x y = Ok (truth y)
operate b.BitOr x y = Ok (either_bits x y)
operate b.BitXor x y = Ok (differing_bits x y)
operate b.BitAnd x y = Ok (both_bits x y)
operate b.Eq x y = Ok (is_equal x y)
operate b.Ne x y = Ok (is_not_equal x y)
operate b.Less x y = Ok (is_less x y)
operate b.LessEq x y = Ok (is_at_most x y)
operate b.More x y = Ok (is_less y x)
operate b.MoreEq x y = Ok (is_at_most y x)
operate b.Shl x y = Ok (shifted_left x y)
operate b.Shr x y = Ok (shifted_right x y)
operate b.Add x y = Ok (sum_of x y)
operate b.Sub x y = Ok (difference_of x y)
operate b.Mul x y = Ok (product_of x y)
operate b.Div x y = quotient x y
operate b.Rem x y = remainder x y

-- ---- places

-- what stands at a place, as it is
abbrev pub variable : Store → FrameId → Place → Cell
variable s frame (p.Global slot) = c.Int (global_at s slot)
variable s frame (p.Local level slot) = cell_at s frame level slot

-- a reference to an array; a parameter holds one
abbrev pub reference : Store → FrameId → Array → Cell
reference s frame (a.Global slot len) = c.Array (record { home = None; start = slot; len = len })
reference s frame (a.Local level slot len) = c.Array (record { home = Some (above s frame level); start = slot; len = len })
reference s frame (a.Param level slot) = cell_at s frame level slot

abbrev pub array : Store → FrameId → Array → cells.Place
array s frame whole = place_in (reference s frame whole)

-- ---- what is round an open place

-- what takes operands: a call or an operation, or the statement itself
pub data Head : Type 0 where
  Acting : Action → Head
  Ending : Head

-- A part of a statement with an open place in it. What was computed before stands in it as a cell or an int.
pub data Context : Type 0 where
  -- the index of an element, and of a reference to one
  ElementAt : cells.Place → Context
  PartAt : cells.Place → Context
  Operand : UnaryOp → Context
  -- the first operand of a chain, and a right one after the value on its left
  First : List ValueLink → Context
  Right : ℤ → BinaryOp → List ValueLink → Context
  -- one of several operands; of those before it the last is the first
  Operands : Head → List Cell → List Value → Context

-- what an expression comes to, or a row of operands: a stop is at a head, with its operands, of which the last is the first
pub data Evaluated : Type 0 where
  Comes : Cell → Evaluated
  Traps : Trap → Evaluated
  Stops : Head → List Cell → List Context → Evaluated

abbrev pub then_goes : Evaluated → (Cell → Evaluated) → Evaluated
then_goes (Comes x) f = f x
then_goes (Traps trap) f = Traps trap
then_goes (Stops head operands around) f = Stops head operands around

abbrev pub then_int : Computed → (ℤ → Evaluated) → Evaluated
then_int (Ok x) f = f x
then_int (Err trap) f = Traps trap

abbrev pub comes_int : ℤ → Evaluated
comes_int x = Comes (c.Int x)

abbrev pub then_part : Result cells.Place Trap → Evaluated
then_part (Ok place) = Comes (c.Array place)
then_part (Err trap) = Traps trap

-- an expression in a state, by what is round it
abbrev pub Goes : Type 0
Goes = List Context → Evaluated

-- an expression or a right operand, beside what it comes to
abbrev pub Told : Type 0
Told = Value × Goes

abbrev pub LinkTold : Type 0
LinkTold = BinaryOp × Told

abbrev pub link_in : LinkTold → ValueLink
link_in l = record { op = l.0; operand = l.1.0 }

-- the left operand of `||` and `&&` may decide alone
abbrev pub unless_decided : BinaryOp → ℤ → (ℤ → Evaluated) → Evaluated → Evaluated
unless_decided b.Or x decided right = at_zero x right (decided (pos 1))
unless_decided b.And x decided right = at_zero x (decided (pos 0)) right
unless_decided op x decided right = right

-- a chain groups to the left; without an operator it is its operand
abbrev pub chained : Cell → List LinkTold → Goes
chained x [] around = Comes x
chained x (l ∷ links) around =
    unless_decided l.0 (int_in x) (λ v. chained (c.Int v) links around)
    (then_goes (l.1.1 (Right (int_in x) l.0 (map link_in links) ∷ around)) (λ y.
    then_int (operate l.0 (int_in x) (int_in y)) (λ v. chained (c.Int v) links around)))

-- operands from left to right, and then the stop at what takes them
abbrev pub row : Head → List Cell → List Told → Goes
row head operands [] around = Stops head operands around
row head operands (x ∷ xs) around =
    then_goes (x.1 (Operands head operands (map (λ t. t.0) xs) ∷ around)) (λ v. row head (v ∷ operands) xs around)

abbrev pub goes_step : Store → FrameId → Value-F Told LinkTold → Goes
goes_step s frame (Value-F.Number value) around = comes_int value
goes_step s frame (Value-F.Variable place) around = Comes (variable s frame place)
goes_step s frame (Value-F.Reference whole) around = Comes (reference s frame whole)
goes_step s frame (Value-F.Element whole index) around =
    then_goes (index.1 (ElementAt (array s frame whole) ∷ around)) (λ y. then_int (element s (array s frame whole) (int_in y)) comes_int)
goes_step s frame (Value-F.Part whole index) around =
    then_goes (index.1 (PartAt (array s frame whole) ∷ around)) (λ y. then_part (part_at (array s frame whole) (int_in y)))
goes_step s frame (Value-F.Unary op operand) around = then_goes (operand.1 (Operand op ∷ around)) (λ x. comes_int (unary op (int_in x)))
goes_step s frame (Value-F.Chain first rest) around =
    then_goes (first.1 (First (map link_in rest) ∷ around)) (λ x. chained x rest around)
goes_step s frame (Value-F.Act action operands) around = row (Acting action) [] operands around

abbrev pub told_step : Store → FrameId → Value-F Told LinkTold → Told
told_step s frame x = (roll-Value (map-Value Told LinkTold Value ValueLink (λ t. t.0) link_in x), goes_step s frame x)

abbrev pub link_step : ValueLink-F Told LinkTold → LinkTold
link_step link = (link.op, link.operand)

abbrev pub told : Store → FrameId → Value → Told
told s frame = fold-Value Told LinkTold (told_step s frame) link_step

abbrev pub link_told : Store → FrameId → ValueLink → LinkTold
link_told s frame = fold-ValueLink Told LinkTold (told_step s frame) link_step

abbrev pub goes : Store → FrameId → Value → Goes
goes s frame x = (told s frame x).1

abbrev pub chain_goes : Store → FrameId → Cell → List ValueLink → Goes
chain_goes s frame x links = chained x (map (link_told s frame) links)

abbrev pub row_goes : Store → FrameId → Head → List Cell → List Value → Goes
row_goes s frame head operands xs = row head operands (map (told s frame) xs)

-- ---- going on

-- a cell in the open place
abbrev pub gives : Store → FrameId → Context → Cell → Goes
gives s frame (ElementAt place) y around = then_int (element s place (int_in y)) comes_int
gives s frame (PartAt place) y around = then_part (part_at place (int_in y))
gives s frame (Operand op) x around = comes_int (unary op (int_in x))
gives s frame (First rest) x around = chain_goes s frame x rest around
gives s frame (Right x op rest) y around = then_int (operate op x (int_in y)) (λ v. chain_goes s frame (c.Int v) rest around)
gives s frame (Operands head operands rest) v around = row_goes s frame head (v ∷ operands) rest around

-- what has stopped, with a cell in its open place, in the state of this moment
abbrev pub resumes : Store → FrameId → List Context → Cell → Evaluated
resumes s frame [] v = Comes v
resumes s frame (x ∷ around) v = then_goes (gives s frame x v around) (λ w. resumes s frame around w)
