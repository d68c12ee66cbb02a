-- What a statement does whose calls and operations stand alone is its plain step.
-- A value without calls never stops, so it comes to what it plainly comes to whatever is round it (`same_value`, by induction on it). The
-- first operand of a statement may be a call: it stops there with the rest of the operands round it, and what goes on is that rest.
use Rattle.std.proofs.Common.{◌≡◌, refl, sym, ap, ◌∙◌, subst, ℕ, ◌+◌, ◌≤◌, List, [], ◌∷◌, map, Some, None, arith}
use Rattle.std.specs.Prelude.{ℤ, pos, negsuc, zero, suc, Result, Ok, Err}
use Rattle.ac_base.specs.declared.ends.Trap.{Trap}
use Rattle.ac_tree.specs.Weight.{total}
use Rattle.ac_tree.specs.declared.expr.BinaryOp.{BinaryOp}
use Rattle.ac_tree.specs.declared.expr.BinaryOp.TheVariants as b
use Rattle.work_item.specs.declared.ids.FrameId.{FrameId}
use Rattle.work_item.specs.declared.cell.Place as cells
use Rattle.work_item.specs.declared.cell.Cell.{Cell}
use Rattle.work_item.specs.declared.cell.Cell.TheVariants as cell
use Rattle.work_item.specs.Store.{Store, int_in}
use Rattle.core_state.specs.Arithmetic.{Computed, truth}
use Rattle.core_state.specs.Frames.{element, part_at}
use Rattle.ac_commands.specs.declared.value.Action.{Action}
use Rattle.ac_commands.specs.declared.value.Value.{Value, roll-Value, out-Value, out-roll-Value, map-Value, ind-Value, fold-roll-Value}
use Rattle.ac_commands.specs.declared.value.Value.TheOpen.{Value-F, ValueLink-F}
use Rattle.ac_commands.specs.declared.value.ValueLink.{ValueLink, fold-ValueLink, fold-roll-ValueLink}
use Rattle.ac_commands.specs.declared.command.Command.{Command, out-Command, out-roll-Command, map-Command, ind-Command, fold-roll-Command}
use Rattle.ac_commands.specs.declared.command.Command.TheOpen.{Command-F}
use Rattle.ac_commands.specs.declared.program.Resolved.{Resolved}
use Rattle.ac_semantics.specs.Evaluation.{array, operate, Head, Acting, Ending, Context, ElementAt, PartAt, Operand, First, Operands, Evaluated, Comes, Traps, Stops, comes_int}
use Rattle.ac_semantics.specs.Evaluation.{then_goes, then_int, then_part, unless_decided, goes, chain_goes, row_goes, gives}
use Rattle.ac_semantics.specs.Held.{Held}
use Rattle.ac_semantics.specs.Work.{Work}
use Rattle.ac_semantics.specs.Statements.{Next, or_trap, operands_of, finish, settles, does, goes_on_with}
use Rattle.ac_semantics.proofs.Forms.{then_itself, form_goes, goes_form, link_goes, operand_goes}
use Rattle.ac_compile.specs.StandAlone.{Acts}
use Rattle.ac_compile.specs.Alone.{acts, all_acts, after_act, own_nested, nested_within, command_step, command_nested, IsAlone}
use Rattle.ac_compile.specs.Alone as alone
use Rattle.ac_compile.specs.Plain.{Plain, and_then, int, part, joined, chained, value_step, link_step, plain_value, plain_row, rest_of, waits_for}
use Rattle.ac_compile.specs.Plain.{ends_plainly, acts_plainly, begins_plainly, goes_plainly, plain_does, plain_goes_on}

-- ---- counts by their forms

abbrev pub link_acts : ValueLink → ℕ
link_acts = fold-ValueLink Acts ℕ alone.value_step alone.link_step

pub acts_form : (x : Value-F Value ValueLink) → acts (roll-Value x) ≡ alone.value_step (map-Value Value ValueLink Acts ℕ acts link_acts x)
acts_form = fold-roll-Value Acts ℕ alone.value_step alone.link_step

pub link_count : (l : ValueLink) → link_acts l ≡ (acts l.operand).all
link_count l = fold-roll-ValueLink Acts ℕ alone.value_step alone.link_step (record { op = l.op; operand = l.operand })

pub all_form : (x : Value-F Value ValueLink) → (acts (roll-Value x)).all ≡ (alone.value_step (map-Value Value ValueLink Acts ℕ acts link_acts x)).all
all_form x = ap (λ (a : Acts). a.all) (acts_form x)

pub nested_form : (x : Value-F Value ValueLink) → (acts (roll-Value x)).nested ≡ (alone.value_step (map-Value Value ValueLink Acts ℕ acts link_acts x)).nested
nested_form x = ap (λ (a : Acts). a.nested) (acts_form x)

-- ---- outcomes

-- what a plain value comes to, and a plain row of operands
abbrev from_plain : Plain → Evaluated
from_plain (Ok x) = Comes x
from_plain (Err trap) = Traps trap

abbrev from_row : Head → List Context → Result (List Cell) Trap → Evaluated
from_row head around (Ok operands) = Stops head operands around
from_row head around (Err trap) = Traps trap

then_same : (r : Plain) (f : Cell → Evaluated) (g : Cell → Plain) → ((x : Cell) → f x ≡ from_plain (g x)) → then_goes (from_plain r) f ≡ from_plain (and_then r g)
then_same (Ok x) f g same = same x
then_same (Err trap) f g same = refl

row_same : (head : Head) (around : List Context) (r : Plain) (f : Cell → Evaluated) (g : Cell → Result (List Cell) Trap) →
    ((x : Cell) → f x ≡ from_row head around (g x)) → then_goes (from_plain r) f ≡ from_row head around (and_then r g)
row_same head around (Ok x) f g same = same x
row_same head around (Err trap) f g same = refl

int_same : (r : Computed) → then_int r comes_int ≡ from_plain (int r)
int_same (Ok n) = refl
int_same (Err trap) = refl

part_same : (r : Result cells.Place Trap) → then_part r ≡ from_plain (part r)
part_same (Ok place) = refl
part_same (Err trap) = refl

computed_same : (r : Computed) (f : ℤ → Evaluated) (g : ℤ → Plain) → ((n : ℤ) → f n ≡ from_plain (g n)) → then_int r f ≡ from_plain (and_then r g)
computed_same (Ok n) f g same = same n
computed_same (Err trap) f g same = refl

right_same : (right : Plain) (h : Cell → Computed) (f : ℤ → Evaluated) (g : ℤ → Plain) → ((n : ℤ) → f n ≡ from_plain (g n)) →
    then_goes (from_plain right) (λ y. then_int (h y) f) ≡ from_plain (and_then (and_then right h) g)
right_same (Ok y) h f g same = computed_same (h y) f g same
right_same (Err trap) h f g same = refl

-- the left operand may decide alone
joined_same : (op : BinaryOp) (x : ℤ) (right : Plain) (f : ℤ → Evaluated) (g : ℤ → Plain) → ((n : ℤ) → f n ≡ from_plain (g n)) →
    unless_decided op x f (then_goes (from_plain right) (λ y. then_int (operate op x (int_in y)) f)) ≡ from_plain (and_then (joined op x right) g)
joined_same b.Or (pos zero) right f g same = right_same right (λ y. Ok (truth (int_in y))) f g same
joined_same b.Or (pos (suc n)) right f g same = same (pos 1)
joined_same b.Or (negsuc n) right f g same = same (pos 1)
joined_same b.And (pos zero) right f g same = same (pos 0)
joined_same b.And (pos (suc n)) right f g same = right_same right (λ y. Ok (truth (int_in y))) f g same
joined_same b.And (negsuc n) right f g same = right_same right (λ y. Ok (truth (int_in y))) f g same
joined_same op x right f g same = right_same right (λ y. operate op x (int_in y)) f g same

-- ---- values

module _ (s : Store) (frame : FrameId) where
  abbrev pub plain_link : ValueLink → BinaryOp × Plain
  plain_link = fold-ValueLink Plain (BinaryOp × Plain) (value_step s frame) link_step

  pub plain_form : (x : Value-F Value ValueLink) → plain_value s frame (roll-Value x) ≡ value_step s frame (map-Value Value ValueLink Plain (BinaryOp × Plain) (plain_value s frame) plain_link x)
  plain_form = fold-roll-Value Plain (BinaryOp × Plain) (value_step s frame) link_step

  pub link_form : (l : ValueLink) → plain_link l ≡ (l.op, plain_value s frame l.operand)
  link_form l = fold-roll-ValueLink Plain (BinaryOp × Plain) (value_step s frame) link_step (record { op = l.op; operand = l.operand })

  abbrev Same : Value → Type 0
  Same x = (acts x).all ≡ 0 → (around : List Context) → goes s frame x around ≡ from_plain (plain_value s frame x)

  abbrev Value_ : Type 0
  Value_ = (x : Value) × Same x

  abbrev Link_ : Type 0
  Link_ = (l : ValueLink) × Same l.operand

  abbrev links_of : List Link_ → List ValueLink
  links_of ls = map (λ (l : Link_). l.0) ls

  chain_same : (ls : List Link_) → total (map link_acts (links_of ls)) ≡ 0 → (x : Cell) (around : List Context) →
      chain_goes s frame x (links_of ls) around ≡ from_plain (chained x (map plain_link (links_of ls)))
  chain_same [] none x around = refl
  chain_same (l ∷ ls) none x around =
      let count = link_count l.0 in
      let right = l.1 (omega (arith, count, none)) in
      let rest : (n : ℤ) → chain_goes s frame (cell.Int n) (links_of ls) around ≡ from_plain (chained (cell.Int n) (map plain_link (links_of ls)))
      = λ n. chain_same ls (omega (arith, none)) (cell.Int n) around in
      link_goes s frame x l.0 (links_of ls) around
      ∙ ap (λ (r : Evaluated). unless_decided l.0.op (int_in x) (λ v. chain_goes s frame (cell.Int v) (links_of ls) around) (then_goes r (λ y. then_int (operate l.0.op (int_in x) (int_in y))
      (λ v. chain_goes s frame (cell.Int v) (links_of ls) around)))) (right _)
      ∙ joined_same l.0.op (int_in x) (plain_value s frame l.0.operand) _ (λ n. chained (cell.Int n) (map plain_link (links_of ls))) rest
      ∙ ap (λ (t : BinaryOp × Plain). from_plain (chained x (t ∷ map plain_link (links_of ls)))) (sym (link_form l.0))

  abbrev form_of : Value-F Value_ Link_ → Value-F Value ValueLink
  form_of y = map-Value Value_ Link_ Value ValueLink (λ x. x.0) (λ l. l.0) y

  abbrev plain_of : Value-F Value ValueLink → Plain
  plain_of x = value_step s frame (map-Value Value ValueLink Plain (BinaryOp × Plain) (plain_value s frame) plain_link x)

  abbrev acts_of : Value-F Value ValueLink → Acts
  acts_of x = alone.value_step (map-Value Value ValueLink Acts ℕ acts link_acts x)

  -- one form, whose parts come to what they plainly come to
  layer : (y : Value-F Value_ Link_) → (acts_of (form_of y)).all ≡ 0 → (around : List Context) → form_goes s frame (form_of y) around ≡ from_plain (plain_of (form_of y))
  layer (Value-F.Number value) none around = refl
  layer (Value-F.Variable place) none around = refl
  layer (Value-F.Reference whole) none around = refl
  layer (Value-F.Element whole index) none around =
      rw (index.1 none (ElementAt (array s frame whole) ∷ around)) (then_same (plain_value s frame index.0) _ _ (λ y. int_same (element s (array s frame whole) (int_in y))))
  layer (Value-F.Part whole index) none around =
      rw (index.1 none (PartAt (array s frame whole) ∷ around)) (then_same (plain_value s frame index.0) _ _ (λ y. part_same (part_at (array s frame whole) (int_in y))))
  layer (Value-F.Unary op operand) none around = rw (operand.1 none (Operand op ∷ around)) (then_same (plain_value s frame operand.0) _ _ (λ x. refl))
  layer (Value-F.Chain first rest) none around =
      rw (first.1 (omega (arith, none)) (First (links_of rest) ∷ around))
      (then_same (plain_value s frame first.0) _ _ (λ x. chain_same rest (omega (arith, none)) x around))
  layer (Value-F.Act action operands) none around = absurd (omega (arith, none))

  rolled_same : (y : Value-F Value_ Link_) → Same (roll-Value (form_of y))
  rolled_same y none around =
      goes_form s frame (form_of y) around ∙ layer y (sym (all_form (form_of y)) ∙ none) around ∙ ap from_plain (sym (plain_form (form_of y)))

  pub same_value : (x : Value) → Same x
  same_value =
      ind-Value Same (λ l. Same l.operand)
      (λ x y is. subst (λ z. Same (roll-Value z)) is (rolled_same y))
      (λ x y is. subst (λ (z : ValueLink-F Value ValueLink). Same z.operand) is y.operand.1)

  pub same_row : (xs : List Value) → all_acts xs ≡ 0 → (head : Head) (before : List Cell) (around : List Context) →
      row_goes s frame head before xs around ≡ from_row head around (plain_row s frame before xs)
  same_row [] none head before around = refl
  same_row (x ∷ xs) none head before around =
      operand_goes s frame head before x xs around
      ∙ ap (λ (r : Evaluated). then_goes r (λ v. gives s frame (Operands head before xs) v around)) (same_value x (omega (arith, none)) _)
      ∙ row_same head around (plain_value s frame x) _ (λ y. plain_row s frame (y ∷ before) xs) (λ y. same_row xs (omega (arith, none)) head (y ∷ before) around)

-- ---- statements

module _ (program : Resolved) (command : Command) (frame : FrameId) (ws : List Work) (s : Held) where
  abbrev settled : Evaluated → Next
  settled r = settles program command frame ws s r

  ends_same : (r : Result (List Cell) Trap) → settled (from_row Ending [] r) ≡ or_trap s r (λ all. finish program command all frame ws s)
  ends_same (Ok operands) = refl
  ends_same (Err trap) = refl

  acts_same : (action : Action) (around : List Context) (r : Result (List Cell) Trap) (f : Cell → Evaluated) →
      settled (then_goes (from_row (Acting action) around r) f) ≡ or_trap s r (λ cells. settled (Stops (Acting action) cells around))
  acts_same action around (Ok operands) f = refl
  acts_same action around (Err trap) f = refl

  all_plain : (xs : List Value) → all_acts xs ≡ 0 → settled (row_goes s.store frame Ending [] xs []) ≡ ends_plainly program command frame ws s [] xs
  all_plain xs none = ap settled (same_row s.store frame xs none Ending [] []) ∙ ends_same (plain_row s.store frame [] xs)

  -- the first is a call or an operation
  first_acts : (action : Action) (operands rest : List Value) → all_acts operands ≡ 0 →
      settled (row_goes s.store frame Ending [] (roll-Value (Value-F.Act action operands) ∷ rest) []) ≡ acts_plainly program command frame ws s action operands rest
  first_acts action operands rest none =
      ap settled (operand_goes s.store frame Ending [] (roll-Value (Value-F.Act action operands)) rest [])
      ∙ ap (λ (r : Evaluated). settled (then_goes r (λ v. gives s.store frame (Operands Ending [] rest) v [])))
      (goes_form s.store frame (Value-F.Act action operands) (Operands Ending [] rest ∷ []) ∙ same_row s.store frame operands none (Acting action) [] (Operands Ending [] rest ∷ []))
      ∙ acts_same action (Operands Ending [] rest ∷ []) (plain_row s.store frame [] operands) _

  abbrev FirstForm : Value-F Value ValueLink → List Value → Type 0
  FirstForm x rest =
      after_act (roll-Value x ∷ rest) ≡ 0 → settled (row_goes s.store frame Ending [] (roll-Value x ∷ rest) []) ≡ begins_plainly program command frame ws s x (roll-Value x) rest

  first_form : (x : Value-F Value ValueLink) (rest : List Value) → FirstForm x rest
  first_form (Value-F.Act action operands) rest none =
      let n = nested_form (Value-F.Act action operands) in first_acts action operands rest (omega (arith, n, none))
  first_form (Value-F.Number value) rest none =
      let x = Value-F.Number value in let n = nested_form x in let m = all_form x in all_plain (roll-Value x ∷ rest) (omega (arith, n, m, none))
  first_form (Value-F.Variable place) rest none =
      let x = Value-F.Variable place in let n = nested_form x in let m = all_form x in all_plain (roll-Value x ∷ rest) (omega (arith, n, m, none))
  first_form (Value-F.Reference whole) rest none =
      let x = Value-F.Reference whole in let n = nested_form x in let m = all_form x in all_plain (roll-Value x ∷ rest) (omega (arith, n, m, none))
  first_form (Value-F.Element whole index) rest none =
      let x = Value-F.Element whole index in let n = nested_form x in let m = all_form x in all_plain (roll-Value x ∷ rest) (omega (arith, n, m, none))
  first_form (Value-F.Part whole index) rest none =
      let x = Value-F.Part whole index in let n = nested_form x in let m = all_form x in all_plain (roll-Value x ∷ rest) (omega (arith, n, m, none))
  first_form (Value-F.Unary op operand) rest none =
      let x = Value-F.Unary op operand in let n = nested_form x in let m = all_form x in all_plain (roll-Value x ∷ rest) (omega (arith, n, m, none))
  first_form (Value-F.Chain first links) rest none =
      let x = Value-F.Chain first links in let n = nested_form x in let m = all_form x in all_plain (roll-Value x ∷ rest) (omega (arith, n, m, none))

  abbrev First_ : Value → Type 0
  First_ x = (rest : List Value) → after_act (x ∷ rest) ≡ 0 → settled (row_goes s.store frame Ending [] (x ∷ rest) []) ≡ begins_plainly program command frame ws s (out-Value x) x rest

  first_same : (x : Value) → First_ x
  first_same =
      ind-Value First_ (λ l. First_ l.operand)
      (λ x y is rest none. first_form x rest none ∙ ap (λ z. begins_plainly program command frame ws s z (roll-Value x) rest) (sym (out-roll-Value x)))
      (λ x y is. subst (λ (z : ValueLink-F Value ValueLink). First_ z.operand) is y.operand.1)

  row_does : (xs : List Value) → after_act xs ≡ 0 → settled (row_goes s.store frame Ending [] xs []) ≡ goes_plainly program command frame ws s xs
  row_does [] none = all_plain [] none
  row_does (x ∷ rest) none = first_same x rest none

-- ---- counts of a statement

abbrev counted_in : Command-F Command → ℕ
counted_in x = own_nested x + nested_within (map-Command Command ℕ command_nested x)

same_own : (x : Command-F Command) → command_step (map-Command Command ℕ command_nested x) ≡ counted_in x
same_own Command-F.Nothing = refl
same_own (Command-F.Set target value) = refl
same_own (Command-F.Clear slot len) = refl
same_own (Command-F.Run value) = refl
same_own (Command-F.Print text args) = refl
same_own (Command-F.If test body other) = refl
same_own (Command-F.While test body) = refl
same_own (Command-F.For test next body) = refl
same_own Command-F.Break = refl
same_own Command-F.Continue = refl
same_own (Command-F.Return value) = refl
same_own (Command-F.Do slot body) = refl
same_own (Command-F.Async slots body) = refl
same_own (Command-F.Cancel level slot) = refl
same_own Command-F.Yield = refl

-- a statement has its own nested calls, and those within it
pub nested_is : (c : Command) → command_nested c ≡ counted_in (out-Command c)
nested_is =
    ind-Command (λ c. command_nested c ≡ counted_in (out-Command c))
    (λ x y is. fold-roll-Command ℕ command_step x ∙ same_own x ∙ ap counted_in (sym (out-roll-Command x)))

pub nested_few : (x : Value) → (acts x).nested ≤ (acts x).all
nested_few =
    ind-Value (λ x. (acts x).nested ≤ (acts x).all) (λ l. (acts l.operand).nested ≤ (acts l.operand).all)
    (λ x y is. let n = nested_form x in let m = all_form x in let k = step_few x in omega (arith, n, m, k))
    (λ x y is. subst (λ (z : ValueLink-F Value ValueLink). (acts z.operand).nested ≤ (acts z.operand).all) is y.operand.1)
  where
    step_few : (x : Value-F Value ValueLink) →
        (alone.value_step (map-Value Value ValueLink Acts ℕ acts link_acts x)).nested ≤ (alone.value_step (map-Value Value ValueLink Acts ℕ acts link_acts x)).all
    step_few (Value-F.Number value) = omega arith
    step_few (Value-F.Variable place) = omega arith
    step_few (Value-F.Reference whole) = omega arith
    step_few (Value-F.Element whole index) = omega arith
    step_few (Value-F.Part whole index) = omega arith
    step_few (Value-F.Unary op operand) = omega arith
    step_few (Value-F.Chain first rest) = omega arith
    step_few (Value-F.Act action operands) = omega arith

after_few : (xs : List Value) → all_acts xs ≡ 0 → after_act xs ≡ 0
after_few [] none = refl
after_few (x ∷ xs) none = let h = nested_few x in omega (arith, h, none)

rest_few : (xs : List Value) → after_act xs ≡ 0 → all_acts (rest_of xs) ≡ 0
rest_few [] none = refl
rest_few (x ∷ xs) none = omega (arith, none)

-- in each form the first operand alone may be a call
own_after : (x : Command-F Command) → own_nested x ≡ 0 → after_act (operands_of x) ≡ 0
own_after Command-F.Nothing none = refl
own_after (Command-F.Set target value) none = none
own_after (Command-F.Clear slot len) none = refl
own_after (Command-F.Run value) none = none
own_after (Command-F.Print text args) none = after_few args none
own_after (Command-F.If test body other) none = after_few (test ∷ []) none
own_after (Command-F.While test body) none = after_few (test ∷ []) none
own_after (Command-F.For None next body) none = refl
own_after (Command-F.For (Some test) next body) none = after_few (test ∷ []) none
own_after Command-F.Break none = refl
own_after Command-F.Continue none = refl
own_after (Command-F.Return value) none = none
own_after (Command-F.Do slot body) none = refl
own_after (Command-F.Async slots body) none = refl
own_after (Command-F.Cancel level slot) none = refl
own_after Command-F.Yield none = refl

operands_after : (command : Command) → IsAlone command → after_act (operands_of (out-Command command)) ≡ 0
operands_after command h = let e = nested_is command in own_after (out-Command command) (omega (arith, e, h))

-- ---- the step

module _ (program : Resolved) (command : Command) (h : IsAlone command) (frame : FrameId) (ws : List Work) (s : Held) where
  pub does_plainly : does program command frame ws s ≡ plain_does program command frame ws s
  does_plainly = row_does program command frame ws s (operands_of (out-Command command)) (operands_after command h)

  pub goes_on_plainly : (value : Cell) → goes_on_with program value command (Operands Ending [] (waits_for command) ∷ []) frame ws s ≡ plain_goes_on program command frame ws s value
  goes_on_plainly value =
      ap (settles program command frame ws s) (
      then_itself (row_goes s.store frame Ending (value ∷ []) (waits_for command) [])
      ∙ same_row s.store frame (waits_for command) (rest_few (operands_of (out-Command command)) (operands_after command h)) Ending (value ∷ []) [])
      ∙ ends_same program command frame ws s (plain_row s.store frame (value ∷ []) (waits_for command))
