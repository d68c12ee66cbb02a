-- What an expression stops at, and what is round it then, has no more calls and operations than the expression and what was round it.
-- By induction on the expression, with any context round it; an operand is evaluated in a context that holds what is left of the whole.
use Rattle.std.proofs.Common.{◌≡◌, ℕ, zero, suc, ◌+◌, ◌≤◌, List, [], ◌∷◌, map, Result, Ok, Err, sym, subst, arith}
use Rattle.std.specs.Prelude.{ℤ, pos, negsuc}
use Rattle.std.specs.List.{AllByRecursion}
use Rattle.ac_base.specs.declared.ends.Trap.{Trap}
use Rattle.ac_tree.specs.declared.expr.BinaryOp.{BinaryOp}
use Rattle.ac_tree.specs.declared.expr.BinaryOp.TheVariants as b
use Rattle.work_item.specs.declared.ids.FrameId.{FrameId}
use Rattle.work_item.specs.declared.cell.Place as cells
use Rattle.work_item.specs.declared.cell.Cell.{Cell}
use Rattle.work_item.specs.declared.cell.Cell.TheVariants as cell
use Rattle.work_item.specs.Store.{Store, int_in}
use Rattle.core_state.specs.Arithmetic.{Computed, at_zero}
use Rattle.core_state.specs.Frames.{element, part_at}
use Rattle.ac_commands.specs.declared.value.Value.{Value, roll-Value, map-Value, ind-Value, fold-roll-Value}
use Rattle.ac_commands.specs.declared.value.Value.TheOpen.{Value-F, ValueLink-F}
use Rattle.ac_commands.specs.declared.value.ValueLink.{ValueLink, fold-ValueLink, fold-roll-ValueLink}
use Rattle.ac_semantics.specs.Evaluation.{array, Head, Acting, Ending, Context, ElementAt, PartAt, Operand, First, Right, Operands, Evaluated, Comes, Traps, Stops, comes_int}
use Rattle.ac_semantics.specs.Evaluation.{then_goes, then_int, then_part, unless_decided, operate, goes, chain_goes, row_goes, gives, resumes}
use Rattle.ac_semantics.proofs.Forms.{form_goes, goes_form, link_goes, operand_goes}
use Rattle.journal_bounds.specs.Actions.{total, value_step, link_step, actions_in, actions_of}

-- ---- what is counted

abbrev pub head_actions : Head → ℕ
head_actions (Acting action) = 1
head_actions Ending = 0

abbrev actions_in_link : ValueLink → ℕ
actions_in_link = fold-ValueLink ℕ ℕ value_step link_step

abbrev pub links_actions : List ValueLink → ℕ
links_actions links = total (map actions_in_link links)

-- what is still to come in a context
abbrev pub context_actions : Context → ℕ
context_actions (ElementAt place) = 0
context_actions (PartAt place) = 0
context_actions (Operand op) = 0
context_actions (First rest) = links_actions rest
context_actions (Right x op rest) = links_actions rest
context_actions (Operands head operands rest) = head_actions head + actions_of rest

abbrev pub around_actions : List Context → ℕ
around_actions [] = 0
around_actions (x ∷ around) = context_actions x + around_actions around

-- where it stops, no more than n are to come
abbrev pub Within : ℕ → Evaluated → Type 0
Within n (Comes x) = Unit {0}
Within n (Traps trap) = Unit {0}
Within n (Stops head operands around) = head_actions head + around_actions around ≤ n

pub within_more : (m n : ℕ) → m ≤ n → (o : Evaluated) → Within m o → Within n o
within_more m n le (Comes x) w = tt
within_more m n le (Traps trap) w = tt
within_more m n le (Stops head operands around) w = omega arith

then_within : (n : ℕ) (o : Evaluated) (f : Cell → Evaluated) → Within n o → ((v : Cell) → Within n (f v)) → Within n (then_goes o f)
then_within n (Comes x) f w k = k x
then_within n (Traps trap) f w k = tt
then_within n (Stops head operands around) f w k = w

int_within : (n : ℕ) (r : Computed) (f : ℤ → Evaluated) → ((v : ℤ) → Within n (f v)) → Within n (then_int r f)
int_within n (Ok x) f k = k x
int_within n (Err trap) f k = tt

part_within : (n : ℕ) (r : Result cells.Place Trap) → Within n (then_part r)
part_within n (Ok place) = tt
part_within n (Err trap) = tt

zero_within : (n : ℕ) (x : ℤ) (a c : Evaluated) → Within n a → Within n c → Within n (at_zero x a c)
zero_within n (pos zero) a c p q = p
zero_within n (pos (suc k)) a c p q = q
zero_within n (negsuc k) a c p q = q

unless_within : (n : ℕ) (op : BinaryOp) (x : ℤ) (decided : ℤ → Evaluated) (right : Evaluated) → ((v : ℤ) → Within n (decided v)) → Within n right → Within n (unless_decided op x decided right)
unless_within n b.Or x decided right k w = zero_within n x right (decided (pos 1)) w (k (pos 1))
unless_within n b.And x decided right k w = zero_within n x (decided (pos 0)) right (k (pos 0)) w
unless_within n op x decided right k w = w

module _ (s : Store) (frame : FrameId) where
  abbrev Holds : Value → Type 0
  Holds x = (around : List Context) → Within (actions_in x + around_actions around) (goes s frame x around)

  link_is : (l : ValueLink) → actions_in_link l ≡ actions_in l.operand
  link_is l = fold-roll-ValueLink ℕ ℕ value_step link_step (record { op = l.op; operand = l.operand })

  -- ---- chains and rows, of which each part holds

  chain_within : (links : List ValueLink) → AllByRecursion (λ l. Holds l.operand) links → (x : Cell) (around : List Context)
      → Within (links_actions links + around_actions around) (chain_goes s frame x links around)
  chain_within [] a x around = tt
  chain_within (l ∷ links) a x around =
      let n = links_actions (l ∷ links) + around_actions around in
      let e = link_is l in
      let rest : (v : ℤ) → Within n (chain_goes s frame (cell.Int v) links around) = λ v.
      within_more (links_actions links + around_actions around) n (omega arith) (chain_goes s frame (cell.Int v) links around) (chain_within links a.1 (cell.Int v) around) in
      let inner = Right (int_in x) l.op links ∷ around in
      subst (Within n) (sym (link_goes s frame x l links around))
      (unless_within n l.op (int_in x) (λ v. chain_goes s frame (cell.Int v) links around)
      (then_goes (goes s frame l.operand inner) (λ y. gives s frame (Right (int_in x) l.op links) y around)) rest
      (then_within n (goes s frame l.operand inner) (λ y. gives s frame (Right (int_in x) l.op links) y around)
      (within_more (actions_in l.operand + around_actions inner) n (omega arith) (goes s frame l.operand inner) (a.0 inner))
      (λ y. int_within n (operate l.op (int_in x) (int_in y)) (λ v. chain_goes s frame (cell.Int v) links around) rest)))

  row_within : (xs : List Value) → AllByRecursion Holds xs → (head : Head) (operands : List Cell) (around : List Context)
      → Within (head_actions head + (actions_of xs + around_actions around)) (row_goes s frame head operands xs around)
  row_within [] a head operands around = omega arith
  row_within (x ∷ xs) a head operands around =
      let n = head_actions head + (actions_of (x ∷ xs) + around_actions around) in
      let inner = Operands head operands xs ∷ around in
      subst (Within n) (sym (operand_goes s frame head operands x xs around))
      (then_within n (goes s frame x inner) (λ v. gives s frame (Operands head operands xs) v around)
      (within_more (actions_in x + around_actions inner) n (omega arith) (goes s frame x inner) (a.0 inner))
      (λ v. within_more (head_actions head + (actions_of xs + around_actions around)) n (omega arith) (row_goes s frame head (v ∷ operands) xs around)
      (row_within xs a.1 head (v ∷ operands) around)))

  -- ---- every expression

  abbrev Value_ : Type 0
  Value_ = (x : Value) × Holds x

  abbrev Link_ : Type 0
  Link_ = (l : ValueLink) × Holds l.operand

  values_hold : (xs : List Value_) → AllByRecursion Holds (map (λ (x : Value_). x.0) xs)
  values_hold [] = tt
  values_hold (x ∷ xs) = (x.1, values_hold xs)

  links_hold : (links : List Link_) → AllByRecursion (λ l. Holds l.operand) (map (λ (l : Link_). l.0) links)
  links_hold [] = tt
  links_hold (l ∷ links) = (l.1, links_hold links)

  abbrev form_of : Value-F Value_ Link_ → Value-F Value ValueLink
  form_of y = map-Value Value_ Link_ Value ValueLink (λ x. x.0) (λ l. l.0) y

  abbrev counts_of : Value-F Value ValueLink → Value-F ℕ ℕ
  counts_of x = map-Value Value ValueLink ℕ ℕ actions_in actions_in_link x

  -- One form of expression at a time, from the same of its operands: the first operand has the others round it, so nothing is counted twice.
  layer : (y : Value-F Value_ Link_) (around : List Context) → Within (value_step (counts_of (form_of y)) + around_actions around) (form_goes s frame (form_of y) around)
  layer (Value-F.Number value) around = tt
  layer (Value-F.Variable place) around = tt
  layer (Value-F.Reference whole) around = tt
  layer (Value-F.Element whole index) around =
      let n = actions_in index.0 + around_actions around in
      let inner = ElementAt (array s frame whole) ∷ around in
      then_within n (goes s frame index.0 inner) (λ y. gives s frame (ElementAt (array s frame whole)) y around)
      (within_more (actions_in index.0 + around_actions inner) n (omega arith) (goes s frame index.0 inner) (index.1 inner))
      (λ y. int_within n (element s (array s frame whole) (int_in y)) comes_int (λ v. tt))
  layer (Value-F.Part whole index) around =
      let n = actions_in index.0 + around_actions around in
      let inner = PartAt (array s frame whole) ∷ around in
      then_within n (goes s frame index.0 inner) (λ y. gives s frame (PartAt (array s frame whole)) y around)
      (within_more (actions_in index.0 + around_actions inner) n (omega arith) (goes s frame index.0 inner) (index.1 inner))
      (λ y. part_within n (part_at (array s frame whole) (int_in y)))
  layer (Value-F.Unary op operand) around =
      let n = actions_in operand.0 + around_actions around in
      let inner = Operand op ∷ around in
      then_within n (goes s frame operand.0 inner) (λ x. gives s frame (Operand op) x around)
      (within_more (actions_in operand.0 + around_actions inner) n (omega arith) (goes s frame operand.0 inner) (operand.1 inner)) (λ x. tt)
  layer (Value-F.Chain first rest) around =
      let links = map (λ (l : Link_). l.0) rest in
      let n = actions_in first.0 + links_actions links + around_actions around in
      let inner = First links ∷ around in
      then_within n (goes s frame first.0 inner) (λ x. gives s frame (First links) x around)
      (within_more (actions_in first.0 + around_actions inner) n (omega arith) (goes s frame first.0 inner) (first.1 inner))
      (λ x. within_more (links_actions links + around_actions around) n (omega arith) (chain_goes s frame x links around) (chain_within links (links_hold rest) x around))
  layer (Value-F.Act action operands) around =
      let xs = map (λ (x : Value_). x.0) operands in
      within_more (1 + (actions_of xs + around_actions around)) (1 + actions_of xs + around_actions around) (omega arith) (row_goes s frame (Acting action) [] xs around)
      (row_within xs (values_hold operands) (Acting action) [] around)

  pub goes_within : (x : Value) → Holds x
  goes_within =
      ind-Value Holds (λ l. Holds l.operand)
      (λ x y is around.
      subst (λ o. Within (actions_in (roll-Value x) + around_actions around) o) (sym (goes_form s frame x around))
      (subst (λ n. Within (n + around_actions around) (form_goes s frame x around)) (sym (fold-roll-Value ℕ ℕ value_step link_step x))
      (subst (λ z. Within (value_step (counts_of z) + around_actions around) (form_goes s frame z around)) is (layer y around))))
      (λ x y is. subst (λ (z : ValueLink-F Value ValueLink). Holds z.operand) is y.operand.1)

  all_values : (xs : List Value) → AllByRecursion Holds xs
  all_values [] = tt
  all_values (x ∷ xs) = (goes_within x, all_values xs)

  all_links : (links : List ValueLink) → AllByRecursion (λ l. Holds l.operand) links
  all_links [] = tt
  all_links (l ∷ links) = (goes_within l.operand, all_links links)

  pub operands_within : (head : Head) (operands : List Cell) (xs : List Value) (around : List Context)
      → Within (head_actions head + (actions_of xs + around_actions around)) (row_goes s frame head operands xs around)
  operands_within head operands xs around = row_within xs (all_values xs) head operands around

  -- ---- going on

  gives_within : (x : Context) (v : Cell) (around : List Context) → Within (context_actions x + around_actions around) (gives s frame x v around)
  gives_within (ElementAt place) v around = int_within _ (element s place (int_in v)) comes_int (λ k. tt)
  gives_within (PartAt place) v around = part_within _ (part_at place (int_in v))
  gives_within (Operand op) v around = tt
  gives_within (First rest) v around = chain_within rest (all_links rest) v around
  gives_within (Right x op rest) v around =
      int_within _ (operate op x (int_in v)) (λ k. chain_goes s frame (cell.Int k) rest around) (λ k. chain_within rest (all_links rest) (cell.Int k) around)
  gives_within (Operands head operands rest) v around =
      within_more (head_actions head + (actions_of rest + around_actions around)) (head_actions head + actions_of rest + around_actions around) (omega arith)
      (row_goes s frame head (v ∷ operands) rest around) (row_within rest (all_values rest) head (v ∷ operands) around)

  pub resumes_within : (around : List Context) (v : Cell) → Within (around_actions around) (resumes s frame around v)
  resumes_within [] v = tt
  resumes_within (x ∷ around) v =
      then_within (around_actions (x ∷ around)) (gives s frame x v around) (λ w. resumes s frame around w) (gives_within x v around)
      (λ w. within_more (around_actions around) (around_actions (x ∷ around)) (omega arith) (resumes s frame around w) (resumes_within around w))
