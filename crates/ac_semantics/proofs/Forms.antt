-- What an expression comes to, by its form: a fold does not compute, and beside its meaning it gives the expression itself.
-- The fold gives for each part both the part and its meaning; that the part which it gives is the part itself (`told_is`, by induction on
-- the expression) turns the fold's step into one equation for each form.
use Rattle.std.proofs.Common.{◌≡◌, refl, sym, ap, ◌∙◌, subst, List, [], ◌∷◌, map}
use Rattle.std.specs.Prelude.{ℤ}
use Rattle.work_item.specs.declared.ids.FrameId.{FrameId}
use Rattle.work_item.specs.declared.cell.Cell.{Cell}
use Rattle.work_item.specs.declared.cell.Cell.TheVariants as cell
use Rattle.work_item.specs.Store.{Store, int_in}
use Rattle.ac_commands.specs.declared.value.Place.{Place}
use Rattle.ac_commands.specs.declared.value.Array.{Array}
use Rattle.ac_commands.specs.declared.value.Action.{Action}
use Rattle.ac_commands.specs.declared.value.Value.{Value, roll-Value, map-Value, ind-Value, fold-roll-Value}
use Rattle.ac_commands.specs.declared.value.Value.TheVariants as v
use Rattle.ac_commands.specs.declared.value.Value.TheOpen.{Value-F, ValueLink-F}
use Rattle.ac_commands.specs.declared.value.ValueLink.{ValueLink, fold-roll-ValueLink}
use Rattle.ac_semantics.specs.Evaluation.{variable, reference, array, Head, Acting, Context, ElementAt, PartAt, Operand, First, Right, Operands, Evaluated, Comes, Traps, Stops, comes_int}
use Rattle.ac_semantics.specs.Evaluation.{then_goes, Told, LinkTold, Goes, link_in, unless_decided, chained, told_step, link_step, told, link_told, goes, chain_goes, row_goes, gives}

-- ---- outcomes

pub then_then : (o : Evaluated) (f g : Cell → Evaluated) → then_goes (then_goes o f) g ≡ then_goes o (λ x. then_goes (f x) g)
then_then (Comes x) f g = refl
then_then (Traps trap) f g = refl
then_then (Stops head operands around) f g = refl

pub then_itself : (o : Evaluated) → then_goes o Comes ≡ o
then_itself (Comes x) = refl
then_itself (Traps trap) = refl
then_itself (Stops head operands around) = refl

-- ---- forms

same_cons : {A : Type 0} {x y : A} {xs ys : List A} → x ≡ y → xs ≡ ys → x ∷ xs ≡ y ∷ ys
same_cons e f = cc

module _ (s : Store) (frame : FrameId) where
  told_form : (x : Value-F Value ValueLink) → told s frame (roll-Value x) ≡ told_step s frame (map-Value Value ValueLink Told LinkTold (told s frame) (link_told s frame) x)
  told_form = fold-roll-Value Told LinkTold (told_step s frame) link_step

  link_form : (l : ValueLink) → link_told s frame l ≡ (l.op, told s frame l.operand)
  link_form l = fold-roll-ValueLink Told LinkTold (told_step s frame) link_step (record { op = l.op; operand = l.operand })

  -- ---- the expression itself

  abbrev Same : Value → Type 0
  Same x = (told s frame x).0 ≡ x

  abbrev Value_ : Type 0
  Value_ = (x : Value) × Same x

  abbrev Link_ : Type 0
  Link_ = (l : ValueLink) × Same l.operand

  link_same : (l : ValueLink) → Same l.operand → link_in (link_told s frame l) ≡ l
  link_same l e = ap link_in (link_form l) ∙ ap (λ (x : Value). record { op = l.op; operand = x }) e

  values_same : (xs : List Value_) → map (λ (t : Told). t.0) (map (told s frame) (map (λ (x : Value_). x.0) xs)) ≡ map (λ (x : Value_). x.0) xs
  values_same [] = refl
  values_same (x ∷ xs) = same_cons x.1 (values_same xs)

  links_same : (ls : List Link_) → map link_in (map (link_told s frame) (map (λ (l : Link_). l.0) ls)) ≡ map (λ (l : Link_). l.0) ls
  links_same [] = refl
  links_same (l ∷ ls) = same_cons (link_same l.0 l.1) (links_same ls)

  abbrev again : Value-F Value ValueLink → Value-F Value ValueLink
  again x = map-Value Told LinkTold Value ValueLink (λ t. t.0) link_in (map-Value Value ValueLink Told LinkTold (told s frame) (link_told s frame) x)

  layer : (y : Value-F Value_ Link_) → again (map-Value Value_ Link_ Value ValueLink (λ x. x.0) (λ l. l.0) y) ≡ map-Value Value_ Link_ Value ValueLink (λ x. x.0) (λ l. l.0) y
  layer (Value-F.Number value) = refl
  layer (Value-F.Variable place) = refl
  layer (Value-F.Reference whole) = refl
  layer (Value-F.Element whole index) = ap (λ x. Value-F.Element whole x) index.1
  layer (Value-F.Part whole index) = ap (λ x. Value-F.Part whole x) index.1
  layer (Value-F.Unary op operand) = ap (λ x. Value-F.Unary op x) operand.1
  layer (Value-F.Chain first rest) = chain_same first.1 (links_same rest)
    where
      chain_same : {x y : Value} {ls ms : List ValueLink} → x ≡ y → ls ≡ ms → Value-F.Chain x ls ≡ Value-F.Chain y ms
      chain_same e f = cc
  layer (Value-F.Act action operands) = ap (λ xs. Value-F.Act action xs) (values_same operands)

  pub told_is : (x : Value) → Same x
  told_is =
      ind-Value Same (λ l. Same l.operand)
      (λ x y is. ap (λ (t : Told). t.0) (told_form x) ∙ ap roll-Value (subst (λ z. again z ≡ z) is (layer y)))
      (λ x y is. subst (λ (z : ValueLink-F Value ValueLink). Same z.operand) is y.operand.1)

  links_are : (ls : List ValueLink) → map link_in (map (link_told s frame) ls) ≡ ls
  links_are [] = refl
  links_are (l ∷ ls) = same_cons (link_same l (told_is l.operand)) (links_are ls)

  values_are : (xs : List Value) → map (λ (t : Told). t.0) (map (told s frame) xs) ≡ xs
  values_are [] = refl
  values_are (x ∷ xs) = same_cons (told_is x) (values_are xs)

  -- ---- what it comes to

  -- an expression by its form, of which each part is within what is round that part
  abbrev pub form_goes : Value-F Value ValueLink → Goes
  form_goes (Value-F.Number value) around = comes_int value
  form_goes (Value-F.Variable place) around = Comes (variable s frame place)
  form_goes (Value-F.Reference whole) around = Comes (reference s frame whole)
  form_goes (Value-F.Element whole index) around =
      then_goes (goes s frame index (ElementAt (array s frame whole) ∷ around)) (λ y. gives s frame (ElementAt (array s frame whole)) y around)
  form_goes (Value-F.Part whole index) around =
      then_goes (goes s frame index (PartAt (array s frame whole) ∷ around)) (λ y. gives s frame (PartAt (array s frame whole)) y around)
  form_goes (Value-F.Unary op operand) around = then_goes (goes s frame operand (Operand op ∷ around)) (λ x. gives s frame (Operand op) x around)
  form_goes (Value-F.Chain first rest) around = then_goes (goes s frame first (First rest ∷ around)) (λ x. gives s frame (First rest) x around)
  form_goes (Value-F.Act action operands) around = row_goes s frame (Acting action) [] operands around

  step_goes : (x : Value-F Value ValueLink) (around : List Context) → (told_step s frame (map-Value Value ValueLink Told LinkTold (told s frame) (link_told s frame) x)).1 around ≡ form_goes x around
  step_goes (Value-F.Number value) around = refl
  step_goes (Value-F.Variable place) around = refl
  step_goes (Value-F.Reference whole) around = refl
  step_goes (Value-F.Element whole index) around = refl
  step_goes (Value-F.Part whole index) around = refl
  step_goes (Value-F.Unary op operand) around = refl
  step_goes (Value-F.Chain first rest) around =
      ap (λ ls. then_goes (goes s frame first (First ls ∷ around)) (λ x. chain_goes s frame x rest around)) (links_are rest)
  step_goes (Value-F.Act action operands) around = refl

  pub goes_form : (x : Value-F Value ValueLink) (around : List Context) → goes s frame (roll-Value x) around ≡ form_goes x around
  goes_form x around = ap (λ (t : Told). t.1 around) (told_form x) ∙ step_goes x around

  pub number_goes : (n : ℤ) (around : List Context) → goes s frame (v.Number n) around ≡ comes_int n
  number_goes n around = ap (λ x. goes s frame x around) (sym (v.rolls-Number n)) ∙ goes_form (Value-F.Number n) around

  pub variable_goes : (place : Place) (around : List Context) → goes s frame (v.Variable place) around ≡ Comes (variable s frame place)
  variable_goes place around = ap (λ x. goes s frame x around) (sym (v.rolls-Variable place)) ∙ goes_form (Value-F.Variable place) around

  pub element_goes : (whole : Array) (index : Value) (around : List Context) →
      goes s frame (v.Element whole index) around ≡ then_goes (goes s frame index (ElementAt (array s frame whole) ∷ around)) (λ y. gives s frame (ElementAt (array s frame whole)) y around)
  element_goes whole index around = ap (λ x. goes s frame x around) (sym (v.rolls-Element whole index)) ∙ goes_form (Value-F.Element whole index) around

  pub reference_goes : (whole : Array) (around : List Context) → goes s frame (v.Reference whole) around ≡ Comes (reference s frame whole)
  reference_goes whole around = ap (λ x. goes s frame x around) (sym (v.rolls-Reference whole)) ∙ goes_form (Value-F.Reference whole) around

  pub chain_of : (first : Value) (rest : List ValueLink) (around : List Context) →
      goes s frame (v.Chain first rest) around ≡ then_goes (goes s frame first (First rest ∷ around)) (λ x. chain_goes s frame x rest around)
  chain_of first rest around = ap (λ x. goes s frame x around) (sym (v.rolls-Chain first rest)) ∙ goes_form (Value-F.Chain first rest) around

  pub act_goes : (action : Action) (operands : List Value) (around : List Context) → goes s frame (v.Act action operands) around ≡ row_goes s frame (Acting action) [] operands around
  act_goes action operands around = ap (λ x. goes s frame x around) (sym (v.rolls-Act action operands)) ∙ goes_form (Value-F.Act action operands) around

  -- ---- chains and rows

  pub link_goes : (x : Cell) (l : ValueLink) (links : List ValueLink) (around : List Context) →
      chain_goes s frame x (l ∷ links) around
      ≡ unless_decided l.op (int_in x) (λ v. chain_goes s frame (cell.Int v) links around)
      (then_goes (goes s frame l.operand (Right (int_in x) l.op links ∷ around)) (λ y. gives s frame (Right (int_in x) l.op links) y around))
  link_goes x l links around =
      ap (λ (t : LinkTold). chained x (t ∷ map (link_told s frame) links) around) (link_form l)
      ∙ ap (λ ls. unless_decided l.op (int_in x) (λ v. chain_goes s frame (cell.Int v) links around)
      (then_goes (goes s frame l.operand (Right (int_in x) l.op ls ∷ around)) (λ y. gives s frame (Right (int_in x) l.op links) y around))) (links_are links)

  pub operand_goes : (head : Head) (operands : List Cell) (x : Value) (xs : List Value) (around : List Context) →
      row_goes s frame head operands (x ∷ xs) around
      ≡ then_goes (goes s frame x (Operands head operands xs ∷ around)) (λ v. gives s frame (Operands head operands xs) v around)
  operand_goes head operands x xs around =
      ap (λ ys. then_goes (goes s frame x (Operands head operands ys ∷ around)) (λ v. row_goes s frame head (v ∷ operands) xs around)) (values_are xs)
