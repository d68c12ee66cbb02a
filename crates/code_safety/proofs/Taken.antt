-- Operands of the kinds that an instruction asks for.
-- Where `effect` finds something the wanted kinds lie on top; then the operands that have these kinds are as wanted, and those below have
-- the kinds that are left.
use Rattle.std.specs.Prelude.{nat_eq}
use Rattle.std.proofs.lemmas.Bool.{eqb-true}
use Rattle.std.proofs.Common.{◌≡◌, ◌≤◌, List, [], ◌∷◌, length, drop, Option, Some, None, Bool, true, false, refl, ap, subst, arith, ℕ}
use Rattle.std.specs.Prelude.{if◌then◌else◌}
use Rattle.work_item.specs.declared.cell.Cell.{Cell}
use Rattle.work_item.specs.declared.cell.Cell.TheVariants as cell
use Rattle.stack_code.specs.declared.shape.CellKind.{CellKind}
use Rattle.stack_code.specs.declared.shape.CellKind.TheVariants as kind
use Rattle.stack_code.specs.declared.shape.Shape.{Shape}
use Rattle.stack_code.specs.declared.shape.Want.{Want}
use Rattle.stack_code.specs.declared.shape.Want.TheVariants as want
use Rattle.stack_code.specs.declared.shape.Leads.{Leads}
use Rattle.stack_code.specs.Parts.{Parts}
use Rattle.stack_code.specs.Shapes.{on_some, takes, taken, with_operands, after, is_known}
use Rattle.code_safety.specs.Fit.{Birth, is_int, HasKind, HaveKinds}

-- ---- what is there where something was found

pub on_some_is : {A B : Type 0} (o : Option A) (go : A → Option B) (y : B) → on_some o go ≡ Some y → (x : A) × ((o ≡ Some x) × (go x ≡ Some y))
on_some_is None go y e = let no : None ≡ Some y = e in cc
on_some_is (Some x) go y e = (x, (refl, e))

pub if_is : {A : Type 0} (b : Bool) (o : Option A) (y : A) → (if b then o else None) ≡ Some y → (b ≡ true) × (o ≡ Some y)
if_is true o y e = (refl, e)
if_is false o y e = let no : None ≡ Some y = e in cc

pub if_not_is : {A : Type 0} (b : Bool) (o : Option A) (y : A) → (if b then None else o) ≡ Some y → (b ≡ false) × (o ≡ Some y)
if_not_is true o y e = let no : None ≡ Some y = e in cc
if_not_is false o y e = (refl, e)

pub after_is : (wants : List Want) (s : Shape) (go : Shape → Option Leads) (leads : Leads) → after wants s go ≡ Some leads
    → (kinds : List CellKind) × ((taken wants s.operands ≡ Some kinds) × (go (with_operands s kinds) ≡ Some leads))
after_is wants s go leads e = on_some_is (taken wants s.operands) (λ kinds. go (with_operands s kinds)) leads e

-- and what it leads to, with the operands that are left
pub after_leads : (wants : List Want) (s : Shape) (kinds : List CellKind) (go : Shape → Option Leads) → taken wants s.operands ≡ Some kinds → after wants s go ≡ go (with_operands s kinds)
after_leads wants s kinds go e = ap (λ o. on_some o (λ kinds. go (with_operands s kinds))) e

-- ---- operands

module _ (code : Parts) (births : List Birth) where
  -- an int, or a reference to as many elements
  abbrev pub IsMessage : ℕ → Cell → Type 0
  IsMessage count (cell.Int value) = count ≡ 1
  IsMessage count x = HasKind code births (kind.Reference (Some count)) x

  abbrev pub IsWanted : Want → Cell → Type 0
  IsWanted want.Int x = is_int x ≡ true
  IsWanted want.Reference x = HasKind code births (kind.Reference None) x
  IsWanted (want.Elements count) x = HasKind code births (kind.Reference (Some count)) x
  IsWanted (want.Message count) x = IsMessage count x
  IsWanted want.Any x = Unit {0}

  reference_is : (len : Option ℕ) (x : Cell) → HasKind code births (kind.Reference len) x → HasKind code births (kind.Reference None) x
  reference_is len (cell.Int v) h = absurd h
  reference_is len (cell.Array place) h = record { short = h.short; ints = h.ints; exact = λ n e. let no : None ≡ Some n = e in absurd (cc) }
  reference_is len (cell.Block b) h = absurd h

  elements_are : (count : ℕ) (len : Option ℕ) (x : Cell) → is_known count len ≡ true → HasKind code births (kind.Reference len) x → HasKind code births (kind.Reference (Some count)) x
  elements_are count None x t h = let no : false ≡ true = t in cc
  elements_are count (Some n) x t h = subst (λ k. HasKind code births (kind.Reference (Some k)) x) (eqb-true n count t) h

  message_is : (count : ℕ) (x : Cell) → HasKind code births (kind.Reference (Some count)) x → IsMessage count x
  message_is count (cell.Int v) h = absurd h
  message_is count (cell.Array place) h = h
  message_is count (cell.Block b) h = absurd h

  int_message : (count : ℕ) (x : Cell) → nat_eq count 1 ≡ true → HasKind code births kind.Int x → IsMessage count x
  int_message count (cell.Int v) t h = eqb-true count 1 t
  int_message count (cell.Array place) t h = absurd h
  int_message count (cell.Block b) t h = absurd h

  int_is : (x : Cell) → HasKind code births kind.Int x → is_int x ≡ true
  int_is (cell.Int v) h = refl
  int_is (cell.Array place) h = absurd h
  int_is (cell.Block b) h = absurd h

  wanted_is : (w : Want) (k : CellKind) (x : Cell) → takes w k ≡ true → HasKind code births k x → IsWanted w x
  wanted_is want.Int kind.Int x t h = int_is x h
  wanted_is want.Int (kind.Reference len) x t h = let no : false ≡ true = t in cc
  wanted_is want.Reference kind.Int x t h = let no : false ≡ true = t in cc
  wanted_is want.Reference (kind.Reference len) x t h = reference_is len x h
  wanted_is (want.Elements count) kind.Int x t h = let no : false ≡ true = t in cc
  wanted_is (want.Elements count) (kind.Reference len) x t h = elements_are count len x t h
  wanted_is (want.Message count) kind.Int x t h = int_message count x t h
  wanted_is (want.Message count) (kind.Reference len) x t h = message_is count x (elements_are count len x t h)
  wanted_is want.Any k x t h = tt

  -- the topmost operand is as wanted, and those below it have the kinds that are left
  pub record Top (w : Want) (wants : List Want) (left : List CellKind) (operands : List Cell) : Type 0 where
    pub top : Cell
    pub below : List Cell
    pub is : operands ≡ top ∷ below
    pub wanted : IsWanted w top
    pub kinds : List CellKind
    pub taken : taken wants kinds ≡ Some left
    pub have : HaveKinds code births kinds below

  pub top_of : (w : Want) (wants : List Want) (kinds left : List CellKind) (operands : List Cell) → taken (w ∷ wants) kinds ≡ Some left → HaveKinds code births kinds operands
      → Top w wants left operands
  top_of w wants [] left operands t h = let no : None ≡ Some left = t in cc
  top_of w wants (k ∷ kinds) left [] t h = absurd h
  top_of w wants (k ∷ kinds) left (x ∷ below) t h =
      let b = if_is (takes w k) (taken wants kinds) left t in
      record { top = x; below = below; is = refl; wanted = wanted_is w k x b.0 h.0; kinds = kinds; taken = b.1; have = h.1 }

  pub none_wanted : (kinds left : List CellKind) (operands : List Cell) → taken [] kinds ≡ Some left → HaveKinds code births kinds operands → HaveKinds code births left operands
  none_wanted kinds left operands t h = let e : kinds ≡ left = cc in subst (λ ks. HaveKinds code births ks operands) e h

  -- so many operands from the top are as wanted
  abbrev pub AreWanted : List Want → List Cell → Type 0
  AreWanted [] operands = Unit {0}
  AreWanted (w ∷ wants) [] = ⊥
  AreWanted (w ∷ wants) (x ∷ operands) = IsWanted w x × AreWanted wants operands

  pub record Many (wants : List Want) (left : List CellKind) (operands : List Cell) : Type 0 where
    pub enough : length wants ≤ length operands
    pub wanted : AreWanted wants operands
    pub rest : HaveKinds code births left (drop (length wants) operands)

  pub many_of : (wants : List Want) (kinds left : List CellKind) (operands : List Cell) → taken wants kinds ≡ Some left → HaveKinds code births kinds operands → Many wants left operands
  many_of [] kinds left operands t h = record { enough = omega arith; wanted = tt; rest = none_wanted kinds left operands t h }
  many_of (w ∷ wants) [] left operands t h = let no : None ≡ Some left = t in cc
  many_of (w ∷ wants) (k ∷ kinds) left [] t h = absurd h
  many_of (w ∷ wants) (k ∷ kinds) left (x ∷ below) t h =
      let b = if_is (takes w k) (taken wants kinds) left t in
      let r = many_of wants kinds left below b.1 h.1 in
      record { enough = omega (arith, r.enough); wanted = (wanted_is w k x b.0 h.0, r.wanted); rest = r.rest }

pub int_kind : (code : Parts) (births : List Birth) (x : Cell) → is_int x ≡ true → HasKind code births kind.Int x
int_kind code births (cell.Int v) e = tt
int_kind code births (cell.Array place) e = let no : false ≡ true = e in cc
int_kind code births (cell.Block b) e = let no : false ≡ true = e in cc
