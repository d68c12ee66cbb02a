-- What holds of a shape whatever its operands are, also with a block more or less, holds of each shape to which an instruction leads.
-- One proof for all instructions, so that what is said of bodies, blocks or slots needs no case for each of them: a user gives the four
-- changes of `HoldsAround`.
use Rattle.std.proofs.Common.{◌≡◌, ℕ, ◌+◌, inl, inr, List, [], ◌∷◌, Option, Some, None, Bool, true, false, refl, subst}
use Rattle.std.specs.Prelude.{slice_get, length, replicate, nat_eq, nat_le, nat_lt, if◌then◌else◌}
use Rattle.stack_code.specs.declared.instr.Instr.{Instr}
use Rattle.stack_code.specs.declared.instr.Instr.TheVariants as i
use Rattle.stack_code.specs.declared.parts.Entered.{Entered}
use Rattle.stack_code.specs.declared.shape.CellKind.{CellKind}
use Rattle.stack_code.specs.declared.shape.CellKind.TheVariants as kind
use Rattle.stack_code.specs.declared.shape.Want.{Want}
use Rattle.stack_code.specs.declared.shape.Want.TheVariants as want
use Rattle.stack_code.specs.declared.shape.Body.{Body}
use Rattle.stack_code.specs.declared.shape.OpenBlock.{OpenBlock}
use Rattle.stack_code.specs.declared.shape.Shape.{Shape}
use Rattle.stack_code.specs.declared.shape.Leads.{Leads}
use Rattle.stack_code.specs.declared.shape.Leads.TheVariants.{Stop, One, Two}
use Rattle.stack_code.specs.Parts.{Parts}
use Rattle.stack_code.specs.Shapes.{on_some, body_with, loaded, is_array, arguments, is_entered, entered, can_start, can_end, can_return, directives_in, channels_of, width_of}
use Rattle.stack_code.specs.Shapes.{taken, with_operands, pushed, after, first, inner, is_block, finished, finished_in, goes, pushes, one_int, two_ints, branches, calls, transfers, effect, LeadsTo}

-- with other operands, with one block more, without the innermost block, and at the first address of a function
pub record HoldsAround (code : Parts) (s : Shape) (Holds : Shape → Type 0) : Type 0 where
  pub kept : (kinds : List CellKind) → Holds (with_operands s kinds)
  pub more : (slot : ℕ) (body : Body) → body_with s 0 slot 1 ≡ Some body → Holds (entered slot s)
  pub less : (block : OpenBlock) (blocks : List OpenBlock) → s.blocks ≡ block ∷ blocks → Holds (record s { blocks = blocks })
  pub begun : (number : ℕ) (function : Entered) → slice_get code.functions number ≡ Some function → Holds (first number function)

abbrev pub Leading : (Shape → Type 0) → Leads → Type 0
Leading Holds l = (to : ℕ) (t : Shape) → LeadsTo l to t → Holds t

module _ (code : Parts) (at : ℕ) (s : Shape) (Holds : Shape → Type 0) (around : HoldsAround code s Holds) (l : Leads) where
  abbrev L : Leads → Type 0
  L k = Leading Holds k

  by_some : {A : Type 0} (o : Option A) (go : A → Option Leads) → ((x : A) → o ≡ Some x → go x ≡ Some l → L l) → on_some o go ≡ Some l → L l
  by_some None go h e = let no : None ≡ Some l = e in cc
  by_some (Some x) go h e = h x refl e

  by_if : (b : Bool) (o : Option Leads) → (o ≡ Some l → L l) → (if b then o else None) ≡ Some l → L l
  by_if true o h e = h e
  by_if false o h e = let no : None ≡ Some l = e in cc

  by_if_not : (b : Bool) (o : Option Leads) → (o ≡ Some l → L l) → (if b then None else o) ≡ Some l → L l
  by_if_not true o h e = let no : None ≡ Some l = e in cc
  by_if_not false o h e = h e

  by_one : (to : ℕ) (t : Shape) → Holds t → Some (One to t) ≡ Some l → L l
  by_one to t e h = let k : One to t ≡ l = cc in subst L k (λ x u p. subst Holds p.1 e)

  by_two : (a b : ℕ) (t u : Shape) → Holds t → Holds u → Some (Two a t b u) ≡ Some l → L l
  by_two a b t u p q h = let k : Two a t b u ≡ l = cc in
      subst L k (λ x v m. elim m [ inl e ↦ subst Holds e.1 p | inr e ↦ subst Holds e.1 q ])

  by_stop : (b : Bool) → (if b then Some Stop else None) ≡ Some l → L l
  by_stop true e = let k : Stop ≡ l = cc in subst L k (λ to t no. absurd no)
  by_stop false e = let no : None ≡ Some l = e in cc

  by_goes : goes at s ≡ Some l → L l
  by_goes e = by_one (at + 1) s (around.kept s.operands) e

  by_pushes : (k : CellKind) → pushes at k s ≡ Some l → L l
  by_pushes k e = by_one (at + 1) (with_operands s (k ∷ s.operands)) (around.kept (k ∷ s.operands)) e

  -- the wanted operands are taken
  by_after : (wants : List Want) (go : Shape → Option Leads) → ((kinds : List CellKind) → go (with_operands s kinds) ≡ Some l → L l) → after wants s go ≡ Some l → L l
  by_after wants go h e = by_some (taken wants s.operands) (λ kinds. go (with_operands s kinds)) (λ kinds r f. h kinds f) e

  by_take : (wants : List Want) → after wants s (goes at) ≡ Some l → L l
  by_take wants e = by_after wants (goes at) (λ kinds f. by_one (at + 1) (with_operands s kinds) (around.kept kinds) f) e

  by_make : (wants : List Want) (k : CellKind) → after wants s (pushes at k) ≡ Some l → L l
  by_make wants k e = by_after wants (pushes at k) (λ kinds f. by_one (at + 1) (with_operands s (k ∷ kinds)) (around.kept (k ∷ kinds)) f) e

  by_one_int : one_int at s ≡ Some l → L l
  by_one_int e = by_make (want.Int ∷ []) kind.Int e

  by_two_ints : two_ints at s ≡ Some l → L l
  by_two_ints e = by_make (want.Int ∷ want.Int ∷ []) kind.Int e

  by_transfers : (file : ℕ) → transfers at file s ≡ Some l → L l
  by_transfers file e = by_if (nat_lt file 16) _ (by_make (want.Reference ∷ want.Int ∷ want.Int ∷ []) kind.Int) e

  by_branches : (to : ℕ) → branches at to s ≡ Some l → L l
  by_branches to e = by_after (want.Int ∷ []) (λ t. Some (Two (at + 1) t to t))
      (λ kinds f. by_two (at + 1) to (with_operands s kinds) (with_operands s kinds) (around.kept kinds) (around.kept kinds) f) e

  by_call : (number count : ℕ) (function : Entered) → slice_get code.functions number ≡ Some function → calls at number count s function ≡ Some l → L l
  by_call number count function is e = by_if (nat_eq count (length function.params)) _
      (λ g. by_after (arguments function.params) (λ t. Some (Two (at + 1) (pushed kind.Int t) function.at (first number function))) (λ kinds f.
      by_two (at + 1) function.at (with_operands s (kind.Int ∷ kinds)) (first number function) (around.kept (kind.Int ∷ kinds)) (around.begun number function is) f) g) e

  by_enter : (slot : ℕ) → effect code at (i.Enter slot) s ≡ Some l → L l
  by_enter slot e = by_some (body_with s 0 slot 1) _ (λ body r. by_if_not (is_entered s 0 slot) _ (by_one (at + 1) (entered slot s) (around.more slot body r))) e

  by_finished : (slot : ℕ) (t : Shape) → finished slot s ≡ Some t → Holds t
  by_finished slot t e = by s.blocks refl e
    where
      by_test : (b : Bool) (block : OpenBlock) (blocks : List OpenBlock) → s.blocks ≡ block ∷ blocks → (if b then Some (record s { blocks = blocks }) else None) ≡ Some t → Holds t
      by_test true block blocks is e = let k : record s { blocks = blocks } ≡ t = cc in subst Holds k (around.less block blocks is)
      by_test false block blocks is e = let no : None ≡ Some t = e in cc

      by : (blocks : List OpenBlock) → s.blocks ≡ blocks → finished_in slot s blocks ≡ Some t → Holds t
      by [] is e = let no : None ≡ Some t = e in cc
      by (block ∷ blocks) is e = by_test (is_block (length s.bodies) slot block) block blocks is e

  by_finish : (slot : ℕ) → on_some (finished slot s) (goes at) ≡ Some l → L l
  by_finish slot e = by_some (finished slot s) (goes at) (λ t f g. by_one (at + 1) t (by_finished slot t f) g) e

  by_async : (slots to : ℕ) → Holds (inner at slots s) → effect code at (i.Async slots to) s ≡ Some l → L l
  by_async slots to deeper e = by_if (can_start s) _ (λ f. by_two (at + 1) to (inner at slots s) s deeper (around.kept s.operands) f) e

  -- where it holds of the inner body too, if the instruction is an `Async`
  -- By cases on the instruction; each is one of the ways above to take operands, to push, to jump or to go on, whose condition is then read
  -- off `effect`.
  pub leading : (instr : Instr) → ((slots to : ℕ) → instr ≡ i.Async slots to → Holds (inner at slots s)) → effect code at instr s ≡ Some l → L l
  leading i.Step deeper = by_goes
  leading (i.Push v) deeper = by_pushes kind.Int
  leading (i.Load level slot) deeper = by_some (body_with s level slot 1) _ (λ body r. by_pushes (loaded (is_array code body.home slot)))
  leading (i.LoadG slot) deeper = by_if (nat_lt slot code.globals) _ (by_pushes kind.Int)
  leading (i.Store level slot) deeper = by_some (body_with s level slot 1) _ (λ body r. by_take (want.Int ∷ []))
  leading (i.StoreG slot) deeper = by_if (nat_lt slot code.globals) _ (by_take (want.Int ∷ []))
  leading (i.Arr level slot len) deeper = by_some (body_with s level slot len) _ (λ body r. by_pushes (kind.Reference (Some len)))
  leading (i.ArrG slot len) deeper = by_if (nat_le (slot + len) code.globals) _ (by_pushes (kind.Reference (Some len)))
  leading i.Elem deeper = by_make (want.Int ∷ want.Reference ∷ []) kind.Int
  leading i.SetElem deeper = by_take (want.Int ∷ want.Reference ∷ want.Int ∷ [])
  leading i.Place deeper = by_make (want.Int ∷ want.Reference ∷ []) (kind.Reference (Some 1))
  leading (i.Clear slot len) deeper = by_some (body_with s 0 slot len) _ (λ body r. by_goes)
  leading i.Neg deeper = by_one_int
  leading i.Not deeper = by_one_int
  leading i.Flip deeper = by_one_int
  leading i.Bool deeper = by_one_int
  leading i.BitOr deeper = by_two_ints
  leading i.BitXor deeper = by_two_ints
  leading i.BitAnd deeper = by_two_ints
  leading i.Eq deeper = by_two_ints
  leading i.Ne deeper = by_two_ints
  leading i.Less deeper = by_two_ints
  leading i.LessEq deeper = by_two_ints
  leading i.More deeper = by_two_ints
  leading i.MoreEq deeper = by_two_ints
  leading i.Shl deeper = by_two_ints
  leading i.Shr deeper = by_two_ints
  leading i.Add deeper = by_two_ints
  leading i.Sub deeper = by_two_ints
  leading i.Mul deeper = by_two_ints
  leading i.Div deeper = by_two_ints
  leading i.Rem deeper = by_two_ints
  leading i.Drop deeper = by_take (want.Any ∷ [])
  leading (i.Jump to) deeper = by_one to s (around.kept s.operands)
  leading (i.Jz to) deeper = by_branches to
  leading (i.Jnz to) deeper = by_branches to
  leading (i.Print text count) deeper = by_some (slice_get code.texts text) _
      (λ bytes r. by_if (nat_eq count (directives_in bytes)) _ (by_take (replicate count want.Int)))
  leading (i.Call number count) deeper = by_some (slice_get code.functions number) (calls at number count s) (λ function is. by_call number count function is)
  leading i.Ret deeper = by_stop (can_return s)
  leading (i.Enter slot) deeper = by_enter slot
  leading (i.Finish slot) deeper = by_finish slot
  leading (i.Async slots to) deeper = by_async slots to (deeper slots to refl)
  leading i.End deeper = by_stop (can_end s)
  leading (i.Cancel level slot) deeper = by_some (slice_get s.bodies level) _ (λ body r. by_if (is_entered s level slot) _ by_goes)
  leading i.Yield deeper = by_goes
  leading (i.Send channel) deeper = by_if (nat_lt channel (channels_of code)) _ (by_make (want.Message (width_of code channel) ∷ []) kind.Int)
  leading (i.Recv channel) deeper = by_if (nat_lt channel (channels_of code)) _ (by_make (want.Elements (width_of code channel) ∷ []) kind.Int)
  leading (i.Read file) deeper = by_transfers file
  leading (i.Write file) deeper = by_transfers file
