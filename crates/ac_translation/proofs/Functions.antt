-- Each function of a program stands in its code.
-- By induction over the functions: each begins where the one before it ended. So numbers mean the same function in both, or none.
use Rattle.std.proofs.Common.{◌≡◌, ℕ, zero, suc, ◌+◌, List, [], ◌∷◌, Option, Some, None, refl, subst}
use Rattle.std.specs.Prelude.{slice_get}
use Rattle.ac_commands.specs.declared.program.Function.{Function}
use Rattle.ac_commands.specs.declared.program.Resolved.{Resolved}
use Rattle.stack_code.specs.declared.instr.Instr.{Instr}
use Rattle.stack_code.specs.declared.parts.Entered.{Entered}
use Rattle.stack_code.specs.Parts.{Parts}
use Rattle.ac_translation.specs.Translation.{function_code, functions_from, functions_code, no_exits}
use Rattle.ac_translation.proofs.Sized.{function_sized}
use Rattle.ac_translation.proofs.Placed.{Placed, first_part, other_part}

-- a function, and where the code has it
pub record EntersAt (instrs : List Instr) (f : Function) (e : Entered) : Type 0 where
  pub words : e.words ≡ f.slots
  pub params : e.params ≡ f.params
  pub to : ℕ
  pub stands : Placed instrs (function_code f) no_exits e.at to

-- both lists have one of this number, or neither has
pub data Paired (instrs : List Instr) : Option Function → Option Entered → Type 0 where
  neither : Paired instrs None None
  both : {f : Function} {e : Entered} → EntersAt instrs f e → Paired instrs (Some f) (Some e)

pub functions_paired : (instrs : List Instr) (fs : List Function) (n at to : ℕ) → Placed instrs (functions_code fs) no_exits at to → Paired instrs (slice_get fs n) (slice_get (functions_from at fs) n)
functions_paired instrs [] zero at to h = neither
functions_paired instrs [] (suc n) at to h = neither
functions_paired instrs (f ∷ fs) zero at to h = both (record { words = refl; params = refl; to = at + (function_code f).size; stands = first_part instrs (function_code f) (functions_code fs) h })
functions_paired instrs (f ∷ fs) (suc n) at to h = functions_paired instrs fs n (at + (function_code f).size) to (other_part instrs (function_code f) (functions_code fs) (function_sized f) h)

-- the other of a pair
pub record EntryOf (instrs : List Instr) (f : Function) (o : Option Entered) : Type 0 where
  pub entered : Entered
  pub is : o ≡ Some entered
  pub enters : EntersAt instrs f entered

pub record FunctionOf (instrs : List Instr) (e : Entered) (o : Option Function) : Type 0 where
  pub function : Function
  pub is : o ≡ Some function
  pub enters : EntersAt instrs function e

pub entry_of : (instrs : List Instr) (f : Function) (x : Option Function) (y : Option Entered) → Paired instrs x y → x ≡ Some f → EntryOf instrs f y
entry_of instrs f _ _ neither e = cc
entry_of instrs f _ _ (both {f = g} {e = y} h) e = let same : g ≡ f = cc in record { entered = y; is = refl; enters = subst (λ k. EntersAt instrs k y) same h }

pub no_entry : (instrs : List Instr) (x : Option Function) (y : Option Entered) → Paired instrs x y → x ≡ None → y ≡ None
no_entry instrs _ _ neither e = refl
no_entry instrs _ _ (both h) e = cc

pub function_of : (instrs : List Instr) (e : Entered) (x : Option Function) (y : Option Entered) → Paired instrs x y → y ≡ Some e → FunctionOf instrs e x
function_of instrs e _ _ neither q = cc
function_of instrs e _ _ (both {f = g} {e = y} h) q = let same : y ≡ e = cc in record { function = g; is = refl; enters = subst (EntersAt instrs g) same h }

-- what a thread's run asks of the code: the texts of the program, and its functions
pub record IsCodeOf (code : Parts) (program : Resolved) : Type 0 where
  pub texts : code.texts ≡ program.texts
  pub functions : (number : ℕ) → Paired code.instrs (slice_get program.functions number) (slice_get code.functions number)
