-- Which bodies are round the addresses to which an instruction leads.
-- One case of Leading: the bodies stay the same whatever the operands and blocks are, and only an `Async` and a call have others.
use Rattle.std.proofs.Common.{◌≡◌, ℕ, Some, refl}
use Rattle.std.specs.Prelude.{slice_get}
use Rattle.stack_code.specs.declared.instr.Instr.{Instr}
use Rattle.stack_code.specs.declared.instr.Instr.TheVariants as i
use Rattle.stack_code.specs.declared.parts.Entered.{Entered}
use Rattle.stack_code.specs.declared.shape.Shape.{Shape}
use Rattle.stack_code.specs.declared.shape.Leads.{Leads}
use Rattle.stack_code.specs.Parts.{Parts}
use Rattle.stack_code.specs.Shapes.{first, inner, effect}
use Rattle.stack_code.proofs.Leading as each
use Rattle.stack_code.proofs.Leading.{HoldsAround, Leading}

-- the same bodies, one more at an `Async`, or those of a function's first address
pub data Bodies (code : Parts) (at : ℕ) (instr : Instr) (s t : Shape) : Type 0 where
  same : t.bodies ≡ s.bodies → Bodies code at instr s t
  more : (slots to : ℕ) → instr ≡ i.Async slots to → t.bodies ≡ (inner at slots s).bodies → Bodies code at instr s t
  begin : (number : ℕ) (function : Entered) → slice_get code.functions number ≡ Some function → t.bodies ≡ (first number function).bodies → Bodies code at instr s t

around : (code : Parts) (at : ℕ) (instr : Instr) (s : Shape) → HoldsAround code s (Bodies code at instr s)
around code at instr s = record {
  kept = λ kinds. same refl;
  more = λ slot body r. same refl;
  less = λ block blocks is. same refl;
  begun = λ number function is. begin number function is refl;
}

pub leading : (code : Parts) (at : ℕ) (instr : Instr) (s : Shape) (l : Leads) → effect code at instr s ≡ Some l → Leading (Bodies code at instr s) l
leading code at instr s l e = each.leading code at s (Bodies code at instr s) (around code at instr s) l instr (λ slots to is. more slots to is refl) e
