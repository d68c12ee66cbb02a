-- An address at which a `Step` stands.
-- Apart from the others, since Points and Circles both speak of it.
use Rattle.std.proofs.Common.{◌≡◌, ℕ, Some}
use Rattle.std.specs.Prelude.{slice_get}
use Rattle.stack_code.specs.declared.instr.Instr.TheVariants as i
use Rattle.stack_code.specs.Parts.{Parts}

abbrev pub IsStep : Parts → ℕ → Type 0
IsStep code at = slice_get code.instrs at ≡ Some i.Step
