-- Code of a core that has no part in what other cores do: it starts no operation.
use Rattle.std.specs.Prelude.{◌≡◌, All, Bool, true, false}
use Rattle.stack_code.specs.declared.instr.Instr.{Instr}
use Rattle.stack_code.specs.declared.instr.Instr.TheVariants as i
use Rattle.stack_code.specs.Parts.{Parts}

-- the instruction is no cancel and starts no operation
abbrev pub is_alone : Instr → Bool
is_alone (i.Cancel level slot) = false
is_alone (i.Send channel) = false
is_alone (i.Recv channel) = false
is_alone (i.Read file) = false
is_alone (i.Write file) = false
is_alone _ = true

-- it starts no operation; where there is none, a cancel has nothing to try
abbrev pub starts_none : Instr → Bool
starts_none (i.Cancel level slot) = true
starts_none instr = is_alone instr

abbrev pub IsAlone : Parts → Type 0
IsAlone code = All (λ instr. starts_none instr ≡ true) code.instrs
