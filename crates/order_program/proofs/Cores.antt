-- The cores of a program are those of its code: both are lists over the same declarations.
use Rattle.std.proofs.Common.{◌≡◌, ℕ, length, ap, ◌∙◌}
use Rattle.std.specs.Prelude.{suc}
use Rattle.std.proofs.lemmas.List.{length-map}
use Rattle.ac_commands.specs.declared.program.Core.{Core}
use Rattle.ac_compile.specs.Compiled.{IsCodeOf}
use Rattle.ac_resolve.specs.Resolution.{resolved}
use Rattle.ac_tree.specs.declared.item.Program.{Program}
use Rattle.program_reading.specs.Source.{names_of}
use Rattle.stack_code.specs.Parts.{Parts}

abbrev entry_of : Core → ℕ
entry_of core = core.entry

pub names_are : (program : Program) (code : Parts) → IsCodeOf program code → code.names ≡ names_of program
names_are program code h = ap (λ (c : Parts). c.names) h

pub parties_are : (program : Program) (code : Parts) (parties : ℕ) → IsCodeOf program code → parties ≡ suc (length code.entries) → parties ≡ suc (length (resolved program).cores)
parties_are program code parties h e = e ∙ ap suc (ap (λ (c : Parts). length c.entries) h ∙ length-map (resolved program).cores entry_of)
