-- The code of a program.
use Rattle.std.specs.Prelude.{◌≡◌}
use Rattle.ac_tree.specs.declared.item.Program.{Program}
use Rattle.ac_resolve.specs.Resolution.{resolved}
use Rattle.stack_code.specs.Parts.{Parts}
use Rattle.ac_translation.specs.Translation.{code_of}

-- the code is that of the program
abbrev pub IsCodeOf : Program → Parts → Type 0
IsCodeOf program code = code ≡ code_of (resolved program)
