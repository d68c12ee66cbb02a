-- The code of a program names its files alone: a program that breaks no rule names files that are declared, and the translation keeps
-- their numbers.
use Rattle.std.proofs.Common.{◌≡◌, ℕ, ◌<◌, List, length, true, false, refl, arith}
use Rattle.std.specs.Prelude.{nat_lt}
use Rattle.std.proofs.lemmas.Bool.Decides.{nat_tests}
use Rattle.ac_tree.specs.declared.item.Program.{Program}
use Rattle.ac_tree.specs.Shape.{HasShape}
use Rattle.ac_types.specs.Reached.{BreaksNone}
use Rattle.ac_commands.specs.declared.value.Action.{Action}
use Rattle.ac_commands.specs.declared.program.Resolved.{Resolved}
use Rattle.stack_code.specs.declared.instr.Instr.{Instr}
use Rattle.stack_code.specs.declared.instr.Instr.TheVariants as i
use Rattle.ac_names.specs.Numbered.{file_paths}
use Rattle.ac_resolve.specs.Resolution.{resolved}
use Rattle.ac_resolve.specs.InPlace.{Want, Wants, call, send, recv, read, write}
use Rattle.ac_resolve.proofs.ProgramInPlace.{all_in_place}
use Rattle.ac_translation.specs.Translation.{action_code, no_exits, code_of}
use Rattle.ac_compile.proofs.Instructions.{is_own}
use Rattle.ac_compile.proofs.EachInPlace.{all_each, functions_hold}
use Rattle.program_run.specs.Naming.{names_below, NamesFilesBelow}

module _ (program : Resolved) where
  abbrev P : Instr → Type 0
  P x = names_below (length program.files) x ≡ true

  own : (x : Instr) → is_own x ≡ true → P x
  own (i.Read file) e = absurd (let no : false ≡ true = e in cc (no))
  own (i.Write file) e = absurd (let no : false ≡ true = e in cc (no))
  own x e = refl

  below : (file : ℕ) → file < length program.files → nat_lt file (length program.files) ≡ true
  below file lt = grind (arith, nat_tests)

  acts_named : (action : Action) (wants : List Want) (count : ℕ) → Wants program action wants → P (action_code action count)
  acts_named _ _ count (call n f e) = refl
  acts_named _ _ count (send number channel e) = refl
  acts_named _ _ count (recv number channel e) = refl
  acts_named _ _ count (read file lt) = below file lt
  acts_named _ _ count (write file lt) = below file lt

pub names_its_files : (program : Program) → BreaksNone program.items → HasShape program → NamesFilesBelow (code_of (resolved program)) (length (file_paths program.items))
names_its_files program clean shaped =
    let r = resolved program in
    let place = all_in_place program clean shaped in
    all_each (P r) (own r) _ ((functions_hold r (P r) (own r) (λ level slot. refl) (acts_named r) r.functions place.functions).each no_exits 0)
