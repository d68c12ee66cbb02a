-- The names and the number of the cores, by the program and by its code: both are lists over the same declarations, so they are as long
-- and have the same names.
use Rattle.std.proofs.Common.{◌≡◌, ℕ, suc, List, [], ◌∷◌, length, refl, sym, ap, ◌∙◌}
use Rattle.std.proofs.lemmas.List.{length-map}
use Rattle.ac_tree.specs.declared.item.Item.{Item}
use Rattle.ac_tree.specs.declared.item.Item.TheVariants as i
use Rattle.ac_tree.specs.declared.item.Program.{Program}
use Rattle.ac_names.specs.Scopes.{Declaration}
use Rattle.ac_names.specs.Items.{outermost}
use Rattle.ac_names.specs.Numbered.{core_names}
use Rattle.ac_commands.specs.declared.program.Core.{Core}
use Rattle.ac_resolve.specs.Resolution.{cores_in, resolved}
use Rattle.stack_code.specs.Parts.{Parts}
use Rattle.ac_compile.specs.Compiled.{IsCodeOf}
use Rattle.program_run.specs.declared.ended.Ended.{Ended}
use Rattle.program_run.specs.Run.{IsRunOf}
use Rattle.program_reading.specs.Source.{names_of}

abbrev name_in : Core → List ℕ
name_in core = core.name

pub names_are : (program : Program) (code : Parts) → IsCodeOf program code → code.names ≡ names_of program
names_are program code h = ap (λ (c : Parts). c.names) h

pub as_many : (program : Program) (code : Parts) (bound : ℕ) (start : List (List ℕ)) (ended : Ended) → IsCodeOf program code → IsRunOf (resolved program) bound start ended → length code.names
    ≡ length ended.cores
as_many program code bound start ended h r = ap (λ (c : Parts). length c.names) h ∙ length-map (resolved program).cores name_in ∙ sym r.every_core

-- ---- how many there are

pub cores_there : (items : List Item) (scopes : List (List Declaration)) → length (cores_in items scopes) ≡ length (core_names items)
cores_there [] scopes = refl
cores_there (i.Core at name entry ∷ items) scopes = ap suc (cores_there items scopes)
cores_there (i.Function f ∷ items) scopes = cores_there items scopes
cores_there (i.Global at name size value ∷ items) scopes = cores_there items scopes
cores_there (i.Channel at name from to cap ∷ items) scopes = cores_there items scopes
cores_there (i.File at name path ∷ items) scopes = cores_there items scopes

abbrev entry_of : Core → ℕ
entry_of core = core.entry

pub entries_are : (program : Program) (code : Parts) → IsCodeOf program code → length code.entries ≡ length (core_names program.items)
entries_are program code h = ap (λ (c : Parts). length c.entries) h ∙ length-map (resolved program).cores entry_of ∙ cores_there program.items (outermost program.items)
