-- What the start of the files of a program comes to: what stopped it is what work on the program gives, and where it was not stopped the disk
-- holds just the files that were read, as the run asks for.
use Rattle.std.proofs.Common.{◌≡◌, ℕ, List, [], ◌∷◌, ◌++◌, length, map, Option, None, Some, Err, refl, sym, ap, ◌∙◌, subst, arith}
use Rattle.std.specs.Prelude.{IfSome, Result}
use Rattle.ac_names.specs.Numbered.{file_paths}
use Rattle.ac_outside.specs.declared.shelf.NamedBytes.{NamedBytes}
use Rattle.ac_outside.specs.Disks.{DiskTold, Held}
use Rattle.ac_outside.specs.Files.{file_at}
use Rattle.file_ops.specs.Asked.{texts}
use Rattle.ac_tree.specs.declared.item.Program.{Program}
use Rattle.starting_files.specs.declared.fault.StartFault.{StartFault}
use Rattle.starting_files.specs.declared.fault.StartFault.TheVariants as f
use Rattle.starting_files.specs.Starting.{AreStopped, StartsFiles, bytes_at}
use Rattle.ac_program.specs.declared.execute.Done.{Done}
use Rattle.ac_words.specs.declared.task.Task.TheVariants as t
use Rattle.ac_words.specs.declared.task.Telling.{Telling}
use Rattle.ac_program.specs.Making.{stopped}
use Rattle.ac_program.specs.inner.Parts.{GivesDone}

-- what is made, as an answer, or why it is not
abbrev pub none_made : StartFault → Result Done StartFault
none_made fault = Err fault

pub halts : (steps : ℕ) (telling : Telling) (program : Program) (disk later : DiskTold) (fault : StartFault) → AreStopped (file_paths program.items) fault disk later
    → GivesDone (t.Run steps telling) program disk later (none_made fault)
halts steps telling program disk later f.Failed h = h
halts steps telling program disk later (f.TooLong file) h = h
halts steps telling program disk later f.NoMemory h = stopped h

-- ---- the disk as the run begins

bytes_are : (held : Held) (paths : List (List ℕ)) → map (λ f. f.bytes) (map (file_at held.found) paths) ≡ map (bytes_at held) paths
bytes_are held [] = refl
bytes_are held (path ∷ paths) = ap (λ more. bytes_at held path ∷ more) (bytes_are held paths)

-- where no file was bound before, the bytes of the bound files are those that were read
texts_are : (held : Held) (files : List NamedBytes) (paths : List (List ℕ)) → 0 ≡ length files → map (λ f. f.bytes) (files ++ map (file_at held.found) paths) ≡ map (bytes_at held) paths
texts_are held [] paths none = bytes_are held paths
texts_are held (file ∷ files) paths none = absurd (omega (arith, none))

pub holds_start : (before after : Option Held) (bound : ℕ) (asked start : List (List ℕ)) → bound ≡ 0 → IfSome before (λ h. bound ≡ length h.files) → (before ≡ None → after ≡ None)
    → IfSome before (λ h. StartsFiles h after asked start) → IfSome after (λ h. texts h ≡ start)
holds_start None after bound asked start none count silent told = subst (λ (it : Option Held). IfSome it (λ h. texts h ≡ start)) (sym (silent refl)) tt
holds_start (Some held) after bound asked start none count silent told = subst (λ (it : Option Held). IfSome it (λ h. texts h ≡ start)) (sym told.1)
    (texts_are held held.files asked (sym none ∙ count) ∙ sym told.0)
