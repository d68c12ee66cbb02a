-- What a disk holds on which a trace was run again: its start bound the files of the program after none, and then their writes were done.
use Rattle.std.proofs.Common.{◌≡◌, ℕ, zero, suc, List, [], ◌∷◌, ◌++◌, length, map, Option, Some, None, refl, sym, ap, ◌∙◌, subst, arith}
use Rattle.std.specs.Prelude.{IfSome}
use Rattle.std.proofs.lemmas.List.{length-map, length-append, map-append}
use Rattle.ac_history.specs.Files.{contents, padded}
use Rattle.ac_names.specs.Numbered.{file_paths}
use Rattle.ac_outside.specs.declared.shelf.NamedBytes.{NamedBytes}
use Rattle.ac_outside.specs.Disks.{DiskTold, Held, with_written}
use Rattle.ac_outside.specs.Files.{file_at}
use Rattle.ac_outside.specs.Told.{one_more}
use Rattle.ac_resolve.specs.Resolution.{resolved}
use Rattle.ac_tree.specs.declared.item.Program.{Program}
use Rattle.starting_files.specs.Starting.{AreStarted, StartsFiles, bytes_at, more_calls, with_started}
use Rattle.trace_text.specs.declared.trace.Trace.{Trace}
use Rattle.trace_writes.specs.declared.write.FileWrite.{FileWrite}
use Rattle.trace_writes.specs.Doing.{DidAll, with_writes}
use Rattle.trace_writes.proofs.Contents.{AreWithin, contents_are, others_stay, paths_stay}
use Rattle.ac_replay.specs.Replaying.{HoldsContents, deeds_in, writes_in}

-- ---- the files as they were bound

bytes_are : (held : Held) (paths : List (List ℕ)) → map (λ f. f.bytes) (map (file_at held.found) paths) ≡ map (bytes_at held) paths
bytes_are held [] = refl
bytes_are held (path ∷ paths) = ap (λ more. bytes_at held path ∷ more) (bytes_are held paths)

texts_are : (held : Held) (files : List NamedBytes) (paths : List (List ℕ)) → 0 ≡ length files → map (λ f. f.bytes) (files ++ map (file_at held.found) paths) ≡ map (bytes_at held) paths
texts_are held [] paths none = bytes_are held paths
texts_are held (file ∷ files) paths none = absurd (omega (arith, none))

names_are : (held : Held) (paths : List (List ℕ)) → map (λ f. f.name) (map (file_at held.found) paths) ≡ paths
names_are held [] = refl
names_are held (path ∷ paths) = ap (λ more. path ∷ more) (names_are held paths)

-- ---- calls

one_first : (calls n : ℕ) → more_calls (one_more calls) n ≡ one_more (more_calls calls n)
one_first calls zero = refl
one_first calls (suc n) = ap one_more (one_first calls n)

calls_rise : (ws : List FileWrite) (held : Held) → (with_writes held ws).calls ≡ more_calls held.calls (length ws)
calls_rise [] held = refl
calls_rise (w ∷ ws) held = calls_rise ws (with_written held w.file w.from w.bytes) ∙ one_first held.calls (length ws)

-- ---- all of it

module _ (program : Program) (t : Trace) (held : Held) (none : 0 ≡ length held.files) (start : t.start ≡ map (bytes_at held) (file_paths program.items))
    (within : AreWithin (length (file_paths program.items)) (deeds_in (resolved program) t)) where
  abbrev paths : List (List ℕ)
  paths = file_paths program.items

  abbrev first : Held
  first = with_started held paths

  count : length first.files ≡ length paths
  count =
      let all = length-append held.files (map (file_at held.found) paths) in
      let each = length-map paths (file_at held.found) in
      omega (arith, all, each, none)

  pub holds_contents : HoldsContents program t held (with_writes first (writes_in (resolved program) t))
  holds_contents = record {
    files = contents_are (deeds_in (resolved program) t) first (subst (λ n. AreWithin n (deeds_in (resolved program) t)) (sym count) within)
        ∙ ap (λ files. contents (padded files) (deeds_in (resolved program) t)) (texts_are held held.files paths none ∙ sym start);
    paths = paths_stay (writes_in (resolved program) t) first ∙ map-append (λ (f : NamedBytes). f.name) held.files (map (file_at held.found) paths)
        ∙ ap (λ more. map (λ (f : NamedBytes). f.name) held.files ++ more) (names_are held paths);
    others = others_stay (writes_in (resolved program) t) first;
    calls = calls_rise (writes_in (resolved program) t) first;
  }

module _ (program : Program) (t : Trace) (disk between later : DiskTold) (started : AreStarted (file_paths program.items) t.start disk between)
    (did : DidAll (writes_in (resolved program) t) between later) (none : IfSome disk.held (λ held. 0 ≡ length held.files))
    (within : AreWithin (length (file_paths program.items)) (deeds_in (resolved program) t)) where
  from : (o : Option Held) → IfSome o (λ held. StartsFiles held between.held (file_paths program.items) t.start) → IfSome o (λ held. 0 ≡ length held.files)
      → IfSome o (λ held. (left : Held) × (later.held ≡ Some left) × HoldsContents program t held left)
  from None s empty = tt
  from (Some held) s empty =
      let there = subst (λ (o : Option Held). IfSome o (λ it. later.held ≡ Some (with_writes it (writes_in (resolved program) t)))) s.1 did.told in
      (with_writes (with_started held (file_paths program.items)) (writes_in (resolved program) t), there, holds_contents program t held empty s.0 within)

  pub is_left : IfSome disk.held (λ held. (left : Held) × (later.held ≡ Some left) × HoldsContents program t held left)
  is_left = from disk.held started.told none

  begins : (o : Option Held) → IfSome o (λ held. StartsFiles held between.held (file_paths program.items) t.start) → IfSome o (λ held. t.start ≡ map (bytes_at held) (file_paths program.items))
  begins None s = tt
  begins (Some held) s = s.0

  pub is_started : IfSome disk.held (λ held. t.start ≡ map (bytes_at held) (file_paths program.items))
  is_started = begins disk.held started.told
