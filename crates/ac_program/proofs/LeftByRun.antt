-- What a run has left of a disk, in one: from what the disk told before the call to what it tells after it. The start has bound the
-- program's files after none, the run has called the disk once for each request, and each request is of a file of the program; so the two
-- counts of calls add up.
use Rattle.std.proofs.Common.{◌≡◌, ℕ, suc, ◌≤◌, List, [], ◌∷◌, ◌++◌, length, map, Option, Some, Bool, true, false, refl, ap, ◌∙◌, subst, arith}
use Rattle.std.specs.Prelude.{◌&&◌, if◌then◌else◌, sum_by, IfSome}
use Rattle.std.specs.List.{filter}
use Rattle.std.proofs.lemmas.Bool.Decides.{nat_tests}
use Rattle.std.proofs.lemmas.List.{map-append}
use Rattle.ac_base.specs.Log.{Log}
use Rattle.ac_base.specs.declared.entry.Payload.{Payload}
use Rattle.ac_base.specs.declared.entry.Payload.TheVariants.{Int, Read, Write}
use Rattle.ac_tree.specs.declared.item.Program.{Program}
use Rattle.ac_names.specs.Numbered.{file_paths}
use Rattle.ac_resolve.specs.Resolution.{resolved}
use Rattle.ac_history.specs.Files.{Deed, padded, contents, IsServed}
use Rattle.ac_outside.specs.declared.shelf.NamedBytes.{NamedBytes}
use Rattle.ac_outside.specs.Disks.{DiskTold, Held}
use Rattle.ac_outside.specs.Files.{file_at}
use Rattle.starting_files.specs.Starting.{StartsFiles, bytes_at, calls_of, more_calls, with_started}
use Rattle.file_ops.specs.Asked.{texts, is_of_bound, is_fault}
use Rattle.file_ops.specs.Counting.{raised, calls_among, failures_among, is_call, is_failure}
use Rattle.program_run.specs.DiskLeft.{deeds_of, LeavesFiles}
use Rattle.program_run.specs.Naming.{IsNamed, AreNamed}
use Rattle.ac_program.specs.declared.execute.Done.{Done}
use Rattle.ac_words.specs.declared.task.Telling.{Telling}
use Rattle.ac_program.specs.Making.{IsReported}

-- What the starting reads gave is what the disk held under the program's paths, and each read of the run was given what stood there. Then
-- the program's files are the contents after the history, under every other path stands what stood there, and the calls are the binds, the
-- starting reads, and one for each request that was done.
pub record IsLeftByRun (program : Program) (start : List (List ℕ)) (journals : List Log) (held left : Held) : Type 0 where
  pub start_is : start ≡ map (bytes_at held) (file_paths program.items)
  pub served : IsServed (padded start) (deeds_of (resolved program) journals)
  pub files : padded (texts left) ≡ contents (padded start) (deeds_of (resolved program) journals)
  pub paths : map (λ f. f.name) left.files ≡ map (λ f. f.name) held.files ++ file_paths program.items
  pub others : left.found ≡ held.found
  pub calls : left.calls ≡ raised (more_calls held.calls (sum_by (calls_of held) (file_paths program.items)))
      (length (deeds_of (resolved program) journals))

-- how many requests were answered FAULT
abbrev pub faults_among : List Deed → ℕ
faults_among ds = length (filter (λ d. is_fault d.answer) ds)

-- ---- each of them is of a bound file

is_bound : (n : ℕ) (p : Payload) → IsNamed n p → is_of_bound n p ≡ true
is_bound n (Int v) h = absurd h
is_bound n (Read file from len) h = grind (arith, nat_tests)
is_bound n (Write file from bytes) h = grind (arith, nat_tests)

all_calls : (n : ℕ) (ds : List Deed) → AreNamed n ds → calls_among n ds ≡ length ds
all_calls n [] h = refl
all_calls n (d ∷ ds) h = by (is_of_bound n d.payload) (is_bound n d.payload h.0) (all_calls n ds h.1) where
  by : (b : Bool) → b ≡ true → calls_among n ds ≡ length ds → length (if b then d ∷ filter (is_call n) ds else filter (is_call n) ds) ≡ suc (length ds)
  by true e rest = ap suc rest
  by false e rest = absurd (cc (e))

all_failures : (n : ℕ) (ds : List Deed) → AreNamed n ds → failures_among n ds ≡ faults_among ds
all_failures n [] h = refl
all_failures n (d ∷ ds) h = by (is_of_bound n d.payload) (is_bound n d.payload h.0) (is_fault d.answer) (all_failures n ds h.1) where
  by : (b : Bool) → b ≡ true → (c : Bool) → failures_among n ds ≡ faults_among ds
      → length (if b && c then d ∷ filter (is_failure n) ds else filter (is_failure n) ds) ≡ length (if c then d ∷ filter (λ x. is_fault x.answer) ds else filter (λ x. is_fault x.answer) ds)
  by true e true rest = ap suc rest
  by true e false rest = rest
  by false e c rest = absurd (cc (e))

names_are : (held : Held) (paths : List (List ℕ)) → map (λ f. f.name) (map (file_at held.found) paths) ≡ paths
names_are held [] = refl
names_are held (path ∷ paths) = ap (λ more. path ∷ more) (names_are held paths)

module _ (program : Program) (bound : ℕ) (telling : Telling) (disk later : DiskTold) (done : Done) (h : IsReported program bound telling disk later done) where
  abbrev paths : List (List ℕ)
  paths = file_paths program.items

  abbrev its_deeds : List Deed
  its_deeds = deeds_of (resolved program) h.ended.journals

  left_from : (held first left : Held) → first ≡ with_started held paths → h.start ≡ map (bytes_at held) paths → LeavesFiles (resolved program) h.start h.ended.journals first left
      → left.calls ≡ raised first.calls (calls_among h.between.bound its_deeds) → IsLeftByRun program h.start h.ended.journals held left
  left_from held first left is start l calls = record {
    start_is = start;
    served = l.served;
    files = l.files;
    paths = l.paths ∙ ap (λ (it : Held). map (λ (f : NamedBytes). f.name) it.files) is ∙ map-append (λ (f : NamedBytes). f.name) held.files (map (file_at held.found) paths)
        ∙ ap (λ more. map (λ (f : NamedBytes). f.name) held.files ++ more) (names_are held paths);
    others = l.others ∙ ap (λ (it : Held). it.found) is;
    calls = calls ∙ ap (λ (it : Held). raised it.calls (calls_among h.between.bound its_deeds)) is
        ∙ ap (λ n. raised (with_started held paths).calls (calls_among n its_deeds)) h.files.bound
        ∙ ap (raised (with_started held paths).calls) (all_calls (length paths) its_deeds h.named);
  }

  told_calls : (o q : Option Held) (first left : Held) → o ≡ Some first → q ≡ Some left → IfSome o (λ a. IfSome q (λ b. b.calls ≡ raised a.calls (calls_among h.between.bound its_deeds)))
      → left.calls ≡ raised first.calls (calls_among h.between.bound its_deeds)
  told_calls o q first left e f told = let both = subst (λ (x : Option Held). IfSome x (λ a. IfSome q (λ b. b.calls ≡ raised a.calls (calls_among h.between.bound its_deeds)))) e told in
      subst (λ (x : Option Held). IfSome x (λ b. b.calls ≡ raised first.calls (calls_among h.between.bound its_deeds))) f both

  pub left_by_run : (held : Held) → disk.held ≡ Some held → (left : Held) × (later.held ≡ Some left) × IsLeftByRun program h.start h.ended.journals held left
  left_by_run held tells =
      let begins = subst (λ (x : Option Held). IfSome x (λ it. StartsFiles it h.between.held paths h.start)) tells h.files.told in
      let l = subst (λ (x : Option Held). IfSome x (λ it. (left : Held) × (later.held ≡ Some left) × LeavesFiles (resolved program) h.start h.ended.journals it left)) begins.1 h.left.held in
      (l.0, l.1, left_from held (with_started held paths) l.0 refl begins.0 l.2 (told_calls h.between.held later.held (with_started held paths) l.0 begins.1 l.1 h.left.counted.calls))

  faults_are : failures_among h.between.bound its_deeds ≡ faults_among its_deeds
  faults_are = ap (λ n. failures_among n its_deeds) h.files.bound ∙ all_failures (length paths) its_deeds h.named

  -- no more requests were answered FAULT than calls failed, and where none was, no call did
  pub no_more_faults : raised disk.faults (faults_among its_deeds) ≤ later.faults
  no_more_faults = subst (λ n. raised disk.faults n ≤ later.faults) faults_are
      (subst (λ f. raised f (failures_among h.between.bound its_deeds) ≤ later.faults) h.files.well h.left.counted.failures)

  pub no_other_fault : faults_among its_deeds ≡ 0 → later.faults ≡ disk.faults
  no_other_fault none = h.left.counted.none (faults_are ∙ none) ∙ h.files.well
