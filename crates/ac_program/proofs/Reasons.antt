-- From what is due to the text that decides it: the text that was read, or, where one byte too many was taken, the one that the library
-- tells, which is too long. The files that were read are those that the disk told.
use Rattle.std.proofs.Common.{◌≢◌, ◌≡◌, ℕ, ◌+◌, ◌<◌, ◌≤◌, List, [], length, map}
use Rattle.std.specs.Prelude.{All, Contains, IfSome, slice_index_or}
use Rattle.std.proofs.lemmas.Option.{slice_get_within, get_or_from_slice_get}
use Rattle.std.proofs.lemmas.List.{get_or_default}
use Rattle.ac_outside.specs.Disks.{DiskTold, Held}
use Rattle.starting_files.specs.declared.fault.StartFault.TheVariants as f
use Rattle.starting_files.proofs.Started.{are_short}
use Rattle.starting_files.specs.Starting.{AreStopped, StartsFiles, StopsAtFile, bytes_at, most_bytes}
use Rattle.std.proofs.Common.{Option, None, Some, refl, sym, ap, ◌∙◌, subst, arith, length-append}
use Rattle.ac_base.specs.Log.{Log}
use Rattle.ac_commands.specs.declared.program.Resolved.{Resolved}
use Rattle.ac_resolve.specs.Resolution.{resolved}
use Rattle.ac_history.specs.Files.{padded, IsServed}
use Rattle.ac_outside.specs.Told.{LibraryTold, SinkTold}
use Rattle.program_run.specs.DiskLeft.{deeds_of, LeavesFiles}
use Rattle.program_run.specs.declared.ended.Ended.{Ended}
use Rattle.ac_words.specs.declared.task.Task.{Task}
use Rattle.ac_words.specs.Words.{Does, Loads}
use Rattle.ac_file_server.specs.ServerText.{load_text}
use Rattle.ac_tree.specs.declared.item.Program.{Program}
use Rattle.ac_program.specs.declared.execute.Done.{Done}
use Rattle.ac_words.specs.declared.task.Task.TheVariants as t
use Rattle.program_reading.specs.Source.{needed}
use Rattle.ac_program.specs.Making.{Makes, IsDueOf, Tells}
use Rattle.program_reading.specs.Reading.{Gave, TookBytes, IsRead, IsShort}
use Rattle.ac_program.specs.Headline.{IsDueOfFile, TookWhole, GivesStatus, CallsFor, IsCalledFor, IsOfText, IsDecided, IsLoaded, summed, AreShort, HasLong, KnowsFiles}
use Rattle.ac_program.specs.Making.IsDueOf.{refused, ready}
use Rattle.ac_program.specs.Making.IsDueOfProgram.{disk_fault, long_file as is_filed, made as is_made}
use Rattle.ac_program.specs.Headline.IsDueOfFile.{library_fault, too_long, source}
use Rattle.ac_program.specs.Headline.CallsFor.{over_long, long_file, made}
use Rattle.ac_program.proofs.Calls.{calls_refused, calls_both}

-- ---- what the library gave

pub over : (told left : Option (List ℕ)) (known : List ℕ) → told ≡ Some known → TookBytes told left (1048576 + 1) → 1048576 < length known
over None left known e k = absurd (cc (e))
over (Some bytes) None known e k = absurd k.consumed
over (Some bytes) (Some rest) known e k =
    let same : known ≡ bytes = cc (e) in
    let long : length known ≡ length k.taken + length rest = ap length (same ∙ k.consumed) ∙ length-append k.taken rest in
    omega (arith, long, k.count)

pub gave_is : (told : Option (List ℕ)) (known given : List ℕ) → told ≡ Some known → Gave told given → given ≡ known
gave_is None known given e g = absurd (cc (e))
gave_is (Some bytes) known given e g = let same : bytes ≡ known = cc (e) in g ∙ same

-- a text that is too long, which may be the one that the library has
record IsLongText (told : Option (List ℕ)) : Type 0 where
  text : List ℕ
  gave : Gave told text
  long : 1048576 < length text

long_text : (told left : Option (List ℕ)) → TookBytes told left (1048576 + 1) → IsLongText told
long_text None left k = record { text = k.taken; gave = tt; long = omega (arith, k.count) }
long_text (Some known) left k = record { text = known; gave = refl; long = over (Some known) left known refl k }

-- ---- what the files are

read_short : (held after : Option Held) (paths start : List (List ℕ)) → All (λ bytes. length bytes ≤ most_bytes) start → IfSome held (λ h. StartsFiles h after paths start)
    → IfSome held (λ h. All (λ path. length (bytes_at h path) ≤ most_bytes) paths)
read_short None after paths start short told = tt
read_short (Some h) after paths start short told = are_short h paths start told.0 short

read_held : (held after : Option Held) (paths start : List (List ℕ)) → IfSome held (λ h. StartsFiles h after paths start) → IfSome held (λ h. start ≡ map (bytes_at h) paths)
read_held None after paths start told = tt
read_held (Some h) after paths start told = told.0

-- a disk that told its files before they were read has served the run
served_after : (program : Resolved) (journals : List Log) (held between : Option Held) (later : DiskTold) (paths start : List (List ℕ)) → IfSome held (λ h. StartsFiles h between paths start)
    → IfSome between (λ h. (left : Held) × (later.held ≡ Some left) × LeavesFiles program start journals h left) → IfSome held (λ h. IsServed (padded start) (deeds_of program journals))
served_after program journals None between later paths start told left = tt
served_after program journals (Some h) between later paths start told left =
    (subst (λ (it : Option Held). IfSome it (λ g. (last : Held) × (later.held ≡ Some last) × LeavesFiles program start journals g last)) told.1 left).2.served

pub none_long : (held : Option Held) → IfSome held (λ h. All (λ path. length (bytes_at h path) ≤ most_bytes) [])
none_long None = tt
none_long (Some h) = λ k d less. absurd (omega (arith, less))

-- a path whose file is too long, where it is told
record IsOver (held : Option Held) (paths : List (List ℕ)) : Type 0 where
  path : List ℕ
  is_one : Contains paths path
  over : IfSome held (λ h. most_bytes < length (bytes_at h path))

is_over : (held after : Option Held) (paths : List (List ℕ)) (number file : ℕ) → number < length paths → IfSome held (λ h. StopsAtFile h after paths number (f.TooLong file))
    → IsOver held paths
is_over None after paths number file less told =
    record { path = slice_index_or paths number []; is_one = (number, less, get_or_default paths number (slice_index_or paths number []) [] less); over = tt }
is_over (Some h) after paths number file less told =
    let inside = slice_get_within paths number told.path told.here in
    let here = get_or_from_slice_get paths number told.path told.path told.here in
    record { path = told.path; is_one = (number, inside, here); over = told.stops.1 }

pub has_long : (paths : List (List ℕ)) (file : ℕ) (disk later : DiskTold) → AreStopped paths (f.TooLong file) disk later → HasLong disk paths
has_long paths file disk later stopped = let o = is_over disk.held later.held paths stopped.number file stopped.within stopped.told in record { path = o.path; is_one = o.is_one; over = o.over }

-- the status of what is made, and that no file is too long
gives_of : (task : Task) (program : Program) (disk later : DiskTold) (status : ℕ) (done : Done) → status ≡ done.status.number → Makes task program disk later done
    → GivesStatus task program disk status
gives_of (t.Run steps telling) program disk later status done n d =
    record {
      start = d.start;
      each_file = d.files.count;
      are_held = read_held disk.held d.between.held _ d.start d.files.told;
      ended = d.ended;
      is_run = d.is_run;
      are_served = served_after (resolved program) d.ended.journals disk.held d.between.held later _ d.start d.files.told d.left.held;
      line = done.text;
      tells = subst (λ (number : ℕ). Tells telling program d.ended number done.text) (sym n) d.tells;
    }
gives_of t.Check program disk later status done n d = n ∙ d.status
gives_of t.Code program disk later status done n d = n ∙ d.status

pub short_of : (task : Task) (program : Program) (disk later : DiskTold) (done : Done) → Makes task program disk later done → AreShort disk (needed task program)
short_of (t.Run steps telling) program disk later done d = read_short disk.held d.between.held _ d.start d.files.short d.files.told
short_of t.Check program disk later done d = none_long disk.held
short_of t.Code program disk later done d = none_long disk.held

-- what is due of a text is what it calls for
module _ (bytes : List ℕ) (task : Task) (disk later : DiskTold) (status : ℕ) (text : List ℕ) (run : Option Ended) (o : IsOfText status) (short : IsShort bytes) where
  calls_for : IsDueOf bytes task disk later status text run → CallsFor bytes task disk status
  calls_for (refused y n x r h a) = calls_refused bytes task disk status y n short h
  calls_for (ready p k (disk_fault n x r h)) = absurd (o.disk n)
  calls_for (ready p k (is_filed number n x r h)) = long_file p n short k (has_long (needed task p) number disk later h)
  calls_for (ready p k (is_made done n x r d)) = made p short k (short_of task p disk later done d) (gives_of task p disk later status done n d)

-- a text that the library may have given calls for the status
record IsFound (file : List ℕ) (task : Task) (before after : LibraryTold) (disk : DiskTold) (status : ℕ) : Type 0 where
  text : List ℕ
  read : IsRead before after file
  gave : Gave (before.text_at file) text
  calls : CallsFor text task disk status

module _ (file : List ℕ) (task : Task) (before after : LibraryTold) (disk later : DiskTold) (status : ℕ) (text : List ℕ) (run : Option Ended) where
  found : IsOfText status → IsDueOfFile file task before after disk later status text run → IsFound file task before after disk status
  found o (library_fault n x r j e a) = absurd (o.library n)
  found o (too_long n x r w took a) = let l = long_text (before.text_at file) after.left took in record { text = l.text; read = w; gave = l.gave; calls = over_long n l.long }
  found o (source bytes w g s due) = record { text = bytes; read = w.read; gave = g; calls = calls_for bytes task disk later status text run o s due }

-- ---- what the text decides

module _ (task : Task) (file : List ℕ) (before after : LibraryTold) (disk later : DiskTold) (status : ℕ) (run : Option Ended) (sink written : SinkTold)
    (whole : status ≢ 8 → status ≢ 11 → TookWhole (IsDueOfFile file task before after disk later) status run sink written) (o : IsOfText status) where
  here : IsFound file task before after disk status
  here = let w = whole o.sink o.memory in found file task before after disk later status w.text run o w.due

  calls_known : (known : List ℕ) → before.text_at file ≡ Some known → CallsFor known task disk status
  calls_known known told = subst (λ (bytes : List ℕ). CallsFor bytes task disk status) (gave_is (before.text_at file) known here.text told here.gave) here.calls

  called : (known : List ℕ) → before.text_at file ≡ Some known → KnowsFiles known task disk → IsCalledFor known task disk status
  called known told knows = record {
    calls = calls_known known told;
    only = λ number h. calls_both known task disk knows status number (calls_known known told) h;
  }

  is_decided : IsDecided task file before after disk status
  is_decided = record { text = here.text; is_read = here.read; gave = here.gave; calls = here.calls; only = called }

  -- for the words that call for it, and no other
  pub decided_for : (asked : Task) (name : List ℕ) → Does asked name ≡ Does task file → IsDecided asked name before after disk status
  decided_for asked name e = let same : (asked ≡ task) × (name ≡ file) = (cc (e), cc (e)) in
      subst (λ (n : List ℕ). IsDecided asked n before after disk status) (sym same.1) (subst (λ (a : Task). IsDecided a file before after disk status) (sym same.0) is_decided)

-- ---- what the text of the file server decides

module _ (turns steps : ℕ) (short : IsShort (load_text turns)) (before : LibraryTold) (disk later : DiskTold) (status : ℕ) (run : Option Ended) (sink written : SinkTold)
    (whole : status ≢ 8 → status ≢ 11 → TookWhole (IsDueOf (load_text turns) (summed turns steps) disk later) status run sink written) (o : IsOfText status) where
  load_calls : CallsFor (load_text turns) (summed turns steps) disk status
  load_calls = let w = whole o.sink o.memory in calls_for (load_text turns) (summed turns steps) disk later status w.text run o short w.due

  is_loaded : IsLoaded turns steps before before disk status
  is_loaded = record {
    untouched = refl;
    calls = load_calls;
    only = λ knows. record { calls = load_calls; only = λ number h. calls_both (load_text turns) (summed turns steps) disk knows status number load_calls h };
  }

  -- for the words that call for it, and no other
  pub loaded_for : (number bound : ℕ) → Loads number bound ≡ Loads turns steps → IsLoaded number bound before before disk status
  loaded_for number bound e = let one : number ≡ turns = cc (e) in let two : bound ≡ steps = cc (e) in
      subst (λ (n : ℕ). IsLoaded n bound before before disk status) (sym one) (subst (λ (n : ℕ). IsLoaded turns n before before disk status) (sym two) is_loaded)
