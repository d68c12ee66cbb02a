-- Files that are bound and read, one after the other. What the files before a place gave (`SoFar`) is what their paths alone make of the disk
-- at the start, so one file more is the same with one path more; where a file stops the work, that is kept beside what this file came to. What
-- was to be bound, and that no call had failed before, goes along for a disk that does not tell its files.
use Rattle.std.proofs.Common.{◌≡◌, ◌≢◌, ℕ, zero, suc, ◌+◌, ◌-◌, ◌^◌, ◌<◌, ◌≤◌, min, List, [], ◌∷◌, ◌++◌, length, take, map, None, Some, Bool, true, false, refl, sym, ap, ◌∙◌, subst, inr, arith}
use Rattle.std.specs.Prelude.{sum_by, slice_get, slice_index_or, IfSome, IfErr, Ok, Err, All, AllPairs}
use Rattle.std.specs.declared.option.Option.{Option}
use Rattle.std.specs.declared.result.Result.{Result}
use Rattle.std.proofs.lemmas.List.{append-nil, append_assoc, take_more, map-append, length-take, length-map, get_or-take, get_or-map}
use Rattle.std.proofs.lemmas.Slice.Eq.{bytes_eq-Decides}
use Rattle.std.specs.Bool.{Decides}
use Rattle.std.specs.Str.{bytes_eq}
use Rattle.std.proofs.lemmas.List.Sums.{sum_by_more}
use Rattle.std.proofs.Math.Seq.{get_or-append_seam}
use Rattle.ac_outside.specs.declared.shelf.NamedBytes.{NamedBytes}
use Rattle.ac_outside.specs.declared.failed.BindFault.{BindFault}
use Rattle.ac_outside.specs.Told.{one_more, AddsName, AddsNames}
use Rattle.ac_outside.specs.Texts.{text_of}
use Rattle.ac_outside.specs.Files.{file_at, file_of}
use Rattle.ac_outside.specs.Disks.{DiskTold, Held, with_bound, BindLeaves, IsFresh}
use Rattle.starting_files.specs.declared.fault.StartFault.{StartFault}
use Rattle.starting_files.specs.declared.fault.StartFault.TheVariants.{Failed, TooLong, NoMemory}
use Rattle.starting_files.specs.Starting.{more_calls, calls_of, reads_of, bytes_at, with_read, with_started, not_given, StartsFile}
use Rattle.starting_files.specs.Starting.{StopsAtFile, IsNumber, IsNumberBelow, IsLatest, StartHasCause, AreStopped}
use Rattle.starting_files.specs.inner.Pieces.{ReadsWhole}

-- ---- one file

-- that a file was bound, as the answer
abbrev pub was_bound : ℕ → Result ℕ BindFault
was_bound len = Ok len

-- the last of the bound files
the_last : (files : List NamedBytes) (file : NamedBytes) (number : ℕ) → number ≡ length files → file_of (files ++ file ∷ []) number ≡ file
the_last files file number e = ap (file_of (files ++ file ∷ [])) e ∙ get_or-append_seam files file [] (record { name = []; bytes = [] })

bound_file : (held : Held) (after : Option Held) (number len : ℕ) (path : List ℕ) (result : Result (List ℕ) StartFault)
    → number ≡ length held.files → length (bytes_at held path) ≡ len → ReadsWhole (with_bound held path) after number len result → IfErr result (IsNumberBelow 0)
    → StartsFile held after number path result
bound_file held after number len path (Ok bytes) n l read below =
    let last = ap (λ file. file.bytes) (the_last held.files (file_at held.found path) number n) in
    (read.0 (ap length last ∙ l) ∙ last, subst (λ k. after ≡ Some (with_read held path (reads_of k))) (sym l) read.1)
bound_file held after number len path (Err Failed) n l read below =
    inr (record { reads = read.reads; some = read.some; most = subst (λ k. read.reads ≤ reads_of k) (sym l) read.most; left = read.left })
bound_file held after number len path (Err (TooLong file)) n l read below = absurd (omega (arith, below))
bound_file held after number len path (Err NoMemory) n l read below =
    inr (record { reads = read.reads; some = read.some; most = subst (λ k. read.reads ≤ reads_of k) (sym l) read.most; left = read.left })

-- a file that is not too long is bound, and then read
pub file_read : (first bound after : Option Held) (number len : ℕ) (path : List ℕ) (result : Result (List ℕ) StartFault)
    → IfSome first (λ held. BindLeaves held bound path (was_bound len)) → IfSome bound (λ held. ReadsWhole held after number len result) → IfErr result (IsNumberBelow 0)
    → len ≤ 1048576 → IfSome first (λ held. number ≡ length held.files) → IfSome first (λ held. StartsFile held after number path result)
file_read None bound after number len path result leaves read below short n = tt
file_read (Some held) bound after number len path result leaves read below short n =
    let told : len ≡ min (length (bytes_at held path)) (2 ^ 32 - 1) = leaves.0 in
    bound_file held after number len path result n (omega (arith, short, told)) (subst (λ (b : Option Held). IfSome b (λ h. ReadsWhole h after number len result)) leaves.1 read) below

-- the next number is that of the files so far
pub named : (first : Option Held) (number bound : ℕ) → number ≡ bound → IfSome first (λ held. bound ≡ length held.files) → IfSome first (λ held. number ≡ length held.files)
named None number bound e tells = tt
named (Some held) number bound e tells = e ∙ tells

-- it has any number, as there is none
pub none_numbered : {T : Type 0} (number : ℕ) (result : Result T StartFault) → IfErr result (IsNumberBelow 0) → IfErr result (IsNumber number)
none_numbered number (Ok bytes) h = tt
none_numbered number (Err Failed) h = tt
none_numbered number (Err (TooLong file)) h = absurd (omega (arith, h))
none_numbered number (Err NoMemory) h = tt

-- ---- several files

pub more_more : (calls a b : ℕ) → more_calls (more_calls calls a) b ≡ more_calls calls (a + b)
more_more calls a zero = ap (more_calls calls) (omega arith)
more_more calls a (suc b) =
    let e : suc (a + b) ≡ a + suc b = omega arith in
    ap one_more (more_more calls a b) ∙ ap (more_calls calls) e

-- what the files before a place gave
abbrev pub SoFar : Held → Option Held → List (List ℕ) → ℕ → List (List ℕ) → Type 0
SoFar held now paths number start = (start ≡ map (bytes_at held) (take number paths)) × (now ≡ Some (with_started held (take number paths)))

pub none_started : (first : Option Held) (paths : List (List ℕ)) → IfSome first (λ held. SoFar held first paths 0 [])
none_started None paths = tt
none_started (Some held) paths = (refl, ap (λ files. Some (record held { files = files })) (sym (append-nil held.files)))

one_more_file : (held : Held) (paths : List (List ℕ)) (number : ℕ) (path : List ℕ) → number < length paths → slice_index_or paths number path ≡ path
    → with_read (with_started held (take number paths)) path (reads_of (length (bytes_at held path))) ≡ with_started held (take (number + 1) paths)
one_more_file held paths number path less here =
    let more : take (number + 1) paths ≡ take number paths ++ path ∷ [] = take_more paths number path less ∙ ap (λ p. take number paths ++ p ∷ []) here in
    let files : (held.files ++ map (file_at held.found) (take number paths)) ++ file_at held.found path ∷ [] ≡ held.files ++ map (file_at held.found) (take (number + 1) paths) =
    append_assoc held.files (map (file_at held.found) (take number paths)) (file_at held.found path ∷ [])
    ∙ ap (λ xs. held.files ++ xs) (sym (map-append (file_at held.found) (take number paths) (path ∷ [])) ∙ ap (map (file_at held.found)) (sym more)) in
    let sum : sum_by (calls_of held) (take (number + 1) paths) ≡ sum_by (calls_of held) (take number paths) + calls_of held path =
    sum_by_more (calls_of held) paths number path less ∙ ap (λ p. sum_by (calls_of held) (take number paths) + calls_of held p) here in
    let calls : more_calls (one_more (more_calls held.calls (sum_by (calls_of held) (take number paths)))) (reads_of (length (bytes_at held path)))
    ≡ more_calls held.calls (sum_by (calls_of held) (take (number + 1) paths)) =
    more_more held.calls (suc (sum_by (calls_of held) (take number paths))) (reads_of (length (bytes_at held path))) ∙ ap (more_calls held.calls) (omega (arith, sum)) in
    ap (λ xs. record held { files = xs; calls = more_calls (one_more (more_calls held.calls (sum_by (calls_of held) (take number paths)))) (reads_of (length (bytes_at held path))) }) files
    ∙ ap (λ n. record held { files = held.files ++ map (file_at held.found) (take (number + 1) paths); calls = n }) calls

pub next_file : (first before after : Option Held) (paths : List (List ℕ)) (number : ℕ) (path bytes : List ℕ) (start : List (List ℕ))
    → IfSome first (λ held. SoFar held before paths number start) → IfSome before (λ held. StartsFile held after number path (Ok bytes))
    → number < length paths → slice_index_or paths number path ≡ path
    → IfSome first (λ held. SoFar held after paths (number + 1) (start ++ bytes ∷ []))
next_file None before after paths number path bytes start so file less here = tt
next_file (Some held) before after paths number path bytes start so file less here =
    let now = subst (λ (b : Option Held). IfSome b (λ h. StartsFile h after number path (Ok bytes))) so.1 file in
    let more : take (number + 1) paths ≡ take number paths ++ path ∷ [] = take_more paths number path less ∙ ap (λ p. take number paths ++ p ∷ []) here in (
      ap (λ xs. xs ++ bytes ∷ []) so.0 ∙ ap (λ b. map (bytes_at held) (take number paths) ++ b ∷ []) now.0 ∙ sym (map-append (bytes_at held) (take number paths) (path ∷ [])) ∙ ap (map
          (bytes_at held)) (sym more),
      now.1 ∙ ap (λ h. Some h) (one_more_file held paths number path less here),
    )

-- files of which each is given as it is, and none is too long
pub are_short : (held : Held) (paths start : List (List ℕ)) → start ≡ map (bytes_at held) paths → All (λ bytes. length bytes ≤ 1048576) start
    → All (λ path. length (bytes_at held path) ≤ 1048576) paths
are_short held paths start e short = λ k d less.
    let all = subst (All (λ bytes. length bytes ≤ 1048576)) e short in
    let here = all k (bytes_at held d) (omega (arith, less, length-map paths (bytes_at held))) in
    subst (λ bytes. length bytes ≤ 1048576) (get_or-map (bytes_at held) paths k d (bytes_at held d) less) here

abbrev pub stopped_by : StartFault → Result (List ℕ) StartFault
stopped_by fault = Err fault

-- a file stops the start
pub stops_at : (first before after : Option Held) (paths : List (List ℕ)) (number : ℕ) (path : List ℕ) (start : List (List ℕ)) (fault : StartFault)
    → IfSome first (λ held. SoFar held before paths number start) → All (λ bytes. length bytes ≤ 1048576) start
    → IfSome before (λ held. StartsFile held after number path (stopped_by fault)) → slice_get paths number ≡ Some path
    → IfSome first (λ held. StopsAtFile held after paths number fault)
stops_at None before after paths number path start fault so short file here = tt
stops_at (Some held) before after paths number path start fault so short file here =
    record {
      path = path;
      here = here;
      short = are_short held (take number paths) start so.0 short;
      stops = subst (λ (b : Option Held). IfSome b (λ h. StartsFile h after number path (stopped_by fault))) so.1 file;
    }

-- or memory was refused once it was read
pub stops_after : (first before after : Option Held) (paths : List (List ℕ)) (number : ℕ) (path bytes : List ℕ) (start : List (List ℕ))
    → IfSome first (λ held. SoFar held before paths number start) → All (λ bytes. length bytes ≤ 1048576) start
    → IfSome before (λ held. StartsFile held after number path (Ok bytes)) → slice_get paths number ≡ Some path
    → IfSome first (λ held. StopsAtFile held after paths number NoMemory)
stops_after None before after paths number path bytes start so short file here = tt
stops_after (Some held) before after paths number path bytes start so short file here =
    let now = subst (λ (b : Option Held). IfSome b (λ h. StartsFile h after number path (Ok bytes))) so.1 file in
    record {
      path = path;
      here = here;
      short = are_short held (take number paths) start so.0 short;
      stops = inr (record { reads = reads_of (length (bytes_at held path)); some = omega arith; most = omega arith; left = now.1 });
    }

-- the same file, by its number and path in other words
pub retold : (before after : Option Held) (m n : ℕ) (p q : List ℕ) (result : Result (List ℕ) StartFault) → m ≡ n → p ≡ q
    → IfSome before (λ held. StartsFile held after m p result) → IfSome before (λ held. StartsFile held after n q result)
retold before after m n p q result e f h =
    subst (λ (x : List ℕ). IfSome before (λ held. StartsFile held after n x result)) f (subst (λ (k : ℕ). IfSome before (λ held. StartsFile held after k p result)) e h)

-- a cause is one whatever would have been given
pub cause_of : (T : Type 0) (before after : ℕ) (fault : StartFault) → StartHasCause {T = T} before after (Err fault) → StartHasCause before after (not_given fault)
cause_of T before after Failed h = h
cause_of T before after (TooLong file) h = h
cause_of T before after NoMemory h = h

pub latest_of : (T : Type 0) (before earlier : ℕ) (fault : StartFault) → IsLatest {T = T} before earlier (Err fault) → IsLatest before earlier (not_given fault)
latest_of T before earlier Failed h = h
latest_of T before earlier (TooLong file) h = tt
latest_of T before earlier NoMemory h = tt

-- ---- what was to be bound

pub asked_more : (first before after : Option (List (List ℕ))) (paths : List (List ℕ)) (number : ℕ) (path : List ℕ)
    → AddsNames first before (take number paths) → AddsName before after path → number < length paths → slice_index_or paths number path ≡ path
    → AddsNames first after (take (number + 1) paths)
asked_more first before None paths number path a b less here = tt
asked_more first None (Some after) paths number path a b less here = absurd b
asked_more None (Some before) (Some after) paths number path a b less here = absurd a
asked_more (Some first) (Some before) (Some after) paths number path a b less here =
    let more : take (number + 1) paths ≡ take number paths ++ path ∷ [] = take_more paths number path less ∙ ap (λ p. take number paths ++ p ∷ []) here in
    b ∙ ap (λ ns. ns ++ path ∷ []) a ∙ append_assoc first (take number paths) (path ∷ []) ∙ ap (λ ps. first ++ ps) (sym more)

-- ---- all together

-- the file of this number stopped it, and before its calls no call had failed
pub are_stopped : (disk between later : DiskTold) (paths : List (List ℕ)) (number : ℕ) (path : List ℕ) (fault : StartFault) → number < length paths → slice_index_or paths number path ≡ path
    → IsNumber number fault → AddsNames disk.binds between.binds (take number paths) → AddsName between.binds later.binds path
    → between.faults ≡ disk.faults → StartHasCause between.faults later.faults (not_given fault) → IsLatest between.faults later.earlier (not_given fault)
    → IfSome disk.held (λ held. StopsAtFile held later.held paths number fault) → AreStopped paths fault disk later
are_stopped disk between later paths number path fault less here is asked one well cause latest told =
    let more : number + 1 ≡ suc number = omega arith in
    record {
      number = number;
      within = less;
      is_number = is;
      asked = subst (λ n. AddsNames disk.binds later.binds (take n paths)) more (asked_more disk.binds between.binds later.binds paths number path asked one less here);
      cause = subst (λ n. StartHasCause n later.faults (not_given fault)) well cause;
      latest = subst (λ n. IsLatest n later.earlier (not_given fault)) well latest;
      told = told;
    }

-- ---- paths that no file is bound under

not_equal : {P : Type 0} (b : Bool) → Decides b P → (P → ⊥) → b ≡ false
not_equal true d n = absurd (n (d.0 refl))
not_equal false d n = refl

none_named : (found : List ℕ → Option (List ℕ)) (paths : List (List ℕ)) (path : List ℕ) → ((k : ℕ) → k < length paths → slice_index_or paths k path ≢ path)
    → text_of (map (file_at found) paths) path ≡ None
none_named found [] path differ = refl
none_named found (p ∷ paths) path differ =
    let other : bytes_eq p path ≡ false = not_equal {P = p ≡ path} (bytes_eq p path) (bytes_eq-Decides p path) (differ 0 (omega arith)) in
    rw other (none_named found paths path (λ k less. differ (suc k) (omega (arith, less))))

pub is_fresh : (first now : Option Held) (paths : List (List ℕ)) (number : ℕ) (path : List ℕ) (start : List (List ℕ))
    → (first ≡ None → now ≡ None) → IfSome first (λ held. SoFar held now paths number start) → IfSome first (λ held. held.files ≡ [])
    → AllPairs (λ path other. path ≢ other) paths → number < length paths → slice_index_or paths number path ≡ path
    → IfSome now (λ held. IsFresh held path)
is_fresh None now paths number path start silent so none differ less here = subst (λ (n : Option Held). IfSome n (λ held. IsFresh held path)) (sym (silent refl)) tt
is_fresh (Some held) now paths number path start silent so none differ less here =
    let apart : (k : ℕ) → k < length (take number paths) → slice_index_or (take number paths) k path ≢ path = λ k inside e.
    let before : k < number = omega (arith, inside, length-take number paths) in
    differ k number path before less (sym (get_or-take number paths k path before) ∙ e ∙ sym here) in
    let fresh : text_of (held.files ++ map (file_at held.found) (take number paths)) path ≡ None =
    ap (λ files. text_of (files ++ map (file_at held.found) (take number paths)) path) none ∙ none_named held.found (take number paths) path apart in
    subst (λ (n : Option Held). IfSome n (λ h. IsFresh h path)) (sym so.1) fresh

pub none_bound : (first : Option Held) (bound : ℕ) → IfSome first (λ held. bound ≡ length held.files) → bound ≡ 0 → IfSome first (λ held. held.files ≡ [])
none_bound None bound tells e = tt
none_bound (Some held) bound tells e = nothing held.files (sym tells ∙ e) where
  nothing : (files : List NamedBytes) → length files ≡ 0 → files ≡ []
  nothing [] l = refl
  nothing (file ∷ files) l = absurd (omega (arith, l))
