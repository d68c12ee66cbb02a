-- What the definitions of Starting say of small files: of calls, of one file and of several. Each stands beside what it refuses, as a part that
-- is taken for the whole, another order, or a file that is read after another one has failed.
use Rattle.std.proofs.Common.{◌≡◌, refl, ℕ, ◌-◌, ◌^◌, ◌<◌, ◌≤◌, List, [], ◌∷◌, length, codes, take, None, Some, ap, arith, inl, inr, slice_index, true}
use Rattle.std.specs.Prelude.{All, Ok, slice_index_or}
use Rattle.std.proofs.lemmas.List.Elements.{All-from_recursion}
use Rattle.std.specs.declared.result.Result.{Result}
use Rattle.std.specs.declared.option.Option.{Option}
use Rattle.ac_outside.specs.Disks.{DiskTold, Held, BindLeaves, with_bound, called}
use Rattle.ac_outside.specs.Files.{file_of}
use Rattle.ac_outside.specs.Texts.{text_of}
use Rattle.ac_outside.proofs.Examples.{named}
use Rattle.starting_files.specs.declared.fault.StartFault.{StartFault}
use Rattle.starting_files.specs.declared.fault.StartFault.TheVariants.{Failed, TooLong, NoMemory}
use Rattle.starting_files.specs.Starting.{most_bytes, more_calls, reads_of, bytes_at, with_read, calls_of, with_started, LeavesBound, StartsFile, stopped, StopsAtFile, not_given, StartsFiles}
use Rattle.starting_files.specs.Starting.{AreStarted, AreStopped, StartHasCause, IsLatest, IsNumber, IsNumberBelow, bind_failed}

-- ---- calls

pub two_calls_more : more_calls 3 2 ≡ 5
two_calls_more = refl

pub at_its_last_value : more_calls (2 ^ 64 - 1) 2 ≡ 2 ^ 64 - 1
at_its_last_value = refl

pub reads_of_lengths : reads_of 0 ∷ reads_of 1 ∷ reads_of 65536 ∷ reads_of 65537 ∷ reads_of 1048576 ∷ [] ≡ 0 ∷ 1 ∷ 1 ∷ 2 ∷ 16 ∷ []
reads_of_lengths = refl

pub a_file_has_a_megabyte : most_bytes ≡ 1048576
a_file_has_a_megabyte = refl

-- ---- a disk with the file p of ten digits, of which nothing is bound

abbrev pub disk : Held
disk = record { files = []; found = text_of (named (codes "p") (codes "0123456789") ∷ []); calls = 0 }

pub what_p_holds : bytes_at disk (codes "p") ≡ codes "0123456789"
what_p_holds = refl

pub what_q_holds : bytes_at disk (codes "q") ≡ []
what_q_holds = refl

pub the_calls_for_p : calls_of disk (codes "p") ≡ 2
the_calls_for_p = refl

pub the_calls_for_q : calls_of disk (codes "q") ≡ 1
the_calls_for_q = refl

pub p_is_read : with_read disk (codes "p") 1 ≡ record disk { files = named (codes "p") (codes "0123456789") ∷ []; calls = 2 }
p_is_read = refl

pub both_are_started : with_started disk (codes "p" ∷ codes "q" ∷ [])
    ≡ record disk { files = named (codes "p") (codes "0123456789") ∷ named (codes "q") [] ∷ []; calls = 3 }
both_are_started = refl

pub its_read_failed : LeavesBound disk (Some (with_read disk (codes "p") 1)) (codes "p") 1
its_read_failed = record { reads = 1; some = omega arith; most = omega arith; left = refl }

pub not_without_a_read : LeavesBound disk (Some (with_bound disk (codes "q"))) (codes "q") 1 → ⊥
not_without_a_read h = omega (arith, h.some, h.most)

-- ---- one file

abbrev pub read : List ℕ → Result (List ℕ) StartFault
read bytes = Ok bytes

pub p_is_given : StartsFile disk (Some (with_read disk (codes "p") 1)) 0 (codes "p") (read (codes "0123456789"))
p_is_given = (refl, refl)

-- a part is not the whole
pub not_a_part : StartsFile disk (Some (with_read disk (codes "p") 1)) 0 (codes "p") (read (codes "01234")) → ⊥
not_a_part h = let e : 5 ≡ 10 = ap length h.0 in omega (arith, e)

pub its_bind_failed : StartsFile disk (Some (called disk)) 0 (codes "p") (stopped Failed)
its_bind_failed = inl (inl refl)

pub no_memory_for_it : StartsFile disk None 0 (codes "p") (stopped NoMemory)
no_memory_for_it = inl refl

pub a_long_file : (bytes : List ℕ) → length bytes ≡ 1048577
    → StartsFile (record disk { found = λ path. Some bytes }) (Some (with_bound (record disk { found = λ path. Some bytes }) (codes "p"))) 0 (codes "p") (stopped (TooLong 0))
a_long_file bytes e = (refl, omega (arith, e), refl)

pub no_short_file_is_long : StartsFile disk (Some (with_bound disk (codes "p"))) 0 (codes "p") (stopped (TooLong 0)) → ⊥
no_short_file_is_long h = let over : 1048576 < 10 = h.1 in omega (arith, over)

-- ---- several files

pub both_are_given : StartsFiles disk (Some (with_started disk (codes "p" ∷ codes "q" ∷ []))) (codes "p" ∷ codes "q" ∷ []) (codes "0123456789" ∷ [] ∷ [])
both_are_given = (refl, refl)

abbrev first_byte : Option Held → ℕ
first_byte None = 0
first_byte (Some held) = slice_index (file_of held.files 0).name 0

pub not_in_another_order :
    StartsFiles disk (Some (with_started disk (codes "q" ∷ codes "p" ∷ []))) (codes "p" ∷ codes "q" ∷ []) (codes "0123456789" ∷ [] ∷ []) → ⊥
not_in_another_order h = let e : 113 ≡ 112 = ap first_byte h.1 in omega (arith, e)

p_is_short : All (λ path. length (bytes_at disk path) ≤ most_bytes) (codes "p" ∷ [])
p_is_short =
    let few : 10 ≤ 1048576 = omega arith in
    All-from_recursion (λ path. length (bytes_at disk path) ≤ most_bytes) (codes "p" ∷ []) (few, tt)

pub the_second_stops_it :
    StopsAtFile disk (Some (called (with_started disk (codes "p" ∷ [])))) (codes "p" ∷ codes "q" ∷ []) 1 Failed
the_second_stops_it = record { path = codes "q"; here = refl; short = p_is_short; stops = inl (inl refl) }

-- a file that is too long stops it itself, and no later one does
pub not_past_a_long_file : (bytes : List ℕ) (after : Option Held) (fault : StartFault) → length bytes ≡ 1048577
    → StopsAtFile (record disk { found = λ path. Some bytes }) after (codes "p" ∷ codes "q" ∷ []) 1 fault → ⊥
not_past_a_long_file bytes after fault e h = let few = h.short 0 [] (omega arith) in omega (arith, e, few)

pub a_bind_that_failed : BindLeaves disk (Some (called disk)) (codes "p") bind_failed
a_bind_that_failed = inl refl

-- ---- causes

pub a_fault_has_a_cause : StartHasCause 3 4 (not_given Failed)
a_fault_has_a_cause = (omega arith, omega arith)

pub no_fault_without_one : StartHasCause 3 3 (not_given Failed) → ⊥
no_fault_without_one h = let r = h.1 in omega (arith, r)

pub no_memory_is_no_fault : StartHasCause 3 4 (not_given NoMemory) → ⊥
no_memory_is_no_fault e = omega (arith, e)

pub none_had_failed_before : IsLatest 3 3 (not_given Failed)
none_had_failed_before = refl

pub another_had_failed_before : IsLatest 3 4 (not_given Failed) → ⊥
another_had_failed_before e = omega (arith, e)

pub no_call_failed : IsLatest 3 4 (not_given NoMemory)
no_call_failed = tt

pub its_own_number : IsNumber 1 (TooLong 1)
its_own_number = refl

pub not_that_of_another : IsNumber 1 (TooLong 0) → ⊥
not_that_of_another e = omega (arith, e)

pub the_second_of_two : IsNumberBelow 2 (TooLong 1)
the_second_of_two = omega arith

pub there_is_no_third : IsNumberBelow 2 (TooLong 2) → ⊥
there_is_no_third less = omega (arith, less)

-- ---- all together

abbrev paths : List (List ℕ)
paths = codes "p" ∷ codes "q" ∷ []

abbrev told : DiskTold
told = record { held = Some disk; bound = 0; is_ready = true; binds = Some []; faults = 0; earlier = 0 }

abbrev told_after : DiskTold
told_after = record told { held = Some (with_started disk paths); bound = 2; binds = Some paths }

both_are_short : All (λ bytes. length bytes ≤ most_bytes) (codes "0123456789" ∷ [] ∷ [])
both_are_short =
    let ten : 10 ≤ 1048576 = omega arith in
    let none : 0 ≤ 1048576 = omega arith in
    All-from_recursion (λ (bytes : List ℕ). length bytes ≤ most_bytes) (codes "0123456789" ∷ [] ∷ []) (ten, (none, tt))

pub p_and_q_are_started : AreStarted paths (codes "0123456789" ∷ [] ∷ []) told told_after
p_and_q_are_started = record { well = refl; bound = refl; is_ready = refl; asked = refl; count = refl; short = both_are_short; told = (refl, refl) }

abbrev first_of : List (List ℕ) → ℕ
first_of names = slice_index (slice_index_or names 0 []) 0

-- on a disk that tells no files: another path, and the two in another order
abbrev silent : List (List ℕ) → DiskTold
silent names = record { held = None; bound = length names; is_ready = true; binds = Some names; faults = 0; earlier = 0 }

pub not_with_another_path : (start : List (List ℕ)) → AreStarted (codes "p" ∷ []) start (silent []) (silent (codes "x" ∷ [])) → ⊥
not_with_another_path start h = let e : 120 ≡ 112 = ap first_of h.asked in omega (arith, e)

pub nor_in_another_order : (start : List (List ℕ)) → AreStarted paths start (silent []) (silent (codes "q" ∷ codes "p" ∷ [])) → ⊥
nor_in_another_order start h = let e : 113 ≡ 112 = ap first_of h.asked in omega (arith, e)

pub nor_where_it_stops : (fault : StartFault) → AreStopped (codes "p" ∷ []) fault (silent []) (silent (codes "x" ∷ [])) → ⊥
nor_where_it_stops fault h = let e : 120 ≡ 112 = ap first_of h.asked in omega (arith, e)

-- a disk with the files p and r of one byte each
abbrev three : List (List ℕ)
three = codes "p" ∷ codes "q" ∷ codes "r" ∷ []

abbrev small : Held
small = record { files = []; found = text_of (named (codes "p") (codes "1") ∷ named (codes "r") (codes "2") ∷ []); calls = 0 }

abbrev small_told : DiskTold
small_told = record told { held = Some small }

none_before : All (λ path. length (bytes_at small path) ≤ most_bytes) []
none_before = All-from_recursion (λ path. length (bytes_at small path) ≤ most_bytes) [] tt

abbrev p_has_failed : DiskTold
p_has_failed = record { held = Some (with_read small (codes "p") 1); bound = 1; is_ready = true; binds = Some (codes "p" ∷ []); faults = 1; earlier = 0 }

pub the_read_of_p_stops_it : AreStopped three Failed small_told p_has_failed
the_read_of_p_stops_it = record {
  number = 0;
  within = omega arith;
  is_number = tt;
  asked = refl;
  cause = (omega arith, omega arith);
  latest = refl;
  told = record { path = codes "p"; here = refl; short = none_before; stops = inr (record { reads = 1; some = omega arith; most = omega arith; left = refl }) };
}

-- it went on: q was made, and r was bound and read
abbrev all_three_are_bound : DiskTold
all_three_are_bound =
    record { held = Some (with_read (with_started small (take 2 three)) (codes "r") 1); bound = 3; is_ready = true; binds = Some three; faults = 1; earlier = 1 }

pub not_at_a_later_file : AreStopped three Failed small_told all_three_are_bound → ⊥
not_at_a_later_file h = let e : 1 ≡ 0 = h.latest in omega (arith, e)
