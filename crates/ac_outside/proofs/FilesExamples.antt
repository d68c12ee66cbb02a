-- What the definitions of Files, Disks and Causes say of small files, and what the disks in memory tell: of what a bind leaves, each case by
-- itself, and of the numbers of faults before and after a call.
use Rattle.std.proofs.Common.{◌≡◌, refl, ℕ, List, [], ◌∷◌, codes, None, Some, true, false, arith, inl, inr}
use Rattle.std.specs.Prelude.{Ok, Err, ⊤}
use Rattle.std.specs.declared.result.Result.{Result}
use Rattle.std.specs.declared.option.Option.{Option}
use Rattle.ac_outside.specs.declared.failed.BindFault.{BindFault}
use Rattle.ac_outside.specs.declared.failed.BindFault.TheVariants.{Failed, NoMemory}
use Rattle.ac_outside.specs.declared.failed.Torn.{Torn}
use Rattle.ac_outside.specs.declared.shelf.NamedBytes.{NamedBytes}
use Rattle.ac_outside.specs.Causes.{BindHasCause}
use Rattle.ac_outside.specs.Disks.{Held, IsFresh, called, with_bound, with_made, with_written, BindLeaves, bound_by, stays_ready, BindsNone}
use Rattle.ac_outside.specs.Files.{file_at, told_length, file_of, part, written, bytes_in}
use Rattle.ac_outside.specs.Texts.{text_of, with_name}
use Rattle.ac_outside.specs.Views.{StoredFiles, SafeFiles, FailingFiles, held_by, told_by_stored, told_by_safe_disk, told_by_failing_disk, stored_bind, stored_write, fail_at, torn_by}
use Rattle.ac_outside.proofs.Examples.{named}

-- ---- one file

pub a_part : part (codes "0123") 1 2 ≡ codes "12"
a_part = refl

pub a_part_over_the_end : part (codes "0123") 3 2 ≡ codes "3"
a_part_over_the_end = refl

pub a_part_past_the_end : part (codes "0123") 6 2 ≡ []
a_part_past_the_end = refl

pub its_length : told_length (codes "0123") ≡ 4
its_length = refl

-- ---- several files

abbrev pub two_files : List NamedBytes
two_files = named (codes "p") (codes "01") ∷ named (codes "q") (codes "23") ∷ []

pub the_second : file_of two_files 1 ≡ named (codes "q") (codes "23")
the_second = refl

pub there_is_no_third : file_of two_files 2 ≡ named [] []
there_is_no_third = refl

pub into_the_second : written two_files 1 2 (codes "4") ≡ named (codes "p") (codes "01") ∷ named (codes "q") (codes "234") ∷ []
into_the_second = refl

pub into_none : written two_files 2 0 (codes "4") ≡ two_files
into_none = refl

-- ---- what went in

abbrev pub wrote : Result ⊤ Torn
wrote = Ok tt

abbrev pub torn : ℕ → Result ⊤ Torn
torn n = Err (record { taken = n })

pub all_bytes : bytes_in wrote (codes "abc") ≡ codes "abc"
all_bytes = refl

pub two_bytes : bytes_in (torn 2) (codes "abc") ≡ codes "ab"
two_bytes = refl

-- ---- what a disk holds

abbrev pub found : List ℕ → Option (List ℕ)
found = text_of (named (codes "r") (codes "56789") ∷ [])

pub a_file_that_is_there : file_at found (codes "r") ≡ named (codes "r") (codes "56789")
a_file_that_is_there = refl

pub a_file_that_is_made : file_at found (codes "s") ≡ named (codes "s") []
a_file_that_is_made = refl

abbrev pub disk : Held
disk = record { files = two_files; found = found; calls = 2 }

pub nothing_bound_as_r : IsFresh disk (codes "r")
nothing_bound_as_r = refl

pub p_is_bound : IsFresh disk (codes "p") → ⊥
p_is_bound e = let none : Some (codes "01") ≡ None = e in cc

pub one_call_more : called disk ≡ record disk { calls = 3 }
one_call_more = refl

pub a_third_file : (with_bound disk (codes "r")).files ≡ named (codes "p") (codes "01") ∷ named (codes "q") (codes "23") ∷ named (codes "r") (codes "56789") ∷ []
a_third_file = refl

pub it_is_made_at_its_path : (with_made disk (codes "s")).found (codes "s") ≡ Some []
it_is_made_at_its_path = refl

pub and_at_no_other : (with_made disk (codes "s")).found (codes "t") ≡ None
and_at_no_other = refl

pub one_that_is_there_stays : (with_made disk (codes "r")).found (codes "r") ≡ Some (codes "56789")
one_that_is_there_stays = refl

pub a_write_is_a_call : (with_written disk 0 1 (codes "9")).calls ≡ 3
a_write_is_a_call = refl

pub a_write_changes_its_file : (with_written disk 0 1 (codes "9")).files ≡ named (codes "p") (codes "09") ∷ named (codes "q") (codes "23") ∷ []
a_write_changes_its_file = refl

-- ---- what a bind leaves

abbrev pub bound : ℕ → Result ℕ BindFault
bound n = Ok n

abbrev pub not_bound : BindFault → Result ℕ BindFault
not_bound fault = Err fault

pub it_is_bound : BindLeaves disk (Some (with_bound disk (codes "r"))) (codes "r") (bound 5)
it_is_bound = (refl, refl)

pub another_length : BindLeaves disk (Some (with_bound disk (codes "r"))) (codes "r") (bound 4) → ⊥
another_length h = let e : 4 ≡ 5 = h.0 in omega (arith, e)

pub a_failed_bind : BindLeaves disk (Some (called disk)) (codes "s") (not_bound Failed)
a_failed_bind = inl refl

pub a_failed_bind_that_made_its_file : BindLeaves disk (Some (with_made disk (codes "s"))) (codes "s") (not_bound Failed)
a_failed_bind_that_made_its_file = inr refl

pub nothing_is_told_then : BindLeaves disk None (codes "s") (not_bound NoMemory)
nothing_is_told_then = refl

pub nothing_is_told_before : BindLeaves disk (Some (called disk)) (codes "s") (not_bound NoMemory) → ⊥
nothing_is_told_before e = cc

pub one_is_bound_more : bound_by 2 (bound 5) ≡ 3
one_is_bound_more = refl

pub none_is_bound_more : bound_by 2 (not_bound Failed) ≡ 2
none_is_bound_more = refl

pub it_may_be_called : stays_ready (not_bound Failed) ≡ true
it_may_be_called = refl

pub it_may_be_called_no_more : stays_ready (not_bound NoMemory) ≡ false
it_may_be_called_no_more = refl

-- ---- causes of a bind

pub a_failed_bind_has_a_cause : BindHasCause 3 4 (not_bound Failed)
a_failed_bind_has_a_cause = (omega arith, omega arith)

pub no_failed_bind_without_one : BindHasCause 3 3 (not_bound Failed) → ⊥
no_failed_bind_without_one h = let r = h.1 in omega (arith, r)

pub no_memory_counts_nothing : BindHasCause 3 3 (not_bound NoMemory)
no_memory_counts_nothing = refl

pub no_memory_is_no_fault : BindHasCause 3 4 (not_bound NoMemory) → ⊥
no_memory_is_no_fault e = omega (arith, e)

-- ---- the disks in memory

abbrev pub stored : StoredFiles
stored = record { files = two_files; given = named (codes "r") (codes "56789") ∷ []; is_ready = true }

abbrev pub paths : List (List ℕ)
paths = codes "p" ∷ codes "q" ∷ []

abbrev pub failing : FailingFiles
failing = record { stored = stored; calls = 2; fails = record { call = 4; taken = 1 } ∷ []; binds = Some paths; faults = 0; earlier = 0 }

abbrev pub safe : SafeFiles
safe = record { stored = stored; calls = 2; binds = Some paths }

pub what_it_holds : held_by stored 2 ≡ disk
what_it_holds = refl

pub what_is_told_of_it : told_by_stored stored 2 None 1 0 ≡ record { held = Some disk; bound = 2; is_ready = true; binds = None; faults = 1; earlier = 0 }
what_is_told_of_it = refl

pub the_safe_one_tells_them_too : told_by_safe_disk safe ≡ record { held = Some disk; bound = 2; is_ready = true; binds = Some paths; faults = 0; earlier = 0 }
the_safe_one_tells_them_too = refl

pub it_tells_its_files : told_by_failing_disk failing ≡ record { held = Some disk; bound = 2; is_ready = true; binds = Some paths; faults = 0; earlier = 0 }
it_tells_its_files = refl

pub it_tells_them_no_more :
    told_by_safe_disk (record safe { stored = record stored { is_ready = false } }) ≡ record { held = None; bound = 2; is_ready = false; binds = Some paths; faults = 0; earlier = 0 }
it_tells_them_no_more = refl

pub none_is_bound_by_a_read : BindsNone (told_by_failing_disk failing) (told_by_failing_disk (record failing { calls = 3 }))
none_is_bound_by_a_read = record { bound = refl; is_ready = refl; binds = refl }

pub one_is_bound : BindsNone (told_by_failing_disk failing) (told_by_failing_disk (record failing { stored = stored_bind stored (codes "r") (bound 5) })) → ⊥
one_is_bound h = let e : 3 ≡ 2 = h.bound in omega (arith, e)

pub one_was_to_be_bound :
    BindsNone (told_by_failing_disk failing) (told_by_failing_disk (record failing { calls = 3; binds = with_name failing.binds (codes "s"); faults = 1 })) → ⊥
one_was_to_be_bound h = let e = h.binds in cc

pub bound_in_memory : (stored_bind stored (codes "s") (bound 0)).files ≡ named (codes "p") (codes "01") ∷ named (codes "q") (codes "23") ∷ named (codes "s") [] ∷ []
bound_in_memory = refl

pub nothing_bound_by_a_fault : stored_bind stored (codes "s") (not_bound Failed) ≡ stored
nothing_bound_by_a_fault = refl

pub memory_was_refused : stored_bind stored (codes "s") (not_bound NoMemory) ≡ record stored { is_ready = false }
memory_was_refused = refl

pub written_in_memory : (stored_write stored 0 0 (codes "9")).files ≡ named (codes "p") (codes "91") ∷ named (codes "q") (codes "23") ∷ []
written_in_memory = refl

pub the_fourth_call_fails : fail_at failing.fails 4 ≡ Some (record { call = 4; taken = 1 })
the_fourth_call_fails = refl

pub the_third_call_does_not : fail_at failing.fails 3 ≡ None
the_third_call_does_not = refl

pub one_byte_went_in : torn_by (fail_at failing.fails 4) (codes "abc") ≡ torn 1
one_byte_went_in = refl

pub no_more_than_there_were : torn_by (fail_at failing.fails 4) [] ≡ torn 0
no_more_than_there_were = refl

pub it_did_not_fail : torn_by (fail_at failing.fails 3) (codes "abc") ≡ wrote
it_did_not_fail = refl
