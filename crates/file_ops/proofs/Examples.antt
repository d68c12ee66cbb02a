-- What the definitions say of a disk that holds one file of three bytes: its requests, their answers, and what they are counted as; and of the
-- links that are a worker's.
use Rattle.std.proofs.Common.{◌≡◌, ℕ, ◌≤◌, refl, [], ◌∷◌, Option, Some, None, true, false, ap, arith, length}
use Rattle.ac_base.specs.declared.entry.Payload.TheVariants.{Read, Write}
use Rattle.ac_base.specs.declared.entry.Answer.TheVariants.{Bytes, Count, Fault}
use Rattle.ac_history.specs.Files.{Deed, files_done}
use Rattle.ac_links.specs.Party.LinkEnd.{Decides, Absent}
use Rattle.ac_outside.specs.Disks.{Held, DiskTold}
use Rattle.core_channels.proofs.RequestExamples.{asked, passed}
use Rattle.file_ops.specs.Asked.{file_of, is_of_bound, is_fault, texts, held_after, FaultIsDue, Called, AskedBy, Asked}
use Rattle.file_ops.specs.Agreement.{is_own, worker_ends, files_of, DiskGoesOn}
use Rattle.file_ops.specs.Counting.{raised, is_call, is_failure, calls_among, failures_among, AreCounted}
use Rattle.file_ops.specs.Laws.{RequestsAreCounted, FilesAreDone}

-- ---- requests of the disk

abbrev pub three : Held
three = record { files = record { name = 112 ∷ []; bytes = 1 ∷ 2 ∷ 3 ∷ [] } ∷ []; found = λ path. None; calls = 1 }

abbrev pub told : DiskTold
told = record { held = Some three; bound = 1; is_ready = true; binds = None; faults = 0; earlier = 0 }

abbrev pub calls_of : Option Held → ℕ
calls_of None = 0
calls_of (Some x) = x.calls

pub files_of_requests : file_of (Read 1 4 2) ∷ file_of (Write 2 0 []) ∷ [] ≡ 1 ∷ 2 ∷ []
files_of_requests = refl

pub one_file_is_bound : is_of_bound 1 (Read 0 4 2) ∷ is_of_bound 1 (Read 1 4 2) ∷ is_of_bound 0 (Write 0 0 []) ∷ [] ≡ true ∷ false ∷ false ∷ []
one_file_is_bound = refl

pub faults : is_fault (Fault 1) ∷ is_fault (Bytes []) ∷ is_fault (Count 0) ∷ [] ≡ true ∷ false ∷ false ∷ []
faults = refl

pub its_bytes : texts three ≡ (1 ∷ 2 ∷ 3 ∷ []) ∷ []
its_bytes = refl

pub a_read_counts_a_call : held_after three (Read 0 1 2) (Bytes (2 ∷ 3 ∷ [])) ≡ record three { calls = 2 }
a_read_counts_a_call = refl

-- with a zero in the gap
pub a_write_past_the_end : texts (held_after three (Write 0 4 (9 ∷ [])) (Count 1)) ≡ (1 ∷ 2 ∷ 3 ∷ 0 ∷ 9 ∷ []) ∷ []
a_write_past_the_end = refl

pub one_byte_went_in : texts (held_after three (Write 0 0 (8 ∷ 9 ∷ [])) (Fault 1)) ≡ (8 ∷ 2 ∷ 3 ∷ []) ∷ []
one_byte_went_in = refl

-- the disk after one call of it
abbrev pub told_after : DiskTold
told_after = record told { held = Some (record three { calls = 2 }) }

pub it_is_read : Called told told_after (Read 0 1 2) (Bytes (2 ∷ 3 ∷ []))
it_is_read = record { fits = refl; none = record { bound = refl; is_ready = refl; binds = refl }; held = refl; silent = λ h. cc; serves' = refl; later = omega arith; cause = refl }

pub of_a_bound_file_it_is_a_call : AskedBy true told (record told { held = Some (record three { calls = 2 }) }) (Read 0 1 2) (Bytes (2 ∷ 3 ∷ []))
of_a_bound_file_it_is_a_call = it_is_read

pub no_other_bytes : Called told (record told { held = Some (record three { calls = 2 }) }) (Read 0 1 2) (Bytes (2 ∷ 4 ∷ [])) → ⊥
no_other_bytes h = let e = h.serves' in cc

pub no_fault_without_a_cause : Called told (record told { held = Some (record three { calls = 2 }) }) (Read 0 1 2) (Fault 0) → ⊥
no_fault_without_a_cause h = let e : 1 ≤ 0 = h.cause in absurd (omega arith)

pub faults_rise_with_FAULT : FaultIsDue true 3 4
faults_rise_with_FAULT = omega arith

pub and_not_without : FaultIsDue false 3 4 → ⊥
and_not_without h = let e : ◌≡◌ {A = ℕ} 4 3 = h in absurd (omega arith)

pub nor_two_calls : Called told (record told { held = Some (record three { calls = 3 }) }) (Read 0 1 2) (Bytes (2 ∷ 3 ∷ [])) → ⊥
nor_two_calls h = let e : ◌≡◌ {A = ℕ} 3 2 = ap calls_of h.held in absurd (omega arith)

pub one_that_is_not_bound : Asked told told (Read 1 0 2) (Fault 0)
one_that_is_not_bound = (refl, refl)

pub it_has_no_bytes : Asked told told (Read 1 0 2) (Bytes []) → ⊥
it_has_no_bytes h = let e = h.1 in cc

-- ---- what is the worker's

pub its_own_links : is_own 3 2 2 ∷ is_own 3 2 3 ∷ is_own 3 2 4 ∷ is_own 3 2 5 ∷ [] ≡ false ∷ true ∷ true ∷ false ∷ []
its_own_links = refl

pub its_ends : worker_ends 0 2 (asked ∷ passed ∷ []) 0 ∷ worker_ends 0 1 (asked ∷ passed ∷ []) 1 ∷ [] ≡ Decides [] ∷ Absent ∷ []
its_ends = refl

pub sixteen_files : length (files_of three) ≡ 16
sixteen_files = refl

pub the_disk_goes_on : DiskGoesOn told told_after
the_disk_goes_on = record { bound = refl; is_ready = refl; binds = refl; silent = λ h. cc; later = omega arith }

pub no_file_is_bound_meanwhile : DiskGoesOn told (record told { bound = 2 }) → ⊥
no_file_is_bound_meanwhile h = let e : ◌≡◌ {A = ℕ} 2 1 = h.bound in absurd (omega arith)

-- ---- counts

abbrev pub one_read : Deed
one_read = record { payload = Read 0 4 2; answer = Bytes [] }

abbrev pub one_torn : Deed
one_torn = record { payload = Write 0 0 (8 ∷ 9 ∷ []); answer = Fault 1 }

abbrev pub one_unbound : Deed
one_unbound = record { payload = Read 1 0 2; answer = Fault 0 }

pub counts_that_rise : raised 3 0 ∷ raised 3 2 ∷ raised 18446744073709551614 2 ∷ [] ≡ 3 ∷ 5 ∷ 18446744073709551615 ∷ []
counts_that_rise = refl

pub which_are_calls : is_call 1 one_read ∷ is_call 1 one_torn ∷ is_call 1 one_unbound ∷ [] ≡ true ∷ true ∷ false ∷ []
which_are_calls = refl

pub which_are_failures : is_failure 1 one_read ∷ is_failure 1 one_torn ∷ is_failure 1 one_unbound ∷ [] ≡ false ∷ true ∷ false ∷ []
which_are_failures = refl

pub how_many : calls_among 1 (one_read ∷ one_torn ∷ one_unbound ∷ []) ∷ failures_among 1 (one_read ∷ one_torn ∷ one_unbound ∷ []) ∷ [] ≡ 2 ∷ 1 ∷ []
how_many = refl

pub the_read_is_counted : AreCounted told told_after (one_read ∷ [])
the_read_is_counted = record { calls = refl; failures = omega arith; none = λ e. refl }

pub it_was_called_once : AreCounted told told_after (one_read ∷ one_read ∷ []) → ⊥
it_was_called_once h = let e : ◌≡◌ {A = ℕ} 2 3 = h.calls in absurd (omega arith)

-- ---- the laws, of this disk

pub one_read_more : RequestsAreCounted → AreCounted told told_after (record { payload = Read 0 1 2; answer = Bytes (2 ∷ 3 ∷ []) } ∷ [])
one_read_more law = law told told told_after [] (Read 0 1 2) (Bytes (2 ∷ 3 ∷ [])) refl (record { calls = refl; failures = omega arith; none = λ e. refl }) it_is_read

pub its_files_are_done : FilesAreDone → files_of (held_after three (Write 0 4 (9 ∷ [])) (Count 1)) ≡ files_done (files_of three) (Write 0 4 (9 ∷ [])) (Count 1)
its_files_are_done law = law three (Write 0 4 (9 ∷ [])) (Count 1) (omega arith)
