-- What a worker has done with its disk, one of which nothing was asked and one that has read a byte, and what it has taken out of its links.
use Rattle.std.proofs.Common.{◌≡◌, ℕ, zero, suc, List, [], ◌∷◌, Option, Some, None, true, false, refl, arith}
use Rattle.std.specs.Prelude.{◌==◌, pos}
use Rattle.std.specs.List.{filter}
use Rattle.std.proofs.lemmas.Bool.Decides.{nat_tests}
use Rattle.ac_base.specs.declared.entry.Answer.TheVariants.{Bytes, Count}
use Rattle.ac_base.specs.declared.entry.Entry.{Entry}
use Rattle.ac_base.specs.declared.entry.Event.TheVariants.{Pass, Did}
use Rattle.ac_base.specs.declared.entry.Payload.{Payload}
use Rattle.ac_base.specs.declared.entry.Payload.TheVariants.{Int, Read}
use Rattle.ac_commands.specs.declared.program.Resolved.{Resolved}
use Rattle.ac_translation.specs.Translation.{code_of}
use Rattle.stack_code.specs.Valid.{IsValid}
use Rattle.ac_links.specs.declared.payloads.Terms.{Terms}
use Rattle.ac_links.specs.Order.{of_party, is_of_link}
use Rattle.ac_links.specs.Payloads.{Taking}
use Rattle.ac_links.specs.Payloads.Taking.{Done}
use Rattle.ac_links.specs.Party.{LinkEnd, EndRuns}
use Rattle.ac_links.specs.Party.LinkEnd.{Owns, Decides, Absent}
use Rattle.ac_links.specs.Views.{PeerDecision}
use Rattle.ac_outside.specs.Disks.{Held, DiskTold, called}
use Rattle.program_run.specs.DiskLeft.{LeavesDisk}
use Rattle.run_laws.specs.Network.{terms_in}
use Rattle.run_laws.proofs.CoreExamples.{crossing, crossed, links_with, five}
use Rattle.run_laws.proofs.RunExamples.{its_cores, their_run, it_is_made}
use Rattle.settled_run.specs.Ends.{owner_end}
use Rattle.settled_run.specs.Disk.{TellsPopped, payloads_at, ArePopped, LeavesHeld, HasServed}
use Rattle.settled_run.specs.Laws.{SettledEndsLeaveTheDisk}
use Rattle.settled_run.proofs.Serving.{served_none, served_pass, served_did}
use Rattle.settled_run.proofs.SettledExamples.{ports, worker, they_are_settled, both_cores, it_has_done_nothing}

-- ---- what was taken out

pub what_was_offered : (payloads_at (Owns (five ∷ [])) ≡ Int (pos 5 ∷ []) ∷ []) × (payloads_at Absent ≡ [])
what_was_offered = (refl, refl)

abbrev none_popped : ℕ → List Payload
none_popped l = []

abbrev one_popped : ℕ → List Payload
one_popped l = Read 0 0 1 ∷ []

-- who knows of no request tells all of none
pub none_is_told : TellsPopped (λ e. None) none_popped
none_is_told l n answer payload h = cc

pub not_where_one_was_taken : TellsPopped (λ e. None) one_popped → ⊥
not_where_one_was_taken t = let e = t 1 0 (Count 0) (Read 0 0 1) refl in cc

pub nothing_was_taken : ArePopped crossing ports none_popped
nothing_was_taken = record { offered = λ l own. (payloads_at (owner_end crossing ports l), refl); none = λ l other. refl }

pub not_what_was_not_offered : ArePopped crossing ports one_popped → ⊥
not_what_was_not_offered p = let e = (p.offered 1 refl).1 in cc

-- ---- the disk

abbrev empty : Held
empty = record { files = []; found = λ path. None; calls = 0 }

abbrev told : Held → DiskTold
told held = record { held = Some held; bound = 0; is_ready = true; binds = None; faults = 0; earlier = 0 }

pub its_files_are_left : LeavesHeld (terms_in (links_with crossed)) 2 worker [] none_popped [] empty empty
its_files_are_left = record {
  served = λ got tells. record { journal = it_has_done_nothing.agrees; served = tt; held = refl };
  as_many = refl;
  paths = refl;
  others = refl;
}

-- a file that was not there
pub not_with_another_file : LeavesHeld (terms_in (links_with crossed)) 2 worker [] none_popped [] empty (record empty { files = record { name = []; bytes = [] } ∷ [] }) → ⊥
not_with_another_file h = let e = h.as_many in omega (arith, e)

pub it_has_served : HasServed (terms_in (links_with crossed)) 2 worker [] none_popped [] (told empty) (told empty)
it_has_served = record {
  counted = λ got tells. record { calls = refl; failures = omega arith; none = λ e. refl };
  held = (empty, refl, its_files_are_left);
}

-- a call that nothing asked for
pub not_with_a_stray_call : HasServed (terms_in (links_with crossed)) 2 worker [] none_popped [] (told empty) (told (record empty { calls = 1 })) → ⊥
not_with_a_stray_call h = let e = (h.counted (λ e. None) none_is_told).calls in omega (arith, e)

-- ---- a worker that has read a byte of the one file, for the first core

abbrev requests : ℕ → Terms
requests l = record { capacity = 16; requests = true }

abbrev one_file : Held
one_file = record { files = record { name = []; bytes = 7 ∷ 8 ∷ [] } ∷ []; found = λ path. None; calls = 0 }

abbrev disk : Held → DiskTold
disk held = record { held = Some held; bound = 1; is_ready = true; binds = None; faults = 0; earlier = 0 }

abbrev its_bytes : List (List ℕ)
its_bytes = (7 ∷ 8 ∷ []) ∷ []

-- it had stamp 1 and has been done by an entry of stamp 2
abbrev read : ℕ → Entry
read byte = record { stamp = 2; turn = 0; event = Did 1 0 (Bytes (byte ∷ [])) }

abbrev ends_with : List PeerDecision → ℕ → LinkEnd
ends_with ds zero = Absent
ends_with ds (suc zero) = Decides ds
ends_with ds (suc (suc zero)) = Decides []
ends_with ds (suc (suc (suc l))) = Absent

nothing_runs : (l : ℕ) → EndRuns (requests l) (ends_with [] l) []
nothing_runs zero = refl
nothing_runs (suc zero) = refl
nothing_runs (suc (suc zero)) = refl
nothing_runs (suc (suc (suc l))) = refl

pub before_it_has_begun : HasServed requests 2 (ends_with []) [] none_popped its_bytes (disk one_file) (disk one_file)
before_it_has_begun = served_none requests 2 (ends_with []) none_popped its_bytes (disk one_file) (record { runs = nothing_runs; stamps = tt }) refl

other_link : (l : ℕ) → (1 == suc (suc (suc l))) ≡ false
other_link l = grind (arith, nat_tests)

abbrev decided : Option Taking → PeerDecision
decided value = record { value = value; stamp = 2; answers = 1 }

read_runs : (l : ℕ) → EndRuns (requests l) (ends_with (decided (Some (Done (Bytes (7 ∷ [])))) ∷ []) l) (filter (is_of_link l) (of_party 2 (read 7 ∷ [])))
read_runs zero = refl
read_runs (suc zero) = (refl, omega arith, refl)
read_runs (suc (suc zero)) = refl
read_runs (suc (suc (suc l))) = rw (other_link l) refl

pub once_it_has_read : HasServed requests 2 (ends_with (decided (Some (Done (Bytes (7 ∷ [])))) ∷ [])) (read 7 ∷ []) one_popped its_bytes (disk one_file) (disk (called one_file))
once_it_has_read = served_did requests 2 (ends_with []) (ends_with (decided (Some (Done (Bytes (7 ∷ [])))) ∷ [])) [] (read 7) none_popped one_popped its_bytes (disk one_file) (disk one_file)
    before_it_has_begun (record { runs = read_runs; stamps = (refl, tt) }) (λ l. (one_popped l, refl)) 1 0 (Read 0 0 1) (Bytes (7 ∷ [])) refl refl (disk (called one_file))
    (record {
      fits = refl;
      none = record { bound = refl; is_ready = refl; binds = refl };
      held = refl;
      silent = λ e. let no : Some one_file ≡ None = e in absurd
          (cc);
      serves' = refl;
      later = omega arith;
      cause = refl;
    })
    refl refl

all_are_reads : TellsPopped (λ e. Some (Read 0 0 1)) one_popped
all_are_reads l zero answer payload there = there
all_are_reads l (suc n) answer payload there = cc

-- not with another byte than stands there
pub not_with_another_byte : (ends : ℕ → LinkEnd) → HasServed requests 2 ends (read 8 ∷ []) one_popped its_bytes (disk one_file) (disk (called one_file)) → ⊥
not_with_another_byte ends h = let no = (h.held.2.served (λ e. Some (Read 0 0 1)) all_are_reads).served.0 in cc

-- a request that was withdrawn is taken out, and the disk is not called
abbrev pass : Entry
pass = record { stamp = 2; turn = 0; event = Pass 1 0 }

pass_runs : (l : ℕ) → EndRuns (requests l) (ends_with (decided None ∷ []) l) (filter (is_of_link l) (of_party 2 (pass ∷ [])))
pass_runs zero = refl
pass_runs (suc zero) = (refl, omega arith, refl)
pass_runs (suc (suc zero)) = refl
pass_runs (suc (suc (suc l))) = rw (other_link l) refl

pub once_it_has_passed_one : HasServed requests 2 (ends_with (decided None ∷ [])) (pass ∷ []) one_popped its_bytes (disk one_file) (disk one_file)
once_it_has_passed_one = served_pass requests 2 (ends_with []) (ends_with (decided None ∷ [])) [] pass none_popped one_popped its_bytes (disk one_file) (disk one_file) before_it_has_begun
    (record { runs = pass_runs; stamps = (refl, tt) }) (λ l. (one_popped l, refl)) 1 0 refl

-- ---- the disk after the run of the two cores

pub its_disk_is_left : SettledEndsLeaveTheDisk → (program : Resolved) → IsValid crossing → crossing ≡ code_of program
    → LeavesDisk program [] their_run.journals (told empty) (told empty)
its_disk_is_left law program valid is_code =
    law program crossing 9 [] its_cores ports (terms_in (links_with crossed)) worker [] none_popped (told empty) (told empty) their_run valid is_code they_are_settled both_cores
    it_has_done_nothing nothing_was_taken it_has_served it_is_made
