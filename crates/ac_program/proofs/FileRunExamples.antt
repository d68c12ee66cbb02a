-- A run over a disk that tells its files, from the file that is started to the report and the trace. The core of the program uses its file
-- nowhere, so the run is short, but it begins with the bytes that the disk holds, leaves them there, and is decided by them.
use Rattle.std.proofs.Common.{◌≡◌, refl, sym, ap, subst, ℕ, zero, suc, ◌<◌, ◌≤◌, List, [], ◌∷◌, length, codes, Option, None, Some, true, false, inl, inr, ◌⊎◌, arith}
use Rattle.std.specs.Prelude.{slice_get, slice_index_or, IfSome}
use Rattle.std.proofs.lemmas.Fmt.{decimal_digit}
use Rattle.std.proofs.lemmas.List.Elements.{All-from_recursion}
use Rattle.ac_base.specs.Report.{report_of}
use Rattle.ac_base.specs.declared.ends.CoreEnd.{CoreEnd}
use Rattle.ac_base.specs.declared.ends.EndWord.TheVariants.{Finished}
use Rattle.ac_base.specs.declared.ends.MachineEnd.{MachineEnd}
use Rattle.ac_commands.specs.declared.program.Function.{Function}
use Rattle.ac_history.specs.Files.{Deed}
use Rattle.ac_history.specs.History.{link_at}
use Rattle.ac_history.specs.Quiet.{CoreIsQuiet}
use Rattle.ac_links.specs.AtRest.{has_front}
use Rattle.ac_outside.specs.Disks.{Held}
use Rattle.ac_outside.specs.Texts.{text_of}
use Rattle.ac_outside.proofs.Examples.{named}
use Rattle.ac_resolve.specs.Resolution.{resolved}
use Rattle.ac_translation.specs.Translation.{code_of}
use Rattle.core_state.specs.Shared.{core_end}
use Rattle.program_run.specs.declared.ended.Ended.{Ended}
use Rattle.file_ops.specs.Counting.{raised, failures_among}
use Rattle.program_run.specs.DiskLeft.{deeds_of, LeavesFiles, LeavesDisk}
use Rattle.program_run.specs.Naming.{AreNamed}
use Rattle.program_run.specs.Parties.{owner_of, peer_of}
use Rattle.program_run.specs.Run.{nothing_yet, IsCoreRun, IsRunOf}
use Rattle.stack_code.specs.declared.parts.Entered.{Entered}
use Rattle.starting_files.specs.Starting.{bytes_at}
use Rattle.trace_audit.specs.Laws.{trace_of}
use Rattle.trace_audit.specs.RunTrace.{IsRunTrace}
use Rattle.ac_words.specs.declared.task.Task.TheVariants as t
use Rattle.ac_words.specs.declared.task.Telling.TheVariants as tell
use Rattle.ac_program.specs.declared.execute.Done.{Done}
use Rattle.ac_program.specs.Headline.{AreOfRuns, AreShort, CallsFor, HasRun, IsCalledFor, KnowsFiles, made}
use Rattle.ac_program.specs.Making.{IsDueOf, IsReported, made as is_made, ready}
use Rattle.ac_program.proofs.Calls.{calls_both}
use Rattle.program_reading.specs.Source.{names_of}
use Rattle.ac_program.proofs.Statuses.{apart_made, not_made, told_status}
use Rattle.ac_program.proofs.Examples.{journal}
use Rattle.ac_program.proofs.FileExamples.{a_disk, a_file_is_ready, filing_text, filing_tree, its_disk, its_file_is_started, its_files}

-- ---- its core ends at once

abbrev pub its_end : MachineEnd
its_end = record { core = core_end Finished false [] [] (record { steps = 0; turn = 1; output = []; past = []; todo = []; requests = 0 }); instructions = 2 }

abbrev pub its_run : Ended
its_run = record { steps = 100; start = codes "ab" ∷ []; journals = journal [] ∷ journal [] ∷ []; cores = its_end ∷ [] }

abbrev f : Function
f = record { name = codes "f"; is_async = true; gives_int = false; params = []; slots = 0; body = [] }

abbrev e : Entered
e = record { name = codes "f"; at = 0; params = []; words = 0 }

pub its_core_runs : IsCoreRun (resolved filing_tree) 0 100 (journal []) its_end
its_core_runs = record {
  code = record { function = e; begins = record { entry = 0; entry_is = refl; function_is = refl }; comes = (9, refl) };
  source = record { function = f; enters = record { here = record { name = codes "a"; entry = 0 }; core_is = refl; function_is = refl }; ends = (9, refl) };
}

abbrev owner : ℕ → ℕ
owner = owner_of (code_of (resolved filing_tree)).ends

abbrev peer : ℕ → ℕ
peer = peer_of (code_of (resolved filing_tree)).ends 1

finished : CoreIsQuiet owner peer (nothing_yet (resolved filing_tree)) 0 its_end.core
finished = record {
  stopped = refl;
  owns = λ idle. let no : false ≡ true = idle in cc;
  decides = λ idle. let no : false ≡ true = idle in cc;
}

each_core : (k : ℕ) (end : CoreEnd) → slice_get (its_end.core ∷ []) k ≡ Some end → CoreIsQuiet owner peer (nothing_yet (resolved filing_tree)) k end
each_core zero end h = let same : its_end.core ≡ end = cc in subst (CoreIsQuiet owner peer (nothing_yet (resolved filing_tree)) 0) same finished
each_core (suc k) end h = let no : ◌≡◌ {A = Option CoreEnd} None (Some end) = h in cc

nothing_offered : (l : ℕ) → l < 1 → 0 ≤ l → has_front (link_at (nothing_yet (resolved filing_tree)) l) ≡ false
nothing_offered zero lt le = refl
nothing_offered (suc l) lt le = refl

pub it_is_a_run : IsRunOf (resolved filing_tree) 100 (codes "ab" ∷ []) its_run
it_is_a_run = record {
  steps = refl;
  files = refl;
  every_core = refl;
  cores = (its_core_runs, refl);
  in_order = (tt, (tt, tt));
  legal = tt;
  quiet = record { core = each_core; worker = nothing_offered };
}

-- ---- a run that the disk has

pub its_run_gives_0 : HasRun filing_tree 100 tell.Report a_disk 0
its_run_gives_0 = record {
  start = codes "ab" ∷ [];
  each_file = refl;
  are_held = refl;
  ended = its_run;
  is_run = it_is_a_run;
  are_served = tt;
  line = _;
  tells = (refl, refl);
}

-- its report tells no other status, whatever the disk holds
pub no_run_gives_9 : HasRun filing_tree 100 tell.Report a_disk 9 → ⊥
no_run_gives_9 h = not_made 9 9 (told_status tell.Report filing_tree h.ended 9 h.line h.tells) refl (omega arith) (omega arith)

-- nor is it a run from other bytes
pub not_from_other_bytes : IsRunOf (resolved filing_tree) 100 (codes "a" ∷ []) its_run → ⊥
not_from_other_bytes h = let n : 2 ≡ 1 = ap (λ (start : List (List ℕ)). length (slice_index_or start 0 [])) h.files in omega (arith, n)

pub its_statuses : AreOfRuns filing_text (t.Run 100 tell.Report) a_disk 0 0
its_statuses = record {
  steps = 100;
  telling = tell.Report;
  program = filing_tree;
  is_run = refl;
  is_ready = a_file_is_ready;
  meets = omega arith;
  one = its_run_gives_0;
  other = its_run_gives_0;
}

-- ---- what its text calls for there

-- the disk, of which nothing is bound yet
abbrev its_shelf : Held
its_shelf = record { files = []; found = text_of (named (codes "x") (codes "ab") ∷ []); calls = 0 }

two_bytes : 2 ≤ 1048576
two_bytes = omega arith

its_file_is_short : AreShort a_disk (codes "x" ∷ [])
its_file_is_short = All-from_recursion (λ (path : List ℕ). length (bytes_at its_shelf path) ≤ 1048576) (codes "x" ∷ []) (two_bytes, tt)

pub its_status_is_called_for : CallsFor filing_text (t.Run 100 tell.Report) a_disk 0
its_status_is_called_for = made filing_tree (omega arith) a_file_is_ready its_file_is_short its_run_gives_0

pub its_files_are_known : KnowsFiles filing_text (t.Run 100 tell.Report) a_disk
its_files_are_known program k some = refl

pub it_is_called_for : IsCalledFor filing_text (t.Run 100 tell.Report) a_disk 0
it_is_called_for = record {
  calls = its_status_is_called_for;
  only = λ number h. calls_both filing_text (t.Run 100 tell.Report) a_disk its_files_are_known 0 number its_status_is_called_for h;
}

-- that of a broken rule is of none of its runs
pub it_calls_for_no_other : CallsFor filing_text (t.Run 100 tell.Report) a_disk 3 → ⊥
it_calls_for_no_other h = other (it_is_called_for.only 3 h) where
  other : (◌≡◌ {A = ℕ} 3 0) ⊎ AreOfRuns filing_text (t.Run 100 tell.Report) a_disk 0 3 → ⊥
  other (inl e) = omega (arith, e)
  other (inr r) = apart_made 3 (inr (inl refl)) (λ e. omega (arith, e)) (told_status r.telling r.program r.other.ended 3 r.other.line r.other.tells)

-- ---- all that is made of it

abbrev pub its_report : List ℕ
its_report = codes "a: finished after 0 steps, 2 instructions\n"

pub it_is_reported : report_of (names_of filing_tree) its_run.cores ≡ its_report
it_is_reported = rw (decimal_digit 0 (omega arith), decimal_digit 2 (omega arith)) refl

nothing_done : deeds_of (resolved filing_tree) its_run.journals ≡ []
nothing_done = refl

-- the disk is as it was when the file had been read
pub its_disk_is_left : LeavesDisk (resolved filing_tree) (codes "ab" ∷ []) its_run.journals its_disk its_disk
its_disk_is_left = record {
  counted = record { calls = refl; failures = subst (λ (ds : List Deed). raised 0 (failures_among 1 ds) ≤ 0) (sym nothing_done) (omega arith); none = λ e. refl };
  held = (its_files, refl, record { served = tt; files = refl; as_many = refl; paths = refl; others = refl });
}

pub its_trace_is_a_run : IsRunTrace (resolved filing_tree) (trace_of its_run)
its_trace_is_a_run = record {
  entries = tt;
  end = record {
    files = refl;
    short = All-from_recursion (λ (bytes : List ℕ). length bytes ≤ 1048576) (codes "ab" ∷ []) (two_bytes, tt);
    every_core = refl;
    ends = its_end.core ∷ [];
    told = (record { replays = its_core_runs.source; word = refl; steps = refl; output = refl }, tt);
    quiet = it_is_a_run.quiet;
  };
}

abbrev pub its_doing : Done
its_doing = record { run = Some its_run; text = its_report; status = record { number = 0 } }

pub its_reporting : IsReported filing_tree 100 tell.Report a_disk its_disk its_doing
its_reporting = record {
  start = codes "ab" ∷ [];
  between = its_disk;
  files = its_file_is_started;
  ended = its_run;
  kept = refl;
  is_run = it_is_a_run;
  left = its_disk_is_left;
  named = subst (λ (ds : List Deed). AreNamed 1 ds) (sym nothing_done) tt;
  tells = (refl, sym it_is_reported);
  is_traced = its_trace_is_a_run;
}

pub it_is_done : IsDueOf filing_text (t.Run 100 tell.Report) a_disk its_disk 0 its_report (Some its_run)
it_is_done = ready filing_tree a_file_is_ready (is_made its_doing refl refl refl its_reporting)

-- but not on a disk that was left alone, where its file was to be bound
abbrev how_many : Option Held → ℕ
how_many None = 0
how_many (Some held) = length held.files

pub not_where_nothing_was_bound : (done : Done) → IsReported filing_tree 100 tell.Report a_disk a_disk done → ⊥
not_where_nothing_was_bound done h =
    let left = subst (λ (it : Option Held). IfSome it (λ g. (last : Held) × (a_disk.held ≡ Some last) × LeavesFiles (resolved filing_tree) h.start h.ended.journals g last))
    h.files.told.1 h.left.held in
    let none : 0 ≡ length left.0.files = ap how_many left.1 in
    let one : length left.0.files ≡ 1 = left.2.as_many in
    omega (arith, none, one)
