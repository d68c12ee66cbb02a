-- Summaries of loads, written out, and what a load leaves alone: the library is not called, and no other words have this meaning.
-- The run of two.ac serves for that of a load, since a summary asks of a run no more than its status and what its cores have printed.
use Rattle.std.proofs.Common.{◌≡◌, refl, sym, ap, ◌∙◌, ℕ, List, [], ◌∷◌, codes, Option, Some, false, arith}
use Rattle.std.proofs.lemmas.Fmt.{decimal_digit}
use Rattle.ac_base.specs.declared.ends.EndWord.TheVariants.{Finished}
use Rattle.ac_base.specs.declared.ends.MachineEnd.{MachineEnd}
use Rattle.ac_outside.specs.Disks.{DiskTold}
use Rattle.ac_outside.specs.Told.{LibraryTold}
use Rattle.ac_file_server.specs.ServerText.{load_text}
use Rattle.program_run.specs.declared.ended.Ended.{Ended}
use Rattle.ac_words.specs.declared.task.Task.{Task}
use Rattle.ac_words.specs.declared.task.Task.TheVariants as t
use Rattle.ac_words.specs.declared.task.Telling.TheVariants as w
use Rattle.ac_words.specs.Words.{Does, Loads, StandsFor}
use Rattle.ac_words.proofs.Examples.{load_of_seven}
use Rattle.ac_program.specs.Summary.{outputs_of, clients_of, summary_line, summary_of}
use Rattle.ac_program.specs.Making.{Tells, IsDueOf}
use Rattle.ac_program.specs.Headline.{CallsFor, IsDue, IsCutShort, IsLoaded, summed, of_load, alone}
use Rattle.ac_program.specs.Headline.IsDue.{usage, call, audit, load}
use Rattle.ac_program.proofs.Calls.{calls_both}
use Rattle.ac_program.proofs.TwoRules.{two_tree}
use Rattle.ac_program.proofs.Examples.{no_disk, its_run, its_report, its_library, its_library_after}

-- ---- summaries

-- a core that printed this
abbrev printed : List ℕ → MachineEnd
printed output = record { core = record { word = Finished; steps = 1; output = output; globals = []; waiting = []; idle = false }; instructions = 9 }

-- the server, three clients, of which the second left its line open, and one core more
abbrev five : List MachineEnd
five = printed (codes "s\n") ∷ printed (codes "147\n") ∷ printed (codes "154") ∷ printed (codes "161\n") ∷ printed (codes "x\n") ∷ []

pub the_clients : clients_of five ≡ printed (codes "147\n") ∷ printed (codes "154") ∷ printed (codes "161\n") ∷ []
the_clients = refl

pub a_server_alone_has_none : clients_of (printed (codes "s\n") ∷ []) ≡ []
a_server_alone_has_none = refl

-- no line feed is added
pub what_they_printed : outputs_of (clients_of five) ≡ codes "147\n154161\n"
what_they_printed = refl

pub a_line : summary_line 7 6 ≡ codes "load 7 status 6\n"
a_line = rw (decimal_digit 7 (omega arith), decimal_digit 6 (omega arith)) refl

pub a_summary : summary_of 7 0 five ≡ codes "load 7 status 0\n147\n154161\n"
a_summary = rw (decimal_digit 7 (omega arith), decimal_digit 0 (omega arith)) refl

-- ---- what tells of a run

pub a_load_is_a_run : summed 7 100 ≡ t.Run 100 (w.Summary 7)
a_load_is_a_run = refl

-- the run of two.ac, which has one core
pub it_is_summed : Tells (w.Summary 7) two_tree its_run 0 (codes "load 7 status 0\n")
it_is_summed = (refl, sym (rw (decimal_digit 7 (omega arith), decimal_digit 0 (omega arith)) refl))

pub not_with_another_status : (text : List ℕ) → Tells (w.Summary 7) two_tree its_run 4 text → ⊥
not_with_another_status text h = let e : 4 ≡ 0 = h.0 in omega (arith, e)

abbrev first_of : List ℕ → ℕ
first_of [] = 0
first_of (x ∷ _) = x

pub not_by_its_report : Tells (w.Summary 7) two_tree its_run 0 its_report → ⊥
not_by_its_report h = let e : 97 ≡ 108 = ap first_of (h.1) in omega (arith, e)

-- ---- load 7

abbrev its_words : List (List ℕ)
its_words = codes "load" ∷ codes "7" ∷ []

-- what is due of the text of the file server is due of the call, and the library is left alone
pub it_is_due : (disk later : DiskTold) (status : ℕ) (text : List ℕ) (run : Option Ended) → IsDueOf (load_text 7) (summed 7 100000) disk later status text run
    → IsDue its_words its_library its_library disk later status text run
it_is_due disk later status text run due = load 7 100000 load_of_seven refl due

same_first : {v w : List ℕ} {vs rest : List (List ℕ)} → v ∷ vs ≡ w ∷ rest → v ≡ w
same_first e = cc

of_no_file : (name : List ℕ) (operands : List (List ℕ)) (given : Option ℕ) (task : Task) (file : List ℕ) → codes "load" ≡ name → StandsFor name operands given (Does task file) → ⊥
of_no_file name operands given (t.Run steps w.Report) file e h = let n : 108 ≡ 114 = ap first_of (e ∙ h.1.0) in omega (arith, n)
of_no_file name operands given (t.Run steps w.Trace) file e h = let n : 108 ≡ 116 = ap first_of (e ∙ h.1.0) in omega (arith, n)
of_no_file name operands given (t.Run steps (w.Summary turns)) file e h = h.1
of_no_file name operands given t.Check file e h = let n : 108 ≡ 99 = ap first_of (e ∙ h.1.0) in omega (arith, n)
of_no_file name operands given t.Code file e h = let n : 108 ≡ 99 = ap first_of (e ∙ h.1.0) in omega (arith, n)

once_is_not_never : {a b : LibraryTold} → a.opens ≡ Some 1 → b.opens ≡ Some 0 → a ≡ b → ⊥
once_is_not_never {a} {b} x y e = let same : a.opens ≡ b.opens = ap (λ (l : LibraryTold). l.opens) e in let z : ◌≡◌ {A = Option ℕ} (Some 1) (Some 0) = sym x ∙ same ∙ y in cc

pub not_where_a_file_was_opened : (disk later : DiskTold) (status : ℕ) (text : List ℕ) (run : Option Ended) → IsDue its_words its_library its_library_after disk later status text run → ⊥
not_where_a_file_was_opened disk later status text run (usage n x r none a e) = none (Loads 7 100000) load_of_seven
not_where_a_file_was_opened disk later status text run (call task file c due) = of_no_file c.name c.operands c.given task file (same_first c.command.form) c.stands
not_where_a_file_was_opened disk later status text run (audit file trace c r e due) =
    let n : 108 ≡ 97 = ap first_of (same_first c.command.form ∙ c.stands.1.0) in omega (arith, n)
not_where_a_file_was_opened disk later status text run (load turns steps c a due) = once_is_not_never refl refl a

pub nor_is_it_loaded_there : (status : ℕ) → IsLoaded 7 100000 its_library its_library_after no_disk status → ⊥
nor_is_it_loaded_there status h = once_is_not_never refl refl h.untouched

-- where its text calls for a status, that is the status of the load
pub it_is_loaded : (status : ℕ) → CallsFor (load_text 7) (summed 7 100000) no_disk status → IsLoaded 7 100000 its_library its_library no_disk status
it_is_loaded status calls = record {
  untouched = refl;
  calls = calls;
  only = λ knows. record { calls = calls; only = λ number other. calls_both (load_text 7) (summed 7 100000) no_disk knows status number calls other };
}

-- where memory was refused, the library is left alone too
pub it_is_cut_short : IsCutShort its_words its_library its_library no_disk no_disk
it_is_cut_short = of_load 7 100000 load_of_seven refl (alone refl)
