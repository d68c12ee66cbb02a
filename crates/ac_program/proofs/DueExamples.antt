-- What is not due of a file, of a source and of a program: beside each part of what a call may come to, a status, a text, a library or a
-- disk that it does not have. Each way to what is due is refused by its status, or by what it says of the library or of the disk.
use Rattle.std.proofs.Common.{◌≡◌, refl, sym, ap, ◌∙◌, subst, ℕ, zero, suc, ◌<◌, List, [], ◌∷◌, length, codes, Option, None, arith}
use Rattle.std.specs.Prelude.{slice_index_or}
use Rattle.std.proofs.lemmas.Fmt.{decimal_digit}
use Rattle.ac_outside.specs.Disks.{DiskTold, Held}
use Rattle.ac_outside.specs.Texts.{text_of}
use Rattle.ac_outside.proofs.Examples.{named}
use Rattle.program_run.specs.declared.ended.Ended.{Ended}
use Rattle.starting_files.specs.Starting.{bytes_at}
use Rattle.ac_words.specs.declared.task.Task.{Task}
use Rattle.ac_words.specs.declared.task.Task.TheVariants as t
use Rattle.ac_words.specs.declared.task.Telling.TheVariants as tell
use Rattle.program_reading.specs.declared.refusal.Refusal.TheVariants as r
use Rattle.program_reading.specs.Lines.{disk_line, library_line}
use Rattle.ac_program.specs.Making.{IsDueOf, IsDueOfProgram}
use Rattle.ac_program.specs.Making.IsDueOf.{refused, ready}
use Rattle.ac_program.specs.Making.IsDueOfProgram.{disk_fault, long_file, made}
use Rattle.ac_program.specs.Headline.{HasLong, IsDueOfFile}
use Rattle.ac_program.specs.Headline.IsDueOfFile.{library_fault, too_long, source}
use Rattle.ac_program.proofs.Reasons.{has_long}
use Rattle.program_reading.proofs.Refusals.{refused_not, some_status}
use Rattle.ac_program.proofs.Statuses.{made_status, not_above, not_made, of_cores, of_refusal, seven}
use Rattle.ac_program.proofs.Examples.{it_has_a_fault, its_fault_refuses_it, its_library, its_library_after, its_report, no_disk, not_opened}
use Rattle.ac_program.proofs.FileExamples.{a_disk, filing_tree, its_disk, nothing_stops_it}

-- ---- of a file

-- no report of two.ac where it was not opened
pub no_report_without_the_file : (run : Option Ended)
    → IsDueOfFile (codes "two.ac") (t.Run 100 tell.Report) its_library not_opened no_disk no_disk 0 its_report run → ⊥
no_report_without_the_file run (library_fault n x r j e a) = omega (arith, n)
no_report_without_the_file run (too_long n x r w took a) = omega (arith, n)
no_report_without_the_file run (source bytes w g s due) = let none : 1 ≡ 0 = w.read.well in omega (arith, none)

-- no source and no program has the status of a library that failed
no_seven : (bytes : List ℕ) (task : Task) (disk later : DiskTold) (text : List ℕ) (run : Option Ended) → IsDueOf bytes task disk later 7 text run → ⊥
no_seven bytes task disk later text run (refused refusal n x r h a) = seven _ (of_refusal refusal) (sym n)
no_seven bytes task disk later text run (ready p k (disk_fault n x r h)) = omega (arith, n)
no_seven bytes task disk later text run (ready p k (long_file file n x r h)) = omega (arith, n)
no_seven bytes task disk later text run (ready p k (made done n x r d)) = not_made 7 7 (made_status task p disk later 7 done n d) refl (omega arith) (omega arith)

-- so there is no library fault where the whole text was read
pub no_library_fault_is_due : (run : Option Ended)
    → IsDueOfFile (codes "two.ac") (t.Run 100 tell.Report) its_library its_library_after no_disk no_disk 7 library_line run → ⊥
no_library_fault_is_due run (library_fault n x r j e a) = omega (arith, e)
no_library_fault_is_due run (too_long n x r w took a) = omega (arith, n)
no_library_fault_is_due run (source bytes w g s due) = no_seven bytes (t.Run 100 tell.Report) no_disk no_disk library_line run due

-- ---- of a source

-- 007 is refused for its fault
pub a_fault_is_due : IsDueOf (codes "007") (t.Run 100 tell.Report) no_disk no_disk 2 (codes "bad byte at 1\n") None
a_fault_is_due = refused (r.BadByte 1) refl (sym (rw (decimal_digit 1 (omega arith)) refl)) refl its_fault_refuses_it refl

-- so no run of it is told
pub no_report_of_it : (later : DiskTold) (text : List ℕ) (run : Option Ended) → IsDueOf (codes "007") (t.Run 100 tell.Report) no_disk later 0 text run → ⊥
no_report_of_it later text run (refused refusal n x r h a) = omega (arith, some_status refusal, n)
no_report_of_it later text run (ready p k due) = refused_not (codes "007") (t.Run 100 tell.Report) (omega arith) (r.BadByte 1) p it_has_a_fault k

-- and no file is bound for it
pub no_file_is_bound_for_it : (status : ℕ) (text : List ℕ) (run : Option Ended) → IsDueOf (codes "007") (t.Run 100 tell.Report) a_disk its_disk status text run → ⊥
no_file_is_bound_for_it status text run (refused refusal n x r h a) = let one : 1 ≡ 0 = ap (λ (told : DiskTold). told.bound) a in omega (arith, one)
no_file_is_bound_for_it status text run (ready p k due) = refused_not (codes "007") (t.Run 100 tell.Report) (omega arith) (r.BadByte 1) p it_has_a_fault k

-- ---- of a program

-- no disk fault where no call of the disk failed
pub no_disk_fault_is_due : (run : Option Ended) → IsDueOfProgram (t.Run 100 tell.Report) filing_tree a_disk a_disk 9 disk_line run → ⊥
no_disk_fault_is_due run (disk_fault n x r h) = nothing_stops_it h
no_disk_fault_is_due run (long_file file n x r h) = omega (arith, n)
no_disk_fault_is_due run (made done n x r d) =
    not_made 9 9 (made_status (t.Run 100 tell.Report) filing_tree a_disk a_disk 9 done n d) refl (omega arith) (omega arith)

-- a file of two bytes is not too long
abbrev its_shelf : Held
its_shelf = record { files = []; found = text_of (named (codes "x") (codes "ab") ∷ []); calls = 0 }

pub no_file_is_long : HasLong a_disk (codes "x" ∷ []) → ⊥
no_file_is_long h = by h.path h.is_one.0 h.is_one.1 h.is_one.2 h.over where
  by : (path : List ℕ) (k : ℕ) → k < 1 → slice_index_or (codes "x" ∷ []) k path ≡ path → 1048576 < length (bytes_at its_shelf path) → ⊥
  by path zero less same over =
      let long : 1048576 < length (bytes_at its_shelf (codes "x")) = subst (λ (it : List ℕ). 1048576 < length (bytes_at its_shelf it)) (sym same) over in
      omega (arith, long)
  by path (suc k) less same over = omega (arith, less)

-- so no limit is told
pub no_limit_is_due : (later : DiskTold) (text : List ℕ) (run : Option Ended) → IsDueOfProgram (t.Run 100 tell.Report) filing_tree a_disk later 10 text run → ⊥
no_limit_is_due later text run (disk_fault n x r h) = omega (arith, n)
no_limit_is_due later text run (long_file file n x r h) = no_file_is_long (has_long (codes "x" ∷ []) file a_disk later h)
no_limit_is_due later text run (made done n x r d) = not_above _ 10 (of_cores d.ended.cores) (sym (n ∙ d.tells.0)) (omega arith)
