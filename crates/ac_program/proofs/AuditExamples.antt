-- The trace of two.ac, as it is written, read back and audited, and what each part of an audit comes to. Its text is read by computing;
-- beside each part stands what is not due, as a trace that is opened though its program is refused.
use Rattle.std.proofs.Common.{◌≡◌, ◌-◌, ◌*◌, inl, inr, refl, sym, ap, ◌∙◌, subst, append-nil, ℕ, List, [], ◌∷◌, ◌++◌, length, codes, Option, None, Some, Ok, false, arith}
use Rattle.std.proofs.lemmas.List.Elements.{All-nil}
use Rattle.std.proofs.lemmas.Fmt.{decimal_digit}
use Rattle.ac_base.specs.declared.entry.Stamped.{Stamped}
use Rattle.ac_lexer.proofs.Examples.{two_text}
use Rattle.ac_resolve.specs.Resolution.{resolved}
use Rattle.ac_outside.specs.Disks.{DiskTold}
use Rattle.ac_outside.specs.Told.{LibraryTold, CountsOne, one_more}
use Rattle.program_run.specs.declared.ended.Ended.{Ended}
use Rattle.trace_text.specs.Spelling.{IsTheTrace, IsFirstWrong}
use Rattle.trace_text.specs.inner.Reading.{read_text, read_lines, after_line, entry_at, number_at, numbered_at, end_at, end_word_at, bytes_to_end}
use Rattle.trace_text.proofs.Whole.{the_trace, read_stops}
use Rattle.trace_audit.specs.declared.verdict.Verdict.TheVariants.{Yes, NoAt, NoAtEnd}
use Rattle.trace_audit.specs.RunTrace.{IsRunTrace}
use Rattle.trace_audit.specs.Laws.{trace_of}
use Rattle.ac_words.specs.declared.task.Task.{Task}
use Rattle.ac_words.specs.declared.task.Task.TheVariants as t
use Rattle.ac_words.specs.declared.task.Telling.TheVariants as tell
use Rattle.ac_words.specs.Words.{Does, Audits, StandsFor, IsCall, no_more, operand}
use Rattle.program_reading.specs.declared.refusal.Refusal.TheVariants as r
use Rattle.program_reading.specs.Source.{IsReady}
use Rattle.program_reading.specs.Reading.{IsRead, IsReadWhole}
use Rattle.program_reading.specs.Lines.{library_line, limit_source_line, limit_trace_line, limit_steps_line, trace_fault_line}
use Rattle.ac_program.specs.Lines.{verdict_line, verdict_status}
use Rattle.ac_program.specs.Making.{TellsTrace, Tells, whole, long_trace}
use Rattle.program_reading.specs.Files.{AreRead, IsTraceRead, first, both}
use Rattle.ac_program.specs.Auditing.{IsDueOfRun, IsDueOfTraced, IsDueOfTrace, IsDueOfSource, IsDueOfAudit, AuditCallsFor, IsJudged}
use Rattle.ac_program.specs.Auditing.IsDueOfRun.{too_many, judged}
use Rattle.ac_program.specs.Auditing.IsDueOfTraced.{wrong, spelled}
use Rattle.ac_program.specs.Auditing.IsDueOfTrace.{library_fault as trace_fault, too_long as trace_too_long, read}
use Rattle.ac_program.specs.Auditing.IsDueOfSource.{refused, ready}
use Rattle.ac_program.specs.Auditing.IsDueOfAudit.{library_fault as file_fault, too_long as file_too_long, source}
use Rattle.ac_program.specs.Auditing.AuditCallsFor.{over_long, refused as calls_refused, long_trace as calls_long, told}
use Rattle.ac_program.specs.Headline.{IsCutShort, IsDue, of_task, of_audit, of_load, IsOfCores, ReadsBack}
use Rattle.ac_program.specs.Headline.IsDue.{usage, call, audit, load}
use Rattle.ac_program.proofs.AuditConsequences.{AreARun, only_yes}
use Rattle.ac_program.proofs.Judging.{one_status}
use Rattle.program_reading.proofs.Refusals.{refused_not, some_status}
use Rattle.ac_program.proofs.Statuses.{not_above}
use Rattle.ac_program.proofs.TwoRules.{two_tree, two_is_clean}
use Rattle.ac_program.proofs.Examples.{no_disk, its_end, its_run, it_is_a_run, it_is_spelled, its_sink, sink_with, it_has_a_fault}
use Rattle.ac_program.proofs.FileExamples.{a_disk, its_disk}

-- ---- its trace

abbrev pub its_text : List ℕ
its_text = codes "ac-trace 1\nsteps 100\nend 0 finished 1 370a\n"

its_text_is_read : read_text its_text ≡ Ok (trace_of its_run)
unfolding read_lines after_line entry_at number_at numbered_at end_at end_word_at bytes_to_end
its_text_is_read = refl

pub its_text_spells_it : IsTheTrace its_text (trace_of its_run)
its_text_spells_it = the_trace its_text (trace_of its_run) its_text_is_read

pub its_trace_is_a_run : IsRunTrace (resolved two_tree) (trace_of its_run)
its_trace_is_a_run = record {
  entries = tt;
  end = record {
    files = refl;
    short = All-nil _;
    every_core = refl;
    ends = its_end ∷ [];
    told = (record { replays = it_is_a_run.cores.0.source; word = refl; steps = refl; output = refl }, tt);
    quiet = it_is_a_run.quiet;
  };
}

pub it_is_told_whole : TellsTrace its_run 0 its_text
it_is_told_whole = whole refl its_text_spells_it (omega arith)

-- a trace is never told by the report
pub not_by_its_report : Tells tell.Trace two_tree its_run 0 (codes "a: finished after 1 steps, 9 instructions\n7\n") → ⊥
not_by_its_report (whole e s l) =
    let long : 44 ≡ 43 = ap (λ (text : List ℕ). length text) (s.spells.is_text ∙ sym its_text_spells_it.spells.is_text) in omega (arith, long)
not_by_its_report (long_trace e x o) = omega (arith, e)

-- nor is one that is short too long
pub it_is_not_too_long : (text : List ℕ) → TellsTrace its_run 10 text → ⊥
it_is_not_too_long text (whole e s l) = omega (arith, e)
it_is_not_too_long text (long_trace e x o) =
    let n = ap (λ (t : List ℕ). length t) its_text_spells_it.spells.is_text in omega (arith, o, n)

pub the_limit_of_a_trace : limit_trace_line ∷ limit_steps_line ∷ [] ≡ codes "limit: trace\n" ∷ codes "limit: steps\n" ∷ []
the_limit_of_a_trace = refl

-- ac trace two.ac --steps=100 is read back
its_ready : IsReady two_text (t.Run 100 tell.Trace) two_tree
its_ready = record { is_accepted = record { spelled = it_is_spelled; clean = two_is_clean }; within = omega arith }

pub it_reads_back : ReadsBack (Some two_text) (t.Run 100 tell.Trace) (Some its_run) its_sink (sink_with its_text 0)
it_reads_back = record {
  source = two_text;
  program = two_tree;
  gave = refl;
  is_ready = its_ready;
  ended = its_run;
  kept = refl;
  text = its_text;
  taken = refl;
  spells = its_text_spells_it;
  is_run = its_trace_is_a_run;
}

-- and nothing is where no run is kept
pub nothing_reads_back : ReadsBack (Some two_text) (t.Run 100 tell.Trace) None its_sink (sink_with its_text 0) → ⊥
nothing_reads_back h = let e = h.kept in cc

pub statuses_of_cores : IsOfCores 5 × (IsOfCores 10 → ⊥)
statuses_of_cores = (inr (inr (inl refl)), λ h. not_above 10 10 h refl (omega arith))

-- ---- lines and statuses of audits

pub the_lines_of_verdicts : verdict_line Yes ∷ verdict_line (NoAt 7) ∷ verdict_line NoAtEnd ∷ trace_fault_line 4 ∷ []
    ≡ codes "yes\n" ∷ codes "no at 7\n" ∷ codes "no at end\n" ∷ codes "trace fault at line 4\n" ∷ []
the_lines_of_verdicts = rw (decimal_digit 7 (omega arith), decimal_digit 4 (omega arith)) refl

pub the_statuses_of_verdicts : verdict_status Yes ∷ verdict_status (NoAt 7) ∷ verdict_status NoAtEnd ∷ [] ≡ 0 ∷ 13 ∷ 13 ∷ []
the_statuses_of_verdicts = refl

-- ---- its audit

pub yes_is_due : IsDueOfRun two_tree (trace_of its_run) 0 (codes "yes\n")
yes_is_due = judged Yes refl refl (omega arith) its_trace_is_a_run

-- with more steps than one core may go
pub too_many_are_due : IsDueOfRun two_tree (record (trace_of its_run) { steps = 4000001 }) 10 (codes "limit: steps\n")
too_many_are_due = too_many refl refl (omega arith)

pub no_is_not_due : IsDueOfRun two_tree (trace_of its_run) 13 (codes "no at end\n") → ⊥
no_is_not_due (too_many e x o) = omega (arith, e)
no_is_not_due (judged Yes e x w j) = omega (arith, e)
no_is_not_due (judged (NoAt entry) e x w j) = none j.before j.misfit j.others j.form where
  none : (before : List Stamped) (s : Stamped) (others : List Stamped) → [] ≡ before ++ s ∷ others → ⊥
  none [] s others e = cc
  none (b ∷ before) s others e = cc
no_is_not_due (judged NoAtEnd e x w j) = j.1 its_trace_is_a_run.end

pub yes_is_due_of_its_text : IsDueOfTraced two_tree its_text 0 (codes "yes\n")
yes_is_due_of_its_text = spelled (trace_of its_run) its_text_spells_it yes_is_due

-- an empty text has no first line
its_first_line : IsFirstWrong [] 1
unfolding read_lines
its_first_line = read_stops [] 1 refl

pub an_empty_text_is_wrong : IsDueOfTraced two_tree [] 14 (codes "trace fault at line 1\n")
an_empty_text_is_wrong = wrong 1 refl (sym (rw (decimal_digit 1 (omega arith)) refl)) its_first_line

pub it_is_not_yes : IsDueOfTraced two_tree [] 0 (codes "yes\n") → ⊥
it_is_not_yes (wrong line e x f) = omega (arith, e)
it_is_not_yes (spelled trace s d) = its_first_line.no_trace trace s.spells

-- ---- from its files: a library that tells both, of which nothing was opened, then the first, then both

abbrev text_of : List ℕ → Option (List ℕ)
text_of [] = Some two_text
text_of (x ∷ name) = Some its_text

-- the program under the empty name, the trace under every other
abbrev pub before_it : LibraryTold
before_it = record { text_at = text_of; is_open = false; left = Some []; opens = Some 0; reads = Some 0; names = Some []; faults = 0 }

abbrev pub between_them : LibraryTold
between_them = record before_it { opens = Some 1; reads = Some 2; names = Some ([] ∷ []) }

abbrev pub behind_it : LibraryTold
behind_it = record before_it { opens = Some 2; reads = Some 4; names = Some ([] ∷ codes "t" ∷ []) }

its_first_reading : IsRead before_it between_them []
its_first_reading = record {
  just = record { once = refl; named = refl };
  well = refl;
  reads = record { taken = two_text; consumed = sym (append-nil two_text); few = omega arith };
}

its_program_is_read : IsReadWhole before_it between_them [] two_text
its_program_is_read = record { read = its_first_reading; few = omega arith }

its_second_reading : IsRead between_them behind_it (codes "t")
its_second_reading = record {
  just = record { once = refl; named = refl };
  well = refl;
  reads = record { taken = its_text; consumed = sym (append-nil its_text); few = omega arith };
}

its_trace_is_read : IsReadWhole between_them behind_it (codes "t") its_text
its_trace_is_read = record { read = its_second_reading; few = omega arith }

-- the trace is not opened, or the program is not
abbrev failing : ℕ → List (List ℕ) → LibraryTold
failing opens names = record before_it { opens = Some opens; reads = Some (2 * (opens - 1)); names = Some names; faults = 1 }

pub a_fault_at_the_trace_is_due : IsDueOfTrace two_tree (codes "t") between_them (failing 2 ([] ∷ codes "t" ∷ [])) 7 library_line
a_fault_at_the_trace_is_due = trace_fault refl refl (record { just = record { once = refl; named = refl }; reads = inl refl }) (omega arith)

pub a_fault_at_the_program_is_due : IsDueOfAudit [] (codes "t") before_it (failing 1 ([] ∷ [])) 7 library_line
a_fault_at_the_program_is_due = file_fault refl refl (record { just = record { once = refl; named = refl }; reads = inl refl }) (omega arith)

-- a trace has one byte too many
abbrev long_before : List ℕ → LibraryTold
long_before bytes = record between_them { text_at = λ name. Some bytes }

abbrev long_after : List ℕ → LibraryTold
long_after bytes = record behind_it { text_at = λ name. Some bytes }

pub a_long_trace_is_due : (bytes : List ℕ) → length bytes ≡ 268435457 → IsDueOfTrace two_tree (codes "t") (long_before bytes) (long_after bytes) 10 limit_trace_line
a_long_trace_is_due bytes e = trace_too_long refl refl
    (record { just = record { once = refl; named = refl }; well = refl; reads = record { taken = bytes; consumed = sym (append-nil bytes); few = omega (arith, e) } })
    (record { taken = bytes; count = omega (arith, e); consumed = sym (append-nil bytes) })

its_check_is_ready : IsReady two_text t.Check two_tree
its_check_is_ready = record { is_accepted = record { spelled = it_is_spelled; clean = two_is_clean }; within = omega arith }

pub its_trace_is_opened : IsTraceRead two_text (codes "t") between_them behind_it
its_trace_is_opened = record { program = two_tree; is_ready = its_check_is_ready; read = its_second_reading }

pub both_are_read : AreRead [] (codes "t") before_it behind_it
both_are_read = both two_text between_them its_program_is_read refl (omega arith) its_trace_is_opened

-- or the program alone, where memory is refused before the trace is opened
pub the_first_is_read : AreRead [] (codes "t") before_it between_them
the_first_is_read = first its_first_reading

pub none_is_not_both : AreRead [] (codes "t") before_it before_it → ⊥
none_is_not_both (first h) = let e = h.just.once in omega (arith, e)
none_is_not_both (both bytes between h g s k) = two between.opens h.read.just.once k.read.just.once where
  two : (opens : Option ℕ) → CountsOne (Some 0) opens → CountsOne opens (Some 0) → ⊥
  two None a b = a
  two (Some n) a b = let e : 0 ≡ one_more 1 = subst (λ m. 0 ≡ one_more m) a b in omega (arith, e)

-- where the first has a bad byte, the second is not opened
abbrev refused_text : List ℕ → Option (List ℕ)
refused_text [] = Some (codes "007")
refused_text (x ∷ name) = Some its_text

pub no_trace_is_opened : IsTraceRead (codes "007") (codes "t") between_them behind_it → ⊥
no_trace_is_opened k = refused_not (codes "007") t.Check (omega arith) (r.BadByte 1) k.program it_has_a_fault k.is_ready

pub nor_is_it_read : AreRead [] (codes "t") (record before_it { text_at = refused_text }) (record behind_it { text_at = refused_text }) → ⊥
nor_is_it_read (first h) = let e = h.just.once in omega (arith, e)
nor_is_it_read (both bytes between h g s k) =
    refused_not (codes "007") t.Check (omega arith) (r.BadByte 1) k.program it_has_a_fault (subst (λ (it : List ℕ). IsReady it t.Check k.program) g k.is_ready)

pub yes_is_due_of_its_trace : IsDueOfTrace two_tree (codes "t") between_them behind_it 0 (codes "yes\n")
yes_is_due_of_its_trace = read its_text its_trace_is_read refl (omega arith) yes_is_due_of_its_text

pub yes_is_due_of_its_source : IsDueOfSource two_text (codes "t") between_them behind_it 0 (codes "yes\n")
yes_is_due_of_its_source = ready two_tree its_check_is_ready yes_is_due_of_its_trace

-- what refuses a check refuses the audit, and no trace is opened
pub a_fault_is_due : IsDueOfSource (codes "007") (codes "t") between_them between_them 2 (codes "bad byte at 1\n")
a_fault_is_due = refused (r.BadByte 1) refl (sym (rw (decimal_digit 1 (omega arith)) refl)) it_has_a_fault refl

pub yes_is_due_of_its_files : IsDueOfAudit [] (codes "t") before_it behind_it 0 (codes "yes\n")
yes_is_due_of_its_files = source two_text between_them its_program_is_read refl (omega arith) refl yes_is_due_of_its_source

-- a program has one byte too many
pub a_long_program_is_due : (bytes : List ℕ) → length bytes ≡ 1048577
    → IsDueOfAudit [] (codes "t") (record before_it { text_at = λ name. Some bytes }) (record between_them { text_at = λ name. Some bytes; reads = Some 257 }) 10 limit_source_line
a_long_program_is_due bytes e = file_too_long refl refl
    (record { just = record { once = refl; named = refl }; well = refl; reads = record { taken = bytes; consumed = sym (append-nil bytes); few = omega (arith, e) } })
    (record { taken = bytes; count = omega (arith, e); consumed = sym (append-nil bytes) })

-- no verdict is due where the trace was not opened
pub no_verdict_without_the_trace : IsDueOfTrace two_tree (codes "t") between_them (failing 2 ([] ∷ codes "t" ∷ [])) 0 (codes "yes\n") → ⊥
no_verdict_without_the_trace (trace_fault n x j e) = omega (arith, n)
no_verdict_without_the_trace (trace_too_long n x w took) = omega (arith, n)
no_verdict_without_the_trace (read traced w g s d) = let none : 1 ≡ 0 = w.read.well in omega (arith, none)

-- nor on a source that a check refuses, whose trace is not opened
pub no_verdict_on_a_fault : IsDueOfSource (codes "007") (codes "t") between_them behind_it 0 (codes "yes\n") → ⊥
no_verdict_on_a_fault (refused refusal n x h a) = omega (arith, some_status refusal, n)
no_verdict_on_a_fault (ready p k d) = refused_not (codes "007") t.Check (omega arith) (r.BadByte 1) p it_has_a_fault k

abbrev count_of : Option ℕ → ℕ
count_of None = 0
count_of (Some n) = n

pub its_trace_is_left_alone : (text : List ℕ) → IsDueOfSource (codes "007") (codes "t") between_them behind_it 2 text → ⊥
its_trace_is_left_alone text (refused refusal n x h a) = let two : 2 ≡ 1 = ap (λ (told : LibraryTold). count_of told.opens) a in omega (arith, two)
its_trace_is_left_alone text (ready p k d) = refused_not (codes "007") t.Check (omega arith) (r.BadByte 1) p it_has_a_fault k

-- nor where the program was not opened
pub no_verdict_without_the_program : IsDueOfAudit [] (codes "t") before_it (failing 1 ([] ∷ [])) 0 (codes "yes\n") → ⊥
no_verdict_without_the_program (file_fault n x j e) = omega (arith, n)
no_verdict_without_the_program (file_too_long n x w took) = omega (arith, n)
no_verdict_without_the_program (source bytes between w g s same (refused refusal n x h a)) = omega (arith, some_status refusal, n)
no_verdict_without_the_program (source bytes between w g s same (ready p k (trace_fault n x j e))) = omega (arith, n)
no_verdict_without_the_program (source bytes between w g s same (ready p k (trace_too_long n x v took))) = omega (arith, n)
no_verdict_without_the_program (source bytes between w g s same (ready p k (read traced v h l d))) =
    let well : between.faults ≡ 0 = w.read.well in
    let too : 1 ≡ between.faults = v.read.well in omega (arith, well, too)

-- ---- what its texts call for

pub its_texts_call_for_0 : AuditCallsFor two_text its_text 0
its_texts_call_for_0 = told two_tree (codes "yes\n") (omega arith) its_check_is_ready (omega arith) yes_is_due_of_its_text

pub a_long_text_calls_for_10 : (bytes traced : List ℕ) → length bytes ≡ 1048577 → AuditCallsFor bytes traced 10
a_long_text_calls_for_10 bytes traced e = over_long refl (omega (arith, e))

pub a_fault_calls_for_2 : AuditCallsFor (codes "007") its_text 2
a_fault_calls_for_2 = calls_refused (r.BadByte 1) refl (omega arith) it_has_a_fault

pub a_long_trace_calls_for_10 : (traced : List ℕ) → length traced ≡ 268435457 → AuditCallsFor two_text traced 10
a_long_trace_calls_for_10 traced e = calls_long two_tree refl (omega arith) its_check_is_ready (omega (arith, e))

pub they_call_for_no_other : AuditCallsFor two_text its_text 13 → ⊥
they_call_for_no_other h = let e : 13 ≡ 0 = one_status two_text its_text 0 13 its_texts_call_for_0 h in omega (arith, e)

some_same : {a b : List ℕ} → Some a ≡ Some b → a ≡ b
some_same e = cc

pub they_are_judged : IsJudged [] (codes "t") before_it behind_it 0
they_are_judged = record {
  text = two_text;
  traced = its_text;
  are_read = both_are_read;
  gave = refl;
  gave_trace = refl;
  calls = its_texts_call_for_0;
  only = λ known other e f number h. one_status two_text its_text 0 number its_texts_call_for_0
      (subst (λ (bytes : List ℕ). AuditCallsFor bytes its_text number) (sym (some_same e)) (subst (λ (bytes : List ℕ). AuditCallsFor known bytes number) (sym (some_same f)) h));
}

pub they_are_not_judged_otherwise : IsJudged [] (codes "t") before_it behind_it 13 → ⊥
they_are_not_judged_otherwise h = let e = h.only two_text its_text refl refl 0 its_texts_call_for_0 in omega (arith, e)

-- so they are a run
pub they_are_a_run : AreARun two_text its_text
they_are_a_run = (only_yes [] (codes "t") two_text its_text before_it behind_it 0 they_are_judged refl refl).0 refl

-- ---- and its words: audit, the empty name, and t

abbrev pub its_words : List (List ℕ)
its_words = codes "audit" ∷ [] ∷ codes "t" ∷ []

pub its_call : IsCall its_words (Audits [] (codes "t"))
its_call = record { name = _; operands = _; given = None; command = record { rest = _; form = refl; arguments = operand tt (operand (λ e. cc) no_more) }; stands = (refl, (refl, refl)) }

pub yes_is_due_of_its_words : IsDue its_words before_it behind_it no_disk no_disk 0 (codes "yes\n") None
yes_is_due_of_its_words = audit [] (codes "t") its_call refl refl yes_is_due_of_its_files

-- where memory was refused, both were opened
pub it_is_cut_short : IsCutShort its_words before_it behind_it no_disk no_disk
it_is_cut_short = of_audit [] (codes "t") its_call both_are_read refl

-- other words ask for a task of a file, or for a load
abbrev first_of : List ℕ → ℕ
first_of [] = 0
first_of (x ∷ _) = x

same_first : {v w : List ℕ} {vs rest : List (List ℕ)} → v ∷ vs ≡ w ∷ rest → v ≡ w
same_first e = cc

of_no_task : (name : List ℕ) (operands : List (List ℕ)) (given : Option ℕ) (task : Task) (file : List ℕ) → codes "audit" ≡ name → StandsFor name operands given (Does task file) → ⊥
of_no_task name operands given (t.Run steps tell.Report) file e h = let n : 97 ≡ 114 = ap first_of (e ∙ h.1.0) in omega (arith, n)
of_no_task name operands given (t.Run steps tell.Trace) file e h = let n : 97 ≡ 116 = ap first_of (e ∙ h.1.0) in omega (arith, n)
of_no_task name operands given (t.Run steps (tell.Summary turns)) file e h = h.1
of_no_task name operands given t.Check file e h = let n : 97 ≡ 99 = ap first_of (e ∙ h.1.0) in omega (arith, n)
of_no_task name operands given t.Code file e h = let n : 97 ≡ 99 = ap first_of (e ∙ h.1.0) in omega (arith, n)

bound_of : {a b : DiskTold} → a ≡ b → a.bound ≡ b.bound
bound_of e = ap (λ (told : DiskTold). told.bound) e

-- so of these words nothing is due, and nothing left, where a file was bound
pub no_file_is_bound : (status : ℕ) (text : List ℕ) (run : Option Ended) → IsDue its_words before_it behind_it a_disk its_disk status text run → ⊥
no_file_is_bound status text run (usage n x r none a e) = none (Audits [] (codes "t")) its_call
no_file_is_bound status text run (call task file c due) = of_no_task c.name c.operands c.given task file (same_first c.command.form) c.stands
no_file_is_bound status text run (audit file trace c r e due) = let one : 1 ≡ 0 = bound_of e in omega (arith, one)
no_file_is_bound status text run (load turns steps c a due) = let n : 97 ≡ 108 = ap first_of (same_first c.command.form ∙ c.stands.0) in omega (arith, n)

pub nor_is_one_left : IsCutShort its_words before_it behind_it a_disk its_disk → ⊥
nor_is_one_left (of_task task file c r l) = of_no_task c.name c.operands c.given task file (same_first c.command.form) c.stands
nor_is_one_left (of_audit file trace c r e) = let one : 1 ≡ 0 = bound_of e in omega (arith, one)
nor_is_one_left (of_load turns steps c a l) = let n : 97 ≡ 108 = ap first_of (same_first c.command.form ∙ c.stands.0) in omega (arith, n)
