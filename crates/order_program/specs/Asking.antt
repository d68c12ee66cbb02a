-- What is due where the words are a call, by the first refusal in the order of work.
use Rattle.std.specs.Prelude.{◌≡◌, ℕ, suc, ◌<◌, ◌≤◌, List, length}
use Rattle.ac_base.specs.declared.entry.Stamped.{Stamped}
use Rattle.ac_base.specs.declared.ends.CoreEnd.{CoreEnd}
use Rattle.ac_causal.specs.declared.order.Order.{Order}
use Rattle.ac_causal.specs.Before.{IsOrder}
use Rattle.ac_causal.specs.Cuts.{IsCut, IsClosed, IsCutAnswer}
use Rattle.ac_causal.specs.declared.cut.CutAnswer.TheVariants.{Open}
use Rattle.ac_causal.specs.States.{AreStates}
use Rattle.ac_tree.specs.declared.item.Program.{Program}
use Rattle.ac_resolve.specs.Resolution.{resolved}
use Rattle.ac_outside.specs.Told.{LibraryTold}
use Rattle.trace_text.specs.declared.trace.Trace.{Trace}
use Rattle.trace_audit.specs.declared.verdict.Verdict.TheVariants.{NoAt, NoAtEnd}
use Rattle.trace_audit.specs.Judged.{Judges}
use Rattle.trace_audit.specs.RunTrace.{IsRunTrace}
use Rattle.program_reading.specs.declared.halt.Halt.{Halt}
use Rattle.program_reading.specs.TwoFiles.{AreBoth, RefusesBoth, halt_line, halt_status}
use Rattle.program_reading.specs.Lines.{no_at_line, no_at_end_line}
use Rattle.program_reading.specs.Source.{names_of}
use Rattle.order_program.specs.Lines.{no_cut_line, no_entry_line, open_line, order_line, states_text}
use Rattle.order_words.specs.Words.{Question, Orders, Cuts}

-- Of two entries of these: the first number that is not that of an entry, or how the one stands to the other.
pub data IsDueOfEntries (entries : List Stamped) (one other : ℕ) (status : ℕ) (text : List ℕ) : Type 0 where
  no_one : status ≡ 16 → text ≡ no_entry_line one → length entries ≤ one → IsDueOfEntries entries one other status text
  no_other : status ≡ 16 → text ≡ no_entry_line other → one < length entries → length entries ≤ other →
      IsDueOfEntries entries one other status text
  stands : (order : Order) → status ≡ 0 → text ≡ order_line order → one < length entries → other < length entries →
      IsOrder entries one other order → IsDueOfEntries entries one other status text

-- Of counts, in a run of the program with these entries and this bound on steps: they are no cut; or the cut is open, and this is the
-- first entry outside that one inside answers; or it is closed, and so the cores end under their entries of it. The parties are the cores
-- and the worker.
pub data IsDueOfCut (program : Program) (bound : ℕ) (entries : List Stamped) (counts : List ℕ) (status : ℕ) (text : List ℕ) : Type 0 where
  no_cut : status ≡ 18 → text ≡ no_cut_line → (IsCut entries (suc (length (resolved program).cores)) counts → ⊥) →
      IsDueOfCut program bound entries counts status text
  is_open : (entry : ℕ) → status ≡ 17 → text ≡ open_line entry → IsCut entries (suc (length (resolved program).cores)) counts →
      IsCutAnswer entries counts (Open entry) → IsDueOfCut program bound entries counts status text
  is_closed : (ends : List CoreEnd) → status ≡ 0 → text ≡ states_text (names_of program) ends →
      IsCut entries (suc (length (resolved program).cores)) counts → IsClosed entries counts →
      AreStates (resolved program) bound entries counts ends → IsDueOfCut program bound entries counts status text

-- Of a run of the program, by what is asked.
abbrev pub IsDueOfRun : Program → Trace → Question → ℕ → List ℕ → Type 0
IsDueOfRun program told (Orders one other) status text = IsDueOfEntries told.entries one other status text
IsDueOfRun program told (Cuts counts) status text = IsDueOfCut program told.steps told.entries counts status text

-- Of a trace: it is no run of the program, and this is the first entry that may not come after those before it, or its end is not that of
-- the run; or it is one.
pub data IsDueOfTrace (program : Program) (told : Trace) (question : Question) (status : ℕ) (text : List ℕ) : Type 0 where
  misfit : (entry : ℕ) → status ≡ 13 → text ≡ no_at_line entry → Judges (resolved program) told (NoAt entry) →
      IsDueOfTrace program told question status text
  wrong_end : status ≡ 13 → text ≡ no_at_end_line → Judges (resolved program) told NoAtEnd → IsDueOfTrace program told question status text
  is_run : IsRunTrace (resolved program) told → IsDueOfRun program told question status text →
      IsDueOfTrace program told question status text

-- Of the two files.
pub data IsDueOfFiles (file trace : List ℕ) (question : Question) (before after : LibraryTold) (status : ℕ) (text : List ℕ) :
    Type 0 where
  refused : (halt : Halt) → status ≡ halt_status halt → text ≡ halt_line halt → RefusesBoth file trace before after halt →
      IsDueOfFiles file trace question before after status text
  read : (program : Program) (told : Trace) → AreBoth file trace before after program told →
      IsDueOfTrace program told question status text → IsDueOfFiles file trace question before after status text
