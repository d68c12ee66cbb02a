-- What refuses two files, by small values: each line and status as it is written, an empty text that is no trace, and a library that failed.
use Rattle.std.proofs.Common.{◌≡◌, inl, refl, ap, ℕ, List, [], ◌∷◌, length, codes, None, Some, Err, false, arith}
use Rattle.std.proofs.lemmas.Fmt.{decimal_digit}
use Rattle.ac_outside.specs.Told.{LibraryTold, SinkTold}
use Rattle.ac_tree.specs.declared.item.Program.{Program}
use Rattle.trace_text.specs.declared.trace.Trace.{Trace}
use Rattle.trace_text.specs.Spelling.{IsFirstWrong}
use Rattle.trace_text.specs.inner.Reading.{read_lines}
use Rattle.trace_text.proofs.Whole.{read_stops}
use Rattle.program_reading.specs.declared.halt.BothFault.TheVariants as f
use Rattle.program_reading.specs.declared.halt.Halt.TheVariants as h
use Rattle.program_reading.specs.declared.refusal.Refusal.TheVariants as r
use Rattle.program_reading.specs.TwoFiles.{halt_line, halt_status, RefusesTraced, RefusesTrace, RefusesSource, RefusesBoth, IsTraceFor, HasTrace, AreBoth, GivesBoth}
use Rattle.program_reading.specs.TwoFiles.RefusesTraced.{wrong, too_many}
use Rattle.program_reading.specs.TwoFiles.RefusesTrace.{library_fault as trace_fault, too_long as trace_too_long, told}
use Rattle.program_reading.specs.TwoFiles.RefusesSource.{refused, ready as is_ready}
use Rattle.program_reading.specs.TwoFiles.RefusesBoth.{library_fault}
use Rattle.program_reading.specs.Lines.{no_at_line, no_at_end_line}
use Rattle.program_reading.specs.Writing.{TookAll, TookSome}

pub the_lines : halt_line h.LibraryFault ∷ halt_line h.LongSource ∷ halt_line (h.Source (r.Unexpected 9)) ∷ halt_line h.LongTrace ∷ halt_line (h.WrongLine 9) ∷ halt_line h.TooManySteps ∷ []
    ≡ codes "library fault\n" ∷ codes "limit: source\n" ∷ codes "unexpected token at 9\n" ∷ codes "limit: trace\n" ∷ codes "trace fault at line 9\n" ∷ codes "limit: steps\n" ∷ []
the_lines = rw (decimal_digit 9 (omega arith)) refl

pub the_statuses : halt_status h.LibraryFault ∷ halt_status h.LongSource ∷ halt_status (h.Source (r.Unexpected 9)) ∷ halt_status h.LongTrace ∷ halt_status (h.WrongLine 9)
    ∷ halt_status h.TooManySteps ∷ [] ≡ 7 ∷ 10 ∷ 2 ∷ 10 ∷ 14 ∷ 10 ∷ []
the_statuses = refl

pub the_lines_of_no_run : no_at_line 7 ∷ no_at_end_line ∷ [] ≡ codes "no at 7\n" ∷ codes "no at end\n" ∷ []
the_lines_of_no_run = rw (decimal_digit 7 (omega arith)) refl

-- an empty text has no first line
no_line : IsFirstWrong [] 1
unfolding read_lines
no_line = read_stops [] 1 refl

module _ (program : Program) where
  pub an_empty_text_is_refused : RefusesTraced program [] (h.WrongLine 1)
  an_empty_text_is_refused = wrong 1 refl no_line

  pub not_for_its_steps : RefusesTraced program [] h.TooManySteps → ⊥
  not_for_its_steps (wrong line e w) = cc (e)
  not_for_its_steps (too_many run e s o) = no_line.no_trace run s.spells

  pub and_is_no_trace : (run : Trace) → IsTraceFor program [] run → ⊥
  and_is_no_trace run s = no_line.no_trace run s.spelled.spells

-- a library that could not open the first file
abbrev ready : LibraryTold
ready = record { text_at = λ (name : List ℕ). None; is_open = false; left = Some []; opens = Some 0; reads = Some 0; names = Some []; faults = 0 }

abbrev failed : LibraryTold
failed = record ready { opens = Some 1; names = Some (codes "x" ∷ []); faults = 1 }

pub it_failed : RefusesBoth (codes "x") (codes "t") ready failed h.LibraryFault
it_failed = library_fault refl (record { just = record { once = refl; named = refl }; reads = inl refl }) (omega arith)

pub it_is_given : GivesBoth (codes "x") (codes "t") ready failed (Err (f.Halted h.LibraryFault))
it_is_given = it_failed

pub it_failed_at_the_trace : (program : Program) → RefusesTrace program (codes "x") ready failed h.LibraryFault
it_failed_at_the_trace program = trace_fault refl (record { just = record { once = refl; named = refl }; reads = inl refl }) (omega arith)

-- a source that is too long is refused, and the trace is not opened
pub a_long_source : (bytes : List ℕ) → length bytes ≡ 1048577 → RefusesSource bytes (codes "x") ready ready (h.Source r.TooLong)
a_long_source bytes e = refused r.TooLong refl (omega (arith, e)) refl

pub not_with_its_trace : (bytes : List ℕ) → RefusesSource bytes (codes "x") ready failed (h.Source r.TooLong) → ⊥
not_with_its_trace bytes (refused refusal e w same) = let n = ap (λ (l : LibraryTold). l.faults) same in omega (arith, n)
not_with_its_trace bytes (is_ready program k (trace_fault e x w)) = cc (e)
not_with_its_trace bytes (is_ready program k (trace_too_long e w took)) = cc (e)
not_with_its_trace bytes (is_ready program k (told traced w g s (wrong line e x))) = cc (e)
not_with_its_trace bytes (is_ready program k (told traced w g s (too_many u e x o))) = cc (e)

-- and gave no program and no trace
pub there_is_no_program : (program : Program) (run : Trace) → AreBoth (codes "x") (codes "t") ready failed program run → ⊥
there_is_no_program program run b =
    let one = b.read.read.well in let two = b.has_trace.read.read.well in omega (arith, one, two)

pub there_is_no_trace : (program : Program) (run : Trace) → HasTrace program (codes "x") ready failed run → ⊥
there_is_no_trace program run b = let one = b.read.read.well in omega (arith, one)

-- ---- what a sink took

abbrev sink : SinkTold
sink = record { held = Some []; faults = 0 }

abbrev written : List ℕ → SinkTold
written bytes = record { held = Some bytes; faults = 0 }

pub all_of_it : (Due : ℕ → List ℕ → Type 0) → Due 7 (codes "ab") → TookAll Due 7 sink (written (codes "ab"))
all_of_it Due due = record { text = codes "ab"; due = due; taken = refl }

pub not_a_front : (Due : ℕ → List ℕ → Type 0) → ((text : List ℕ) → Due 7 text → length text ≡ 2) → TookAll Due 7 sink (written (codes "a")) → ⊥
not_a_front Due two h = let long = two h.text h.due in let n = ap length h.taken in omega (arith, long, n)

pub a_front : (Due : ℕ → List ℕ → Type 0) → Due 7 (codes "ab") → TookSome Due sink (written (codes "a"))
a_front Due due = record { status = 7; text = codes "ab"; due = due; taken = record { front = codes "a"; rest = codes "b"; cut = refl; short = omega arith; taken = refl } }
