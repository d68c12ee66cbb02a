-- What an answer gives: the whole text that is due, or a front of it, or nothing where memory was refused. What refuses the two files is
-- answered with its status, and 7 stands for a failed library.
use Rattle.std.proofs.Common.{◌≡◌, ◌≢◌, ◌⊎◌, inl, inr, ℕ, List, [], Option, None, Some, refl, sym, append-nil, arith}
use Rattle.std.proofs.lemmas.Bool.{cases_lt}
use Rattle.ac_outside.specs.Told.{LibraryTold, SinkTold, GrewBy}
use Rattle.ac_tree.specs.declared.item.Program.{Program}
use Rattle.trace_text.specs.declared.trace.Trace.{Trace}
use Rattle.program_reading.specs.declared.halt.Halt.{Halt}
use Rattle.program_reading.specs.Failures.{TellsSink}
use Rattle.program_reading.specs.Writing.{TookFront}
use Rattle.program_reading.specs.TwoFiles.{AreBoth, RefusesBoth, halt_line, halt_status}
use Rattle.order_words.specs.declared.words.Call.{Call}
use Rattle.order_words.specs.Called.{HasMeaning}
use Rattle.order_program.specs.Asking.{refused, read}
use Rattle.order_program.specs.inner.Calling.{IsDueFor}
use Rattle.order_program.specs.inner.Telling.{IsAnswered, IsDueOfBoth}

grew_nothing : (held : Option (List ℕ)) → GrewBy held held []
grew_nothing None = tt
grew_nothing (Some bytes) = sym (append-nil bytes)

-- want of memory answers whatever is due
pub answered_none : (Due : ℕ → List ℕ → Type 0) (sink : SinkTold) → IsAnswered Due sink sink 11
answered_none Due sink = record {
  whole = λ w m. absurd (m refl);
  part = λ f. absurd (omega (arith, f));
  nothing = λ m. grew_nothing sink.held;
  tells = record { told = λ f. absurd (omega (arith, f)); only = λ f. refl };
  usage = λ f. omega (arith, f);
}

-- a text that is due answers
module _ (Due : ℕ → List ℕ → Type 0) (number : ℕ) (text : List ℕ) (sink later : SinkTold) (status : ℕ) (due : Due number text) where
  pub answered : (status ≢ 8 → status ≡ number) → (status ≢ 8 → GrewBy sink.held later.held text) → (status ≡ 8 → TookFront sink.held later.held text) → TellsSink sink later status
      → number ≢ 1 → number ≢ 11 → IsAnswered Due sink later status
  answered is took front tells usage memory = record {
    whole = λ w m. record { text = text; due = rw (is w) due; taken = took w };
    part = λ f. record { status = number; text = text; due = due; taken = front f };
    nothing = λ m. absurd (memory (let e = is (λ f. omega (arith, m, f)) in omega (arith, e, m)));
    tells = tells;
    usage = λ f. usage (let e = is (λ g. omega (arith, f, g)) in omega (arith, e, f));
  }

-- so does the line of what refuses two files, whose making takes memory
pub answered_halt : (call : Call) (before after : LibraryTold) (halt : Halt) (sink later : SinkTold) (status : ℕ) → HasMeaning call.question
    → RefusesBoth call.file.now call.trace.now before after halt → (status ≢ 8 → status ≢ 11 → status ≡ halt_status halt)
    → (status ≢ 8 → status ≢ 11 → GrewBy sink.held later.held (halt_line halt)) → (status ≡ 8 → TookFront sink.held later.held (halt_line halt))
    → (status ≡ 11 → GrewBy sink.held later.held []) → TellsSink sink later status → status ≢ 1 → IsAnswered (IsDueFor call before after) sink later status
answered_halt call before after halt sink later status meant h is took front nothing tells usage =
    let due : IsDueFor call before after (halt_status halt) (halt_line halt) = record { question = meant.question; means = meant.means; due = refused halt refl refl h } in
    record {
      whole = λ w m. record { text = halt_line halt; due = rw (is w m) due; taken = took w m };
      part = λ f. record { status = halt_status halt; text = halt_line halt; due = due; taken = front f };
      nothing = nothing;
      tells = tells;
      usage = usage;
    }

-- what is due of a program and a trace is due of their files
pub answered_both : (call : Call) (before after : LibraryTold) (program : Program) (run : Trace) (sink later : SinkTold) (status : ℕ) → AreBoth call.file.now call.trace.now before after program run
    → IsAnswered (IsDueOfBoth program run call.question) sink later status → IsAnswered (IsDueFor call before after) sink later status
answered_both call before after program run sink later status b a =
    let more : (n : ℕ) (t : List ℕ) → IsDueOfBoth program run call.question n t → IsDueFor call before after n t =
    λ n t d. record { question = d.question; means = d.means; due = read program run b d.due } in
    record {
      whole = λ w m. let x = a.whole w m in record { text = x.text; due = more status x.text x.due; taken = x.taken };
      part = λ f. let x = a.part f in record { status = x.status; text = x.text; due = more x.status x.text x.due; taken = x.taken };
      nothing = a.nothing;
      tells = a.tells;
      usage = a.usage;
    }

-- a status that is 1 unless it is 8
pub one_or_eight : (status : ℕ) → (status ≢ 8 → status ≡ 1) → (status ≡ 1) ⊎ (status ≡ 8)
one_or_eight status is =
    elim (cases_lt status 8) [
      | inl below ↦ inl (is (λ e. omega (arith, e, below)))
      | inr from ↦ elim (cases_lt 8 status) [
        | inl above ↦ inl (is (λ e. omega (arith, e, above)))
        | inr to ↦ inr (omega (arith, from, to))
      ]
    ]
