-- What an answer gives: the text that is due, whole, or a front of it, or nothing.
use Rattle.std.proofs.Common.{◌≡◌, ◌≢◌, ℕ, List, [], Option, None, Some, sym, ◌∙◌, subst, refl, append-nil, arith}
use Rattle.ac_outside.specs.Told.{SinkTold, GrewBy}
use Rattle.program_reading.specs.Failures.{TellsSink}
use Rattle.program_reading.specs.Writing.{TookFront}
use Rattle.ac_replay.specs.inner.Answers.{IsAnswered}

module _ (Due : ℕ → List ℕ → Type 0) (sink written : SinkTold) where
  -- a text that was made
  pub answered : (due : ℕ) (text : List ℕ) (number : ℕ) → Due due text → (due ≡ 11 → ⊥) → (number ≢ 8 → number ≡ due) → (number ≢ 8 → GrewBy sink.held written.held text)
      → (number ≡ 8 → TookFront sink.held written.held text) → TellsSink sink written number → IsAnswered Due sink written number
  answered due text number d not status whole part tells = record {
    whole = λ well kept. record { text = text; due = subst (λ n. Due n text) (sym (status well)) d; taken = whole well };
    part = λ failed. record { status = due; text = text; due = d; taken = part failed };
    nothing = λ none. absurd (not (sym (status (λ e. omega (arith, e, none))) ∙ none));
    tells = tells;
  }

  -- one that was to be made from what takes memory
  pub answered_or_not : (due : ℕ) (text : List ℕ) (number : ℕ) → Due due text → (number ≢ 8 → number ≢ 11 → number ≡ due)
      → (number ≢ 8 → number ≢ 11 → GrewBy sink.held written.held text) → (number ≡ 8 → TookFront sink.held written.held text) → (number ≡ 11 → GrewBy sink.held written.held [])
      → TellsSink sink written number → IsAnswered Due sink written number
  answered_or_not due text number d status whole part memory tells = record {
    whole = λ well kept. record { text = text; due = subst (λ n. Due n text) (sym (status well kept)) d; taken = whole well kept };
    part = λ failed. record { status = due; text = text; due = d; taken = part failed };
    nothing = memory;
    tells = tells;
  }

-- nothing, where memory was refused before
grew_none : (held : Option (List ℕ)) → GrewBy held held []
grew_none None = tt
grew_none (Some bytes) = sym (append-nil bytes)

pub answered_none : (Due : ℕ → List ℕ → Type 0) (sink : SinkTold) → IsAnswered Due sink sink 11
answered_none Due sink = record {
  whole = λ well kept. absurd (kept refl);
  part = λ failed. absurd (omega (arith, failed));
  nothing = λ _. grew_none sink.held;
  tells = record { told = λ failed. absurd (omega (arith, failed)); only = λ _. refl };
}

-- what is due of a part is due of the whole
pub answered_as : (Due Other : ℕ → List ℕ → Type 0) (sink written : SinkTold) (number : ℕ) → ((n : ℕ) (text : List ℕ) → Due n text → Other n text)
    → IsAnswered Due sink written number → IsAnswered Other sink written number
answered_as Due Other sink written number goes a = record {
  whole = λ well kept. let w = a.whole well kept in record { text = w.text; due = goes number w.text w.due; taken = w.taken };
  part = λ failed. let p = a.part failed in record { status = p.status; text = p.text; due = goes p.status p.text p.due; taken = p.taken };
  nothing = a.nothing;
  tells = a.tells;
}
