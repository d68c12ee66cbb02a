-- A merge that was made is answered with its lines; want of memory, with nothing.
use Rattle.std.proofs.Common.{◌≡◌, ◌≢◌, ℕ, List, [], Option, None, Some, refl, sym, subst, append-nil, arith}
use Rattle.ac_outside.specs.Told.{SinkTold, GrewBy}
use Rattle.program_reading.specs.Failures.{TellsSink}
use Rattle.program_reading.specs.Writing.{TookFront}
use Rattle.ac_choice.specs.declared.answers.Tagged.{Tagged}
use Rattle.merge_program.specs.inner.Answering.{IsMade, IsAnswered}

grew_nothing : (held : Option (List ℕ)) → GrewBy held held []
grew_nothing None = tt
grew_nothing (Some bytes) = sym (append-nil bytes)

pub answered_none : (n w : ℕ) (received : List Tagged) (sink : SinkTold) → received ≡ [] → IsAnswered n w received sink sink 11
answered_none n w received sink is = record {
  nought = λ f m. absurd (m refl);
  merged = λ m. absurd (m refl);
  whole = λ f m. absurd (m refl);
  part = λ f. absurd (omega (arith, f));
  none = λ m. is;
  nothing = λ m. grew_nothing sink.held;
  tells = record { told = λ f. absurd (omega (arith, f)); only = λ f. refl };
  usage = λ f. omega (arith, f);
}

pub answered : (n w : ℕ) (received : List Tagged) (text : List ℕ) (sink later : SinkTold) (status : ℕ) → IsMade n w received text → (status ≢ 8 → status ≡ 0)
    → (status ≢ 8 → GrewBy sink.held later.held text) → (status ≡ 8 → TookFront sink.held later.held text) → TellsSink sink later status
    → IsAnswered n w received sink later status
answered n w received text sink later status made is took front tells = record {
  nought = λ f m. is f;
  merged = λ m. made.merged;
  whole = λ f m. subst (λ bs. GrewBy sink.held later.held bs) made.text_is (took f);
  part = λ f. subst (λ bs. TookFront sink.held later.held bs) made.text_is (front f);
  none = λ m. absurd (let e = is (λ f. omega (arith, m, f)) in omega (arith, e, m));
  nothing = λ m. absurd (let e = is (λ f. omega (arith, m, f)) in omega (arith, e, m));
  tells = tells;
  usage = λ u. let e = is (λ f. omega (arith, u, f)) in omega (arith, e, u);
}
