-- What is received, and what is written of it.
use Rattle.std.specs.Prelude.{◌≡◌, ◌≢◌, ℕ, List, []}
use Rattle.ac_outside.specs.Told.{SinkTold, GrewBy}
use Rattle.program_reading.specs.Failures.{TellsSink}
use Rattle.program_reading.specs.Writing.{TookFront}
use Rattle.ac_choice.specs.declared.answers.Tagged.{Tagged}
use Rattle.merge_run.specs.Series.{IsMerged}
use Rattle.merge_program.specs.Lines.{merge_text}

pub record IsMade (n w : ℕ) (received : List Tagged) (text : List ℕ) : Type 0 where
  pub merged : IsMerged n w received
  pub text_is : text ≡ merge_text w received

-- the lines are written whole, or a front of them where the sink failed, or nothing where memory was refused
pub record IsAnswered (n w : ℕ) (received : List Tagged) (sink written : SinkTold) (status : ℕ) : Type 0 where
  pub nought : status ≢ 8 → status ≢ 11 → status ≡ 0
  pub merged : status ≢ 11 → IsMerged n w received
  pub whole : status ≢ 8 → status ≢ 11 → GrewBy sink.held written.held (merge_text w received)
  pub part : status ≡ 8 → TookFront sink.held written.held (merge_text w received)
  pub none : status ≡ 11 → received ≡ []
  pub nothing : status ≡ 11 → GrewBy sink.held written.held []
  pub tells : TellsSink sink written status
  pub usage : status ≢ 1
