-- What an answer to what is due gives, where no run is kept.
use Rattle.std.specs.Prelude.{◌≡◌, ◌≢◌, ℕ, List, [], None}
use Rattle.ac_outside.specs.Told.{SinkTold, GrewBy}
use Rattle.ac_program.specs.declared.outcome.Outcome.{Outcome}
use Rattle.program_reading.specs.Writing.{TookAll, TookSome}
use Rattle.program_reading.specs.Failures.{TellsSink}

-- the whole, or a front where the sink failed, or nothing where memory was refused
pub record IsAnswered (Due : ℕ → List ℕ → Type 0) (sink written : SinkTold) (outcome : Outcome) : Type 0 where
  pub no_run : outcome.run ≡ None
  pub whole : outcome.status.number ≢ 8 → outcome.status.number ≢ 11 → TookAll Due outcome.status.number sink written
  pub part : outcome.status.number ≡ 8 → TookSome Due sink written
  pub nothing : outcome.status.number ≡ 11 → GrewBy sink.held written.held []
  pub tells : TellsSink sink written outcome.status.number
  pub usage : outcome.status.number ≢ 1
  pub disk : outcome.status.number ≢ 9
