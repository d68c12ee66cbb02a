-- What an answer to what is due gives.
use Rattle.std.specs.Prelude.{◌≡◌, ◌≢◌, ℕ, List, []}
use Rattle.ac_outside.specs.Told.{SinkTold, GrewBy}
use Rattle.program_reading.specs.Failures.{TellsSink}
use Rattle.program_reading.specs.Writing.{TookAll, TookSome}

-- the whole, or a front where the sink failed, or nothing where memory was refused
pub record IsAnswered (Due : ℕ → List ℕ → Type 0) (sink written : SinkTold) (status : ℕ) : Type 0 where
  pub whole : status ≢ 8 → status ≢ 11 → TookAll Due status sink written
  pub part : status ≡ 8 → TookSome Due sink written
  pub nothing : status ≡ 11 → GrewBy sink.held written.held []
  pub tells : TellsSink sink written status
