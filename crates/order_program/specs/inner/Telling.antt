-- What is written, and the status that goes with it.
use Rattle.std.specs.Prelude.{◌≡◌, ◌≢◌, ℕ, List, []}
use Rattle.ac_outside.specs.Told.{SinkTold, GrewBy}
use Rattle.ac_compile.specs.Compiled.{IsCodeOf}
use Rattle.ac_resolve.specs.Resolution.{resolved}
use Rattle.ac_translation.specs.Same.{IsSame}
use Rattle.ac_tree.specs.declared.item.Program.{Program}
use Rattle.stack_code.specs.Parts.{Parts}
use Rattle.trace_text.specs.declared.trace.Trace.{Trace}
use Rattle.program_reading.specs.Failures.{TellsSink}
use Rattle.program_reading.specs.Writing.{TookAll, TookSome}
use Rattle.order_program.specs.declared.told.Told.{Told}
use Rattle.order_words.specs.declared.words.Question.{Question as Given}
use Rattle.order_program.specs.Asking.{IsDueOfTrace, IsDueOfRun}
use Rattle.order_words.specs.Words.{Question}
use Rattle.order_words.specs.Called.{Means}

-- this text with this status
pub record IsSaid (number : ℕ) (text : List ℕ) (told : Told) : Type 0 where
  pub status : told.status.number ≡ number
  pub text_is : told.text ≡ text

-- what is due of a trace for what was given
pub record IsDueOfBoth (program : Program) (trace : Trace) (given : Given) (status : ℕ) (text : List ℕ) : Type 0 where
  pub question : Question
  pub means : Means given question
  pub due : IsDueOfTrace program trace question status text

abbrev pub IsToldOf : Program → Trace → Given → Told → Type 0
IsToldOf program trace given told = IsDueOfBoth program trace given told.status.number told.text

-- and of a run, whatever program has this code
pub record IsToldOfRun (code : Parts) (trace : Trace) (given : Given) (told : Told) : Type 0 where
  pub question : Question
  pub means : Means given question
  pub due : (program : Program) → IsCodeOf program code → IsSame code (resolved program)
      → IsDueOfRun program trace question told.status.number told.text

-- what is due is written whole, or a front of it where the sink failed, or nothing where memory was refused
pub record IsAnswered (Due : ℕ → List ℕ → Type 0) (sink written : SinkTold) (status : ℕ) : Type 0 where
  pub whole : status ≢ 8 → status ≢ 11 → TookAll Due status sink written
  pub part : status ≡ 8 → TookSome Due sink written
  pub nothing : status ≡ 11 → GrewBy sink.held written.held []
  pub tells : TellsSink sink written status
  pub usage : status ≢ 1
