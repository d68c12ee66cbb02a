-- What an answer to what is due gives: the whole text is taken where no status says otherwise, and a front of it where the sink failed.
-- What is due of a part of the work is so of the whole.
use Rattle.std.proofs.Common.{◌≡◌, ◌≢◌, ℕ, List}
use Rattle.std.specs.declared.option.Option.{Option}
use Rattle.ac_outside.specs.Told.{SinkTold, GrewBy}
use Rattle.program_run.specs.declared.ended.Ended.{Ended}
use Rattle.program_reading.specs.Writing.{TookFront}
use Rattle.ac_program.specs.Headline.{TookWhole, TookPart}

module _ (Due : ℕ → List ℕ → Option Ended → Type 0) (number status : ℕ) (text : List ℕ) (given run : Option Ended) (sink later : SinkTold) (due : Due number text given) (same : run ≡ given) where
  pub whole_of : (status ≢ 8 → status ≡ number) → (status ≢ 8 → GrewBy sink.held later.held text) → status ≢ 8 → TookWhole Due status run sink later
  whole_of is took well = record { text = text; due = rw (is well, same) due; taken = took well }

  pub part_of : (status ≡ 8 → TookFront sink.held later.held text) → status ≡ 8 → TookPart Due run sink later
  part_of took failed = record { status = number; text = text; due = rw same due; taken = took failed }

module _ (P Q : ℕ → List ℕ → Option Ended → Type 0) (more : (n : ℕ) (t : List ℕ) (r : Option Ended) → P n t r → Q n t r) (run : Option Ended) (sink later : SinkTold) where
  pub whole_as : (status : ℕ) → TookWhole P status run sink later → TookWhole Q status run sink later
  whole_as status w = record { text = w.text; due = more status w.text run w.due; taken = w.taken }

  pub part_as : TookPart P run sink later → TookPart Q run sink later
  part_as w = record { status = w.status; text = w.text; due = more w.status w.text run w.due; taken = w.taken }
