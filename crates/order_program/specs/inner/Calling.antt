-- What is due for a call as it was read.
use Rattle.std.specs.Prelude.{ℕ, List}
use Rattle.ac_outside.specs.Told.{LibraryTold}
use Rattle.order_words.specs.declared.words.Call.{Call}
use Rattle.order_words.specs.Words.{Question}
use Rattle.order_words.specs.Called.{Means}
use Rattle.order_program.specs.Asking.{IsDueOfFiles}

-- the status and the text are due for what the call stands for
pub record IsDueFor (call : Call) (before after : LibraryTold) (status : ℕ) (text : List ℕ) : Type 0 where
  pub question : Question
  pub means : Means call.question question
  pub due : IsDueOfFiles call.file.now call.trace.now question before after status text
