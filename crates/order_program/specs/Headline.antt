-- What a call of the program promises. `before` and `after` are what the library tells before and after the call, `sink` and `written` what
-- the sink does.
use Rattle.std.specs.Prelude.{◌≡◌, ℕ, ◌⊎◌, List, []}
use Rattle.ac_outside.specs.Told.{LibraryTold, SinkTold, GrewBy}
use Rattle.program_reading.specs.Files.{AreRead}
use Rattle.order_words.specs.Words.{Asked, IsCall}
use Rattle.order_program.specs.Lines.{usage_line}
use Rattle.order_program.specs.Asking.{IsDueOfFiles}

-- the words are not `order` with two files and two numbers, or `cut` with two files and counts
abbrev pub IsNoCall : List (List ℕ) → Type 0
IsNoCall words = (asked : Asked) → IsCall words asked → ⊥

-- The status and the text that are due for any words: where they are no call, the usage line, and the library is left alone.
pub data IsDue (words : List (List ℕ)) (before after : LibraryTold) (status : ℕ) (text : List ℕ) : Type 0 where
  usage : status ≡ 1 → text ≡ usage_line → IsNoCall words → after ≡ before → IsDue words before after status text
  call : (asked : Asked) → IsCall words asked → IsDueOfFiles asked.file asked.trace asked.question before after status text →
      IsDue words before after status text

-- memory was refused: the words are a call, just its files were opened, and nothing is written
pub record GaveUp (words : List (List ℕ)) (before after : LibraryTold) (sink written : SinkTold) : Type 0 where
  pub asked : Asked
  pub is_call : IsCall words asked
  pub are_read : AreRead asked.file asked.trace before after
  pub nothing : GrewBy sink.held written.held []

-- 1 where the words are no call, unless the sink failed, and for no other words
pub record TellsUsage (words : List (List ℕ)) (status : ℕ) : Type 0 where
  pub told : status ≡ 1 → IsNoCall words
  pub only : IsNoCall words → (status ≡ 1) ⊎ (status ≡ 8)
