-- What a call of the program promises: `sink` and `written` are what the sink tells before and after it.
use Rattle.std.specs.Prelude.{◌≡◌, ℕ, ◌⊎◌, List, []}
use Rattle.ac_outside.specs.Told.{SinkTold, GrewBy}
use Rattle.ac_choice.specs.declared.answers.Tagged.{Tagged}
use Rattle.merge_run.specs.Series.{IsMerged}
use Rattle.merge_program.specs.Words.{IsCall}
use Rattle.merge_program.specs.Lines.{usage_line, merge_text}

-- the words are not two numbers within their limits
abbrev pub IsNoCall : List (List ℕ) → Type 0
IsNoCall words = (n w : ℕ) → IsCall words n w → ⊥

-- The status and the text that are due for any words and for what was received: where they are no call, the usage line, and nothing was
-- received; and else that was received, of each producer, which it has sent, whole and in order, and the lines are those of what was
-- received.
pub data IsDue (words : List (List ℕ)) (received : List Tagged) (status : ℕ) (text : List ℕ) : Type 0 where
  usage : status ≡ 1 → text ≡ usage_line → IsNoCall words → received ≡ [] → IsDue words received status text
  merge : (n w : ℕ) → IsCall words n w → status ≡ 0 → IsMerged n w received → text ≡ merge_text w received →
      IsDue words received status text

-- memory was refused: the words are a call, nothing was received, and nothing is written
pub record GaveUp (words : List (List ℕ)) (received : List Tagged) (sink written : SinkTold) : Type 0 where
  pub messages : ℕ
  pub producers : ℕ
  pub is_call : IsCall words messages producers
  pub none : received ≡ []
  pub nothing : GrewBy sink.held written.held []

-- 1 where the words are no call, unless the sink failed, and for no other words
pub record TellsUsage (words : List (List ℕ)) (status : ℕ) : Type 0 where
  pub told : status ≡ 1 → IsNoCall words
  pub only : IsNoCall words → (status ≡ 1) ⊎ (status ≡ 8)
