-- What reading the words gives. The counts of a cut are still the text that was given.
use Rattle.std.specs.Prelude.{◌≡◌, ℕ, List}
use Rattle.order_words.specs.declared.words.Question.{Question as Given}
use Rattle.order_words.specs.declared.words.Question.TheVariants as q
use Rattle.order_words.specs.declared.words.Call.{Call}
use Rattle.order_words.specs.Words.{IsNumbers, Question, Orders, Cuts, Asked, IsCall}

-- what was given stands for this
abbrev pub Means : Given → Question → Type 0
Means (q.Order one other) (Orders i j) = (i ≡ one) × (j ≡ other)
Means (q.Order one other) (Cuts numbers) = ⊥
Means (q.Cut text) (Orders i j) = ⊥
Means (q.Cut text) (Cuts numbers) = IsNumbers text.now numbers

pub record HasMeaning (given : Given) : Type 0 where
  pub question : Question
  pub means : Means given question

-- the words ask just this
pub record AsksFor (words : List (List ℕ)) (call : Call) : Type 0 where
  pub meant : HasMeaning call.question
  pub asks : (question : Question) → Means call.question question
      → IsCall words (record { file = call.file.now; trace = call.trace.now; question = question })
  pub only : (asked : Asked) → IsCall words asked
      → (asked.file ≡ call.file.now) × (asked.trace ≡ call.trace.now) × Means call.question asked.question
