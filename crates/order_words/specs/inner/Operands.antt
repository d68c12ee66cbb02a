-- What a command asks with its operands behind the two files.
use Rattle.std.specs.Prelude.{ℕ, List}
use Rattle.order_words.specs.declared.words.Question.{Question as Given}
use Rattle.order_words.specs.Words.{Question, Asks}
use Rattle.order_words.specs.Called.{Means, HasMeaning}

-- nothing
abbrev pub NoneAsked : List ℕ → List (List ℕ) → Type 0
NoneAsked command operands = (question : Question) → Asks command operands question → ⊥

-- just what was given
pub record IsQuestion (command : List ℕ) (operands : List (List ℕ)) (given : Given) : Type 0 where
  pub meant : HasMeaning given
  pub asks : (question : Question) → Means given question → Asks command operands question
  pub only : (question : Question) → Asks command operands question → Means given question
