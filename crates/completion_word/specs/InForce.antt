-- What the words of a link are held to: the rule of their own table is the word rule, and each kind of step tells its seat what `Steps`
-- says.
use Rattle.std.specs.Prelude.{ℕ}
use Rattle.atomic_table.specs.Table.{State, Me, Step}
use Rattle.atomic_table.specs.declared.shared.Shared.{Shared}
use Rattle.completion_word.specs.declared.rule.LinkRule.{LinkRule}
use Rattle.completion_word.specs.declared.views.View.{View}
use Rattle.completion_word.specs.declared.words.Words.{Words}
use Rattle.completion_word.specs.Kept.{Holds, Telling}
use Rattle.completion_word.specs.Seats.{places_of}

-- what a table was told once, when it was made; the type says that its rule is that of `LinkRule`
abbrev pub key_of : Shared ℕ View ℕ LinkRule → ℕ
key_of table = table.key

-- a rule is the word rule of so many places, no less and no more
abbrev pub IsWordRule : ℕ → (State ℕ View → Type 0) → Type 0
IsWordRule places rule = (s : State ℕ View) → (rule s → Holds places s) × (Holds places s → rule s)

-- where this is the rule of a table by its key, it is so for the table of these words
abbrev pub IsInForce : (ℕ → State ℕ View → Type 0) → Words → Type 0
IsInForce rule w = IsWordRule (places_of w) (rule (key_of w.table.shared))

-- a step that tells this tells what the second says, no less and no more
abbrev pub TellsJust : Telling → Telling → Type 0
TellsJust told what = (st : Step ℕ) (m : Me ℕ View) (n : ℕ) (m' : Me ℕ View)
    → (told st m n m' → what st m n m') × (what st m n m' → told st m n m')
