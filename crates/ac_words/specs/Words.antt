-- Which words form a call of the program.
use Rattle.std.specs.Prelude.{◌≡◌, ◌≢◌, ℕ, ◌≤◌, List, [], ◌∷◌, ◌++◌, length, slice_index, All, ⊤, None, Some, codes, unwrap_or}
use Rattle.std.specs.Str.Parse.{AllDigits, digits_value}
use Rattle.std.specs.declared.option.Option.{Option}
use Rattle.ac_words.specs.declared.task.Task.{Task}
use Rattle.ac_words.specs.declared.task.Task.TheVariants as t
use Rattle.ac_words.specs.declared.task.Telling.TheVariants as w

-- the word does not start with `-`
abbrev pub IsPlain : List ℕ → Type 0
IsPlain [] = ⊤
IsPlain (first ∷ _) = first ≢ 45

-- the word is a number in decimal: 1 to 7 digits, of which the first is not 0
pub record IsNumber (word : List ℕ) (number : ℕ) : Type 0 where
  pub some : 1 ≤ length word
  pub few : length word ≤ 7
  pub digits : AllDigits 10 word
  pub first : slice_index word 0 ≢ 48
  pub value : number ≡ digits_value 10 word

-- the word is a bound on steps: a number from 1 to 2,000,000
pub record IsBound (word : List ℕ) (steps : ℕ) : Type 0 where
  pub number : IsNumber word steps
  pub least : 1 ≤ steps
  pub most : steps ≤ 2000000

-- the word is a number of turns, from 1 to 500
pub record IsTurns (word : List ℕ) (turns : ℕ) : Type 0 where
  pub number : IsNumber word turns
  pub least : 1 ≤ turns
  pub most : turns ≤ 500

-- The words after a command give these operands in order and, where one is given, this bound on steps.
pub data IsArguments : List (List ℕ) → List (List ℕ) → Option ℕ → Type 0 where
  no_more : IsArguments [] [] None
  operand : {word : List ℕ} {words operands : List (List ℕ)} {given : Option ℕ} →
      IsPlain word → IsArguments words operands given → IsArguments (word ∷ words) (word ∷ operands) given
  bound_apart : {word value : List ℕ} {words operands : List (List ℕ)} {steps : ℕ} →
      word ≡ codes "--steps" → IsBound value steps → IsArguments words operands None
      → IsArguments (word ∷ value ∷ words) operands (Some steps)
  bound_joined : {word value : List ℕ} {words operands : List (List ℕ)} {steps : ℕ} →
      word ≡ codes "--steps=" ++ value → IsBound value steps → IsArguments words operands None
      → IsArguments (word ∷ words) operands (Some steps)
  only_operands : {word : List ℕ} {words : List (List ℕ)} →
      word ≡ codes "--" → All (λ operand. operand ≢ codes "-") words → IsArguments (word ∷ words) words None

-- The words are a command of this name, with these operands and, where one is given, this bound on steps.
pub record IsCommand (name : List ℕ) (words operands : List (List ℕ)) (given : Option ℕ) : Type 0 where
  pub rest : List (List ℕ)
  pub form : words ≡ name ∷ rest
  pub arguments : IsArguments rest operands given

-- The command stands for this task, with this bound on steps where one is given: a run has 100,000 where none is, and the others none. No
-- run of the program of a file is told by a summary.
abbrev pub IsTask : List ℕ → Option ℕ → Task → Type 0
IsTask command given (t.Run steps w.Report) = (command ≡ codes "run") × (steps ≡ unwrap_or given 100000)
IsTask command given (t.Run steps w.Trace) = (command ≡ codes "trace") × (steps ≡ unwrap_or given 100000)
IsTask command given (t.Run steps (w.Summary turns)) = ⊥
IsTask command given t.Check = (command ≡ codes "check") × (given ≡ None)
IsTask command given t.Code = (command ≡ codes "code") × (given ≡ None)

-- What words ask for: a task with the program of a file, whether the trace of a second file is a run of the program of the first, or a run
-- of the file server with so many turns and this bound on steps.
pub data Asked : Type 0 where
  Does : Task → List ℕ → Asked
  Audits : List ℕ → List ℕ → Asked
  Loads : ℕ → ℕ → Asked

-- the operands of `load` are one, which gives the turns, and the steps are 100,000 where no bound is given
pub record IsLoad (operands : List (List ℕ)) (given : Option ℕ) (turns steps : ℕ) : Type 0 where
  pub word : List ℕ
  pub one : operands ≡ word ∷ []
  pub is_turns : IsTurns word turns
  pub steps_are : steps ≡ unwrap_or given 100000

-- The command stands for this, with these operands and, where one is given, this bound on steps.
abbrev pub StandsFor : List ℕ → List (List ℕ) → Option ℕ → Asked → Type 0
StandsFor command operands given (Does task file) = (operands ≡ file ∷ []) × IsTask command given task
StandsFor command operands given (Audits file trace) = (operands ≡ file ∷ trace ∷ []) × ((command ≡ codes "audit") × (given ≡ None))
StandsFor command operands given (Loads turns steps) = (command ≡ codes "load") × IsLoad operands given turns steps

-- The words are a command that stands for this.
pub record IsCall (words : List (List ℕ)) (asked : Asked) : Type 0 where
  pub name : List ℕ
  pub operands : List (List ℕ)
  pub given : Option ℕ
  pub command : IsCommand name words operands given
  pub stands : StandsFor name operands given asked

-- how many steps each core may go: only a run has any
abbrev pub steps_of : Task → ℕ
steps_of (t.Run steps telling) = steps
steps_of t.Check = 0
steps_of t.Code = 0

-- a task has a bound on steps within its limits, where it has one
abbrev pub IsBounded : Task → Type 0
IsBounded (t.Run steps telling) = (1 ≤ steps) × (steps ≤ 2000000)
IsBounded t.Check = ⊤
IsBounded t.Code = ⊤
