-- How the words that are left complete a call, after some have been read.
use Rattle.std.specs.Prelude.{◌≡◌, ◌≢◌, ℕ, List, [], ◌∷◌, ◌++◌, ◌≤◌, length, All, None, Some, codes}
use Rattle.std.specs.declared.option.Option.{Option}
use Rattle.ac_words.specs.Words.{IsPlain, IsBound, IsArguments}
use Rattle.ac_words.specs.declared.scan.Operands.{Operands}
use Rattle.ac_words.specs.declared.scan.Operands.TheVariants.{Zero, One, Two}
use Rattle.ac_words.specs.declared.scan.Next.{Next}
use Rattle.ac_words.specs.declared.scan.Next.TheVariants.{Any, Value, Operand}
use Rattle.ac_words.specs.declared.scan.WordKind.{WordKind}
use Rattle.ac_words.specs.declared.scan.WordKind.TheVariants.{Plain, OnlyOperands, Steps, StepsAre, Other}
use Rattle.ac_words.specs.declared.scan.Scan.{Scan}

-- the operands that were read
abbrev pub texts_of : Operands → List (List ℕ)
texts_of Zero = []
texts_of (One first) = first.now ∷ []
texts_of (Two first second) = first.now ∷ second.now ∷ []

-- those that were read and those to come are these, which are two at most
pub record AreMeant (read others operands : List (List ℕ)) : Type 0 where
  pub all : operands ≡ read ++ others
  pub few : length operands ≤ 2

-- the bound that was read, if one was, and the one to come, if there is one, are at most one: the bound that is given
abbrev pub IsMeant : Option ℕ → Option ℕ → Option ℕ → Type 0
IsMeant None more given = given ≡ more
IsMeant (Some read) more given = (more ≡ None) × (given ≡ Some read)

-- the words are arguments
pub record CompletesAny (read : List (List ℕ)) (bound : Option ℕ) (words operands : List (List ℕ)) (given : Option ℕ) : Type 0 where
  pub others : List (List ℕ)
  pub more : Option ℕ
  pub arguments : IsArguments words others more
  pub all : AreMeant read others operands
  pub meant : IsMeant bound more given

-- the words are a bound and then arguments
pub record CompletesValue (read : List (List ℕ)) (words operands : List (List ℕ)) (given : Option ℕ) : Type 0 where
  pub value : List ℕ
  pub rest : List (List ℕ)
  pub number : ℕ
  pub split : words ≡ value ∷ rest
  pub is_bound : IsBound value number
  pub completes : CompletesAny read (Some number) rest operands given

-- the words are operands
pub record CompletesOperands (read : List (List ℕ)) (bound : Option ℕ) (words operands : List (List ℕ)) (given : Option ℕ) : Type 0 where
  pub named : All (λ operand. operand ≢ codes "-") words
  pub all : AreMeant read words operands
  pub meant : IsMeant bound None given

abbrev pub CompletesNext : Next → List (List ℕ) → Option ℕ → List (List ℕ) → List (List ℕ) → Option ℕ → Type 0
CompletesNext Any read bound words operands given = CompletesAny read bound words operands given
CompletesNext Value read bound words operands given = CompletesValue read words operands given
CompletesNext Operand read bound words operands given = CompletesOperands read bound words operands given

-- after this scan, the words that are left complete these operands and, where one is given, this bound on steps
abbrev pub Completes : Scan → List (List ℕ) → List (List ℕ) → Option ℕ → Type 0
Completes scan words operands given = CompletesNext scan.next (texts_of scan.operands) scan.steps words operands given

-- the word starts with `-`, and is neither `--` nor `--steps` nor a bound joined to it
pub record IsOther (word : List ℕ) : Type 0 where
  pub not_plain : IsPlain word → ⊥
  pub not_operands : word ≢ codes "--"
  pub not_steps : word ≢ codes "--steps"
  pub not_joined : (value : List ℕ) → word ≢ codes "--steps=" ++ value

abbrev pub IsKind : List ℕ → WordKind → Type 0
IsKind word Plain = IsPlain word
IsKind word OnlyOperands = word ≡ codes "--"
IsKind word Steps = word ≡ codes "--steps"
IsKind word (StepsAre value) = word ≡ codes "--steps=" ++ value.now
IsKind word Other = IsOther word
