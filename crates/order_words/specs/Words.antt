-- Which words form a call of the program.
use Rattle.std.specs.Prelude.{◌≡◌, ◌≢◌, ℕ, ◌≤◌, List, [], ◌∷◌, ◌++◌, length, slice_index, codes}
use Rattle.std.specs.Str.Parse.{AllDigits, digits_value}
use Rattle.ac_words.specs.Words.{IsPlain}

-- the word is a number in decimal: 1 to 9 digits, of which the first is not 0 where there are more
pub record IsNumber (word : List ℕ) (number : ℕ) : Type 0 where
  pub some : 1 ≤ length word
  pub few : length word ≤ 9
  pub digits : AllDigits 10 word
  pub first : 2 ≤ length word → slice_index word 0 ≢ 48
  pub value : number ≡ digits_value 10 word

-- the word is these numbers, joined by commas
pub data IsNumbers : List ℕ → List ℕ → Type 0 where
  one_number : (word numbers : List ℕ) (number : ℕ) → numbers ≡ number ∷ [] → IsNumber word number → IsNumbers word numbers
  and_others : (word numbers front rest : List ℕ) (number : ℕ) (others : List ℕ) → word ≡ front ++ (44 ∷ rest) →
      numbers ≡ number ∷ others → IsNumber front number → IsNumbers rest others → IsNumbers word numbers

-- the word is some numbers
pub record IsOfNumbers (word : List ℕ) : Type 0 where
  pub numbers : List ℕ
  pub are : IsNumbers word numbers

-- What is asked of a run: how one entry stands to another, or how the cores end at the cut of these counts.
pub data Question : Type 0 where
  Orders : ℕ → ℕ → Question
  Cuts : List ℕ → Question

-- the operands are two numbers
pub record AreEntries (operands : List (List ℕ)) (one other : ℕ) : Type 0 where
  pub first : List ℕ
  pub second : List ℕ
  pub two : operands ≡ first ∷ second ∷ []
  pub is_one : IsNumber first one
  pub is_other : IsNumber second other

-- there is one operand, which is these counts
pub record AreCounts (operands : List (List ℕ)) (counts : List ℕ) : Type 0 where
  pub word : List ℕ
  pub one : operands ≡ word ∷ []
  pub are : IsNumbers word counts

-- the command asks this with these operands behind the two files
abbrev pub Asks : List ℕ → List (List ℕ) → Question → Type 0
Asks command operands (Orders i j) = (command ≡ codes "order") × AreEntries operands i j
Asks command operands (Cuts counts) = (command ≡ codes "cut") × AreCounts operands counts

-- what words ask of the program of a file and of the run that the trace of another tells
pub record Asked : Type 0 where
  pub file : List ℕ
  pub trace : List ℕ
  pub question : Question

-- the words are a command, the two files, neither of which begins with `-`, and operands that ask this
pub record IsCall (words : List (List ℕ)) (asked : Asked) : Type 0 where
  pub command : List ℕ
  pub operands : List (List ℕ)
  pub form : words ≡ command ∷ asked.file ∷ asked.trace ∷ operands
  pub file_plain : IsPlain asked.file
  pub trace_plain : IsPlain asked.trace
  pub asks : Asks command operands asked.question
