-- What the answers of a parse mean.
use Rattle.std.specs.Prelude.{◌≡◌, ℕ, ◌<◌, List, [], ◌∷◌, ◌++◌, Some, Result, Ok, Err}
use Rattle.ac_tree.specs.declared.item.Program.{Program}
use Rattle.ac_lexer.specs.declared.token.Token.{Token}
use Rattle.ac_parser.specs.declared.faults.SyntaxFault.{SyntaxFault}
use Rattle.ac_parser.specs.declared.faults.SyntaxFault.TheVariants as f
use Rattle.reading_laws.specs.Marks.{Marked, tokens, Low, cut}
use Rattle.ac_parser.specs.SpellingOfItems.{ProgramSpells}

-- how deep a token may be
abbrev pub limit : ℕ
limit = 256

-- the place of the first token, or the length of the text where there is none
abbrev pub place_in : ℕ → List Token → ℕ
place_in len [] = len
place_in len (t ∷ ts) = t.span.at

-- With the first of these tokens no program begins; where there is none, the tokens before are no program.
abbrev pub Stuck : List Token → List Token → Type 0
Stuck used [] = (p : Program) (ms : List Marked) → ProgramSpells p ms → tokens ms ≡ used → ⊥
Stuck used (t ∷ ts) = (p : Program) (ms : List Marked) (more : List Token) → ProgramSpells p ms → tokens ms ≡ used ++ t ∷ more → ⊥

-- The tokens before the place begin some program, and with the next one they begin none; none before it is too deep.
pub record UnexpectedAt (len : ℕ) (ts : List Token) (at : ℕ) : Type 0 where
  pub used : List Marked
  pub rest : List Token
  pub split : ts ≡ tokens used ++ rest
  pub place : at ≡ place_in len rest
  pub low : Low limit used
  pub closing : List Marked
  pub tree : Program
  pub spells : ProgramSpells tree (used ++ closing)
  pub stuck : Stuck (tokens used) rest

-- The first token that is too deep. It and those before it begin some program, and in each program that they begin it is the first such.
pub record TooDeepAt (ts : List Token) (at : ℕ) : Type 0 where
  pub used : List Marked
  pub deep : Marked
  pub rest : List Token
  pub split : ts ≡ tokens used ++ deep.token ∷ rest
  pub place : at ≡ deep.token.span.at
  pub low : Low limit used
  pub over : limit < deep.depth
  pub closing : List Marked
  pub tree : Program
  pub spells : ProgramSpells tree (used ++ deep ∷ closing)
  pub always : (p : Program) (ms : List Marked) (more : List Token) → ProgramSpells p ms → tokens ms ≡ tokens used ++ deep.token ∷ more
      → cut limit ms [] ≡ Some (deep.token ∷ more)

-- The tokens spell the tree, none is too deep, and they spell no other.
pub record IsTree (ts : List Token) (p : Program) : Type 0 where
  pub marks : List Marked
  pub split : ts ≡ tokens marks
  pub low : Low limit marks
  pub spells : ProgramSpells p marks
  pub only : (q : Program) (ms : List Marked) → ProgramSpells q ms → tokens ms ≡ ts → p ≡ q

-- what a parse answers of the tokens of a text of that length
abbrev pub Parses : ℕ → List Token → Result Program SyntaxFault → Type 0
Parses len ts (Ok p) = IsTree ts p
Parses len ts (Err (f.Unexpected at)) = UnexpectedAt len ts at
Parses len ts (Err (f.TooDeep at)) = TooDeepAt ts at
Parses len ts (Err f.NoMemory) = Unit {0}
