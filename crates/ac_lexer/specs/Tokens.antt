-- Which tokens, or which fault, a text has: the whole text cut into tokens, blanks and comments.
use Rattle.std.specs.Prelude.{◌≡◌, ◌==◌, ◌&&◌, nat_le, not, if◌then◌else◌, ℕ, ◌+◌, ◌^◌, ◌<◌, ◌≤◌, Bool, true}
use Rattle.std.specs.Prelude.{false, List, [], ◌∷◌, ◌++◌, length, Option, Some, None, Result, Ok, Err, pos}
use Rattle.ac_lexer.specs.declared.token.Word.{Word}
use Rattle.ac_lexer.specs.declared.token.Mark.{Mark}
use Rattle.ac_lexer.specs.declared.token.Kind.{Kind}
use Rattle.ac_lexer.specs.declared.token.Kind.TheVariants as k
use Rattle.ac_lexer.specs.declared.token.Token.{Token}
use Rattle.ac_lexer.specs.declared.fault.LexFault.{LexFault}
use Rattle.ac_lexer.specs.declared.fault.LexFault.TheVariants as l
use Rattle.ac_lexer.specs.Spelling.{is_blank, is_letter, is_name, is_digit, is_zero, Each, starts, value_of, letters, sign, placed}

-- ---- the spelling of tokens

-- a byte that stands for itself in a text: from the space to `~`, and neither a quote nor a backslash
abbrev pub is_plain : ℕ → Bool
is_plain b = nat_le 32 b && nat_le b 126 && not (b == 34) && not (b == 92)

-- what the byte after a backslash stands for: `n`, `t`, the backslash and the quote have a meaning
abbrev pub escape_of : ℕ → Option ℕ
escape_of b = if b == 110 then Some 10 else (if b == 116 then Some 9
    else (if b == 92 then Some 92 else (if b == 34 then Some 34 else None)))

-- the bytes between the quotes of a text, and its value
pub data Body : List ℕ → List ℕ → Type 0 where
  body_end : Body [] []
  body_plain : (b : ℕ) (bs vs : List ℕ) → is_plain b ≡ true → Body bs vs → Body (b ∷ bs) (b ∷ vs)
  body_escape : (b v : ℕ) (bs vs : List ℕ) → escape_of b ≡ Some v → Body bs vs → Body (92 ∷ b ∷ bs) (v ∷ vs)

-- the bytes of a token of that kind
pub data Spelled : Kind → List ℕ → Type 0 where
  name : (b : ℕ) (bs : List ℕ) → is_letter b ≡ true → Each is_name bs → ((w : Word) → b ∷ bs ≡ letters w → ⊥)
      → Spelled (k.Name (b ∷ bs)) (b ∷ bs)
  word : (w : Word) → Spelled (k.Word w) (letters w)
  nought : Spelled (k.Number (pos 0)) (48 ∷ [])
  number : (b : ℕ) (bs : List ℕ) → is_digit b ≡ true → is_zero b ≡ false → Each is_digit bs → value_of 0 (b ∷ bs) < 2 ^ 63
      → Spelled (k.Number (pos (value_of 0 (b ∷ bs)))) (b ∷ bs)
  text : (bs vs : List ℕ) → Body bs vs → Spelled (k.Text vs) (34 ∷ (bs ++ 34 ∷ []))
  mark : (m : Mark) → Spelled (k.Mark m) (sign m)

-- ---- gaps between tokens

-- any byte but a line feed
abbrev pub not_feed : ℕ → Bool
not_feed b = not (b == 10)

-- no star stands directly before a slash
abbrev pub NoEnd : List ℕ → Type 0
NoEnd bs = (x y : List ℕ) → bs ≡ x ++ 42 ∷ 47 ∷ y → ⊥

-- a blank or a comment, and what follows it
pub data Gap : List ℕ → List ℕ → Type 0 where
  blank : (b : ℕ) (rest : List ℕ) → is_blank b ≡ true → Gap (b ∷ []) rest
  -- the line feed that ends a line comment is none of its bytes
  line : (a rest : List ℕ) → Each not_feed a → starts not_feed rest ≡ false → Gap (47 ∷ 47 ∷ a) rest
  block : (a rest : List ℕ) → NoEnd (a ++ 42 ∷ []) → Gap (47 ∷ 42 ∷ (a ++ 42 ∷ 47 ∷ [])) rest

-- ---- faults

-- what may stand between two quotes of a line, good or bad: a backslash takes the byte after it along
pub data Line : List ℕ → Type 0 where
  line_over : Line []
  line_byte : (b : ℕ) (bs : List ℕ) → (b == 10) ≡ false → (b == 34) ≡ false → (b == 92) ≡ false → Line bs → Line (b ∷ bs)
  line_escape : (b : ℕ) (bs : List ℕ) → (b == 10) ≡ false → Line bs → Line (92 ∷ b ∷ bs)

-- the line or the text ends, also directly after a backslash
pub data Ends : List ℕ → Type 0 where
  ends_text : Ends []
  ends_feed : (bs : List ℕ) → Ends (10 ∷ bs)
  ends_text_after : Ends (92 ∷ [])
  ends_feed_after : (bs : List ℕ) → Ends (92 ∷ 10 ∷ bs)

-- bytes of a line that no text has there, and how many stand before the bad one
pub data Bad : List ℕ → ℕ → Type 0 where
  bad_byte : (b : ℕ) → (b == 10) ≡ false → (b == 34) ≡ false → (b == 92) ≡ false → is_plain b ≡ false → Bad (b ∷ []) 0
  bad_escape : (b : ℕ) → (b == 10) ≡ false → escape_of b ≡ None → Bad (92 ∷ b ∷ []) 1

-- the fault of the bytes that stand at a place
pub data FaultHere (at : ℕ) : List ℕ → LexFault → Type 0 where
  stray : (b : ℕ) (bs : List ℕ) → is_blank b ≡ false → ((j : Kind) (cs : List ℕ) → Spelled j (b ∷ cs) → ⊥)
      → FaultHere at (b ∷ bs) (l.BadByte at)
  after_zero : (d : ℕ) (a rest : List ℕ) → Each is_digit (d ∷ a) → starts is_digit rest ≡ false → value_of 0 (48 ∷ d ∷ a) < 2 ^ 63
      → FaultHere at (48 ∷ d ∷ (a ++ rest)) (l.BadByte (at + 1))
  after_number : (b c : ℕ) (a rest : List ℕ) → Each is_digit (b ∷ a) → (is_zero b ≡ true → a ≡ []) → is_letter c ≡ true
      → value_of 0 (b ∷ a) < 2 ^ 63
      → FaultHere at (b ∷ (a ++ c ∷ rest)) (l.BadByte (at + length (b ∷ a)))
  large : (b : ℕ) (a rest : List ℕ) → Each is_digit (b ∷ a) → starts is_digit rest ≡ false → 2 ^ 63 ≤ value_of 0 (b ∷ a)
      → FaultHere at (b ∷ (a ++ rest)) (l.NumberTooLarge at)
  open_comment : (bs : List ℕ) → NoEnd bs → FaultHere at (47 ∷ 42 ∷ bs) (l.OpenComment at)
  open_text : (a rest : List ℕ) → Line a → Ends rest → FaultHere at (34 ∷ (a ++ rest)) (l.OpenText at)
  in_text : (a vs u c rest : List ℕ) (p : ℕ) → Body a vs → Bad u p → Line c
      → FaultHere at (34 ∷ (a ++ (u ++ (c ++ 34 ∷ rest)))) (l.BadByte (at + 1 + length a + p))

-- ---- tokens at their places

-- a spells the longest token that stands before rest, and no comment and no fault begins there
pub record Stands (at : ℕ) (kind : Kind) (a rest : List ℕ) : Type 0 where
  pub spelled : Spelled kind a
  pub longest : (c : ℕ) (cs d : List ℕ) (j : Kind) → rest ≡ c ∷ (cs ++ d) → Spelled j (a ++ c ∷ cs) → ⊥
  pub no_line : (x : List ℕ) → a ++ rest ≡ 47 ∷ 47 ∷ x → ⊥
  pub no_block : (x : List ℕ) → a ++ rest ≡ 47 ∷ 42 ∷ x → ⊥
  pub sound : (f : LexFault) → FaultHere at (a ++ rest) f → ⊥

-- the token, and then what follows
abbrev pub before : Token → Result (List Token) LexFault → Result (List Token) LexFault
before t (Ok ts) = Ok (t ∷ ts)
before t (Err f) = Err f

-- the tokens of the bytes of a text from a place on, or its first fault there
pub data LexesFrom : ℕ → List ℕ → Result (List Token) LexFault → Type 0 where
  end : (at : ℕ) → LexesFrom at [] (Ok [])
  gap : (at : ℕ) (a rest : List ℕ) (r : Result (List Token) LexFault) → Gap a rest → LexesFrom (at + length a) rest r
      → LexesFrom at (a ++ rest) r
  token : (at : ℕ) (kind : Kind) (a rest : List ℕ) (r : Result (List Token) LexFault) → Stands at kind a rest
      → LexesFrom (at + length a) rest r
      → LexesFrom at (a ++ rest) (before (placed kind at (at + length a)) r)
  fault : (at : ℕ) (bs : List ℕ) (f : LexFault) → FaultHere at bs f → LexesFrom at bs (Err f)

-- the text has no fault, and these are its tokens in order
abbrev pub IsTokensOf : List ℕ → List Token → Type 0
IsTokensOf bytes tokens = LexesFrom 0 bytes (Ok tokens)

-- the fault of least place that the text has
abbrev pub IsFirstFaultOf : List ℕ → LexFault → Type 0
IsFirstFaultOf bytes f = LexesFrom 0 bytes (Err f)

-- the greatest length of a text in bytes
abbrev pub max_len : ℕ
max_len = 1048576

-- what is answered of a text that is not too long is its tokens or its first fault, unless memory ran out
abbrev pub Lexes : List ℕ → Result (List Token) LexFault → Type 0
Lexes bytes (Ok tokens) = IsTokensOf bytes tokens
Lexes bytes (Err l.TooLong) = Unit {0}
Lexes bytes (Err l.NoMemory) = Unit {0}
Lexes bytes (Err f) = IsFirstFaultOf bytes f

-- what is answered of a text that is not too long is this, unless memory ran out
abbrev pub Answers : Result (List Token) LexFault → Result (List Token) LexFault → Type 0
Answers (Err l.TooLong) other = Unit {0}
Answers (Err l.NoMemory) other = Unit {0}
Answers given other = other ≡ given
