-- Reading bytes from left to right: the functions that the proofs go by.
use Rattle.std.specs.Prelude.{◌≡◌, ℕ, ◌+◌, ◌^◌, Bool, true, false, not, ◌&&◌, ◌==◌, nat_lt, if◌then◌else◌, List, []}
use Rattle.std.specs.Prelude.{◌∷◌, ◌++◌, length, take, drop, Option, Some, None, option_map, Result, Ok, Err, pos}
use Rattle.std.specs.Str.{bytes_eq}
use Rattle.ac_lexer.specs.declared.token.Word.{Word}
use Rattle.ac_lexer.specs.declared.token.Word.TheVariants as w
use Rattle.ac_lexer.specs.declared.token.Mark.{Mark}
use Rattle.ac_lexer.specs.declared.token.Mark.TheVariants as m
use Rattle.ac_lexer.specs.declared.token.Kind.{Kind}
use Rattle.ac_lexer.specs.declared.token.Kind.TheVariants as k
use Rattle.ac_lexer.specs.declared.token.Token.{Token}
use Rattle.ac_lexer.specs.declared.piece.Piece.{Piece}
use Rattle.ac_lexer.specs.Spelling.{is_blank, is_letter, is_name, is_digit, is_zero, starts, value_of, letters, sign, placed}
use Rattle.ac_lexer.specs.declared.fault.LexFault.{LexFault}
use Rattle.ac_lexer.specs.declared.fault.LexFault.TheVariants as l
use Rattle.ac_lexer.specs.Tokens.{is_plain, escape_of, not_feed}

-- what a function returned is what reading gives, unless memory ran out
abbrev pub Gives : Result Piece LexFault → Result Piece LexFault → Type 0
Gives (Err l.NoMemory) read = Unit {0}
Gives given read = read ≡ given

-- ---- pieces

abbrev pub token_piece : Kind → ℕ → Piece
token_piece kind n = record { kind = Some kind; len = n }

abbrev pub gap_piece : ℕ → Piece
gap_piece n = record { kind = None; len = n }

-- the tokens with one more, if there is one
abbrev pub with_kind : List Token → ℕ → ℕ → Option Kind → List Token
with_kind ts at end (Some kind) = ts ++ placed kind at end ∷ []
with_kind ts at end None = ts

-- ---- runs

-- how many bytes at the front pass the test
abbrev pub run : (ℕ → Bool) → List ℕ → ℕ
run p [] = 0
run p (b ∷ bs) = if p b then 1 + run p bs else 0

-- ---- words

-- the first of the words with these letters
abbrev pub among : List Word → List ℕ → Option Word
among [] a = None
among (v ∷ vs) a = if bytes_eq a (letters v) then Some v else among vs a

-- the words of so many letters
abbrev pub words_of_two : List Word
words_of_two = w.Do ∷ w.If ∷ w.Ok ∷ []

abbrev pub words_of_three : List Word
words_of_three = w.Int ∷ w.For ∷ []

abbrev pub words_of_four : List Word
words_of_four = w.Void ∷ w.Else ∷ w.Core ∷ w.File ∷ w.Send ∷ w.Recv ∷ w.Read ∷ []

abbrev pub words_of_five : List Word
words_of_five = w.Async ∷ w.Yield ∷ w.While ∷ w.Break ∷ w.Write ∷ w.Fault ∷ []

abbrev pub long_words : List Word
long_words = w.Finish ∷ w.Cancel ∷ w.Return ∷ w.Printf ∷ w.Channel ∷ w.Continue ∷ w.Cancelled ∷ []

abbrev pub words_of : ℕ → List Word
words_of n = if n == 2 then words_of_two else (if n == 3 then words_of_three
    else (if n == 4 then words_of_four else (if n == 5 then words_of_five else long_words)))

unfoldable pub word_of : List ℕ → Option Word
word_of a = among (words_of (length a)) a

abbrev pub name_or_word : List ℕ → Option Word → Kind
name_or_word a (Some v) = k.Word v
name_or_word a None = k.Name a

-- the name or word at the front
unfoldable pub name_at : List ℕ → Piece
name_at text = let a = take (run is_name text) text in token_piece (name_or_word a (word_of a)) (run is_name text)

-- ---- marks

-- the first of the marks that begins with the byte
abbrev pub mark_among : List Mark → ℕ → Option Mark
mark_among [] b = None
mark_among (m ∷ ms) b = if starts (λ c. b == c) (sign m) then Some m else mark_among ms b

-- the marks of one byte
abbrev pub single_marks : List Mark
single_marks = m.Plus ∷ m.Minus ∷ m.Star ∷ m.Slash ∷ m.Percent ∷ m.Less ∷ m.More ∷ m.And ∷ m.Bar ∷ m.Caret ∷ m.Not ∷ m.Tilde ∷ m.Assign
    ∷ m.OpenParen ∷ m.CloseParen ∷ m.OpenBracket
    ∷ m.CloseBracket ∷ m.OpenBrace ∷ m.CloseBrace ∷ m.Comma ∷ m.Semicolon ∷ m.Colon ∷ []

-- the mark that is this byte alone
unfoldable pub mark_of_one : ℕ → Option Mark
mark_of_one b = mark_among single_marks b

-- the marks that end in `=`
abbrev pub equal_marks : List Mark
equal_marks = m.EqEq ∷ m.NotEq ∷ m.LessEq ∷ m.MoreEq ∷ []

-- the marks of one byte twice
abbrev pub double_marks : List Mark
double_marks = m.OrOr ∷ m.AndAnd ∷ m.Shl ∷ m.Shr ∷ []

-- the mark that is these two bytes
unfoldable pub mark_of_two : ℕ → ℕ → Option Mark
mark_of_two b c = if c == 61 then mark_among equal_marks b else (if c == b then mark_among double_marks b else None)

-- ---- texts

-- what a byte of a text means, after a backslash or not
abbrev pub means : Bool → ℕ → Option ℕ
means true b = escape_of b
means false b = if is_plain b then Some b else None

abbrev pub with_meaning : List ℕ → Option ℕ → List ℕ
with_meaning value (Some v) = value ++ v ∷ []
with_meaning value None = value

-- the byte has no meaning, and is no backslash before an escape
abbrev pub is_bad : Bool → ℕ → Option ℕ → Bool
is_bad escaped b (Some v) = false
is_bad true b None = true
is_bad false b None = not (b == 92)

abbrev pub first_of_two : Option ℕ → Bool → ℕ → Option ℕ
first_of_two (Some p) b q = Some p
first_of_two None true q = Some q
first_of_two None false q = None

-- a text that is closed after so many bytes
abbrev pub closed : ℕ → List ℕ → Option ℕ → Result Piece LexFault
closed n value None = Ok (token_piece (k.Text value) n)
closed n value (Some p) = Err (l.BadByte p)

-- a text whose opening quote stands at q, after i of its bytes
abbrev pub text_from : ℕ → ℕ → Bool → Option ℕ → List ℕ → List ℕ → Result Piece LexFault
text_from q i escaped bad value [] = Err (l.OpenText q)
text_from q i escaped bad value (b ∷ bs) = if b == 10 then Err (l.OpenText q) else (if b == 34 && not escaped then closed (i + 2) value bad
    else text_from q (i + 1) (b == 92 && not escaped) (first_of_two bad (is_bad escaped b (means escaped b)) (q + 1 + i))
    (with_meaning value (means escaped b)) bs)

-- ---- the whole language

unfoldable pub number_at : ℕ → List ℕ → Result Piece LexFault
number_at at text = if nat_lt (value_of 0 text) (2 ^ 63)
    then (if starts is_zero text && nat_lt 1 (run is_digit text) then Err (l.BadByte (at + 1))
    else (if starts is_letter (drop (run is_digit text) text) then Err (l.BadByte (at + run is_digit text))
    else Ok (token_piece (k.Number (pos (value_of 0 text))) (run is_digit text)))) else Err (l.NumberTooLarge at)

-- how many bytes there are up to the end of a comment, after a star or not
abbrev pub block_end : Bool → List ℕ → Option ℕ
block_end star [] = None
block_end star (b ∷ bs) = if star && b == 47 then Some 1 else option_map (λ n. n + 1) (block_end (b == 42) bs)

abbrev pub block_at : ℕ → Option ℕ → Result Piece LexFault
block_at at None = Err (l.OpenComment at)
block_at at (Some n) = Ok (gap_piece (n + 2))

abbrev pub mark_piece : Mark → ℕ → Result Piece LexFault
mark_piece m n = Ok (token_piece (k.Mark m) n)

-- after a slash
abbrev pub slash_at : ℕ → List ℕ → Result Piece LexFault
slash_at at [] = mark_piece m.Slash 1
slash_at at (c ∷ cs) = if c == 47 then Ok (gap_piece (run not_feed cs + 2))
    else (if c == 42 then block_at at (block_end false cs) else mark_piece m.Slash 1)

abbrev pub single_at : ℕ → Option Mark → Result Piece LexFault
single_at at (Some m) = mark_piece m 1
single_at at None = Err (l.BadByte at)

abbrev pub double_at : ℕ → Option Mark → Option Mark → Result Piece LexFault
double_at at (Some m) o = mark_piece m 2
double_at at None o = single_at at o

-- after a byte that begins neither a name, a number nor a text
abbrev pub mark_at : ℕ → ℕ → List ℕ → Result Piece LexFault
mark_at at b [] = single_at at (mark_of_one b)
mark_at at b (c ∷ cs) = double_at at (mark_of_two b c) (mark_of_one b)

-- what stands at a place
unfoldable pub piece_at : ℕ → List ℕ → Result Piece LexFault
piece_at at [] = Err (l.BadByte at)
piece_at at (b ∷ bs) = if is_blank b then Ok (gap_piece 1)
    else (if is_letter b then Ok (name_at (b ∷ bs)) else
    (if is_digit b then number_at at (b ∷ bs) else (if b == 34 then text_from at 0 false None [] bs
    else (if b == 47 then slash_at at bs else mark_at at b bs))))
