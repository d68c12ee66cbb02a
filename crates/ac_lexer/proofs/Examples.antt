-- Small texts, and the tokens or the fault that the definition gives them; before them bytes, spellings, gaps and faults by their cases.
-- A text is read by computing (Lexed), so the definition has what is read; that it has nothing else is shown by `lexes_only`.
use Rattle.std.proofs.Common.{◌≡◌, ℕ, pos, true, false, List, [], ◌∷◌, ◌++◌, map, codes, Some, None, Result, Ok, Err, refl}
use Rattle.ac_lexer.specs.declared.fault.LexFault.{LexFault}
use Rattle.ac_lexer.specs.declared.fault.LexFault.TheVariants as l
use Rattle.ac_lexer.specs.declared.token.Word.TheVariants as w
use Rattle.ac_lexer.specs.declared.token.Mark.TheVariants as m
use Rattle.ac_lexer.specs.declared.token.Kind.TheVariants as k
use Rattle.ac_lexer.specs.declared.token.Token.{Token}
use Rattle.ac_lexer.specs.Spelling.{is_blank, is_digit, is_letter, is_name, is_zero, Each, starts, value_of, letters, sign, placed}
use Rattle.ac_lexer.specs.inner.Reading.{piece_at, name_at, word_of, mark_of_one, mark_of_two, number_at}
use Rattle.ac_lexer.specs.Tokens.{is_plain, escape_of, Body, body_end, body_plain, body_escape, Spelled, word, text, not_feed, NoEnd, Gap, blank, line, block}
use Rattle.ac_lexer.specs.Tokens.{Line, line_over, line_byte, line_escape, Ends, ends_text, ends_feed, ends_text_after, ends_feed_after, Bad, bad_byte, bad_escape, FaultHere, open_comment}
use Rattle.ac_lexer.specs.Tokens.{before, LexesFrom, IsTokensOf, IsFirstFaultOf, max_len, Lexes}
use Rattle.ac_lexer.proofs.Lexed.{lexes, lexes_only, kinds_in}

abbrev given : List Token → Result (List Token) LexFault
given tokens = Ok tokens

-- ---- bytes

-- a space, a tab, a carriage return, a line feed, and then a form feed
pub blanks : map is_blank (32 ∷ 9 ∷ 13 ∷ 10 ∷ 12 ∷ []) ≡ true ∷ true ∷ true ∷ true ∷ false ∷ []
blanks = refl

-- with the bytes before the first and after the last
pub digits : map is_digit (codes "/09:") ≡ false ∷ true ∷ true ∷ false ∷ []
digits = refl

pub some_letters : map is_letter (codes "@AZ[_`az{5") ≡ false ∷ true ∷ true ∷ false ∷ true ∷ false ∷ true ∷ true ∷ false ∷ false ∷ []
some_letters = refl

pub in_names : map is_name (codes "a_5-") ≡ true ∷ true ∷ true ∷ false ∷ []
in_names = refl

pub zeros : map is_zero (codes "01") ≡ true ∷ false ∷ []
zeros = refl

pub only_digits : Each is_digit (codes "07")
only_digits = (refl, (refl, tt))

pub not_only_digits : Each is_digit (codes "0a") → ⊥
not_only_digits h = let e = h.1.0 in cc

pub the_first_alone_counts : starts is_digit (codes "7a") ∷ starts is_digit (codes "a7") ∷ starts is_digit [] ∷ [] ≡ true ∷ false ∷ false ∷ []
the_first_alone_counts = refl

-- also after digits of the value 4, and up to the first byte that is none
pub values : value_of 0 (codes "203") ∷ value_of 4 (codes "2x5") ∷ [] ≡ 203 ∷ 42 ∷ []
values = refl

pub two_words : letters w.Finish ∷ letters w.Cancelled ∷ [] ≡ codes "finish" ∷ codes "CANCELLED" ∷ []
two_words = refl

pub two_marks : sign m.Shl ∷ sign m.Caret ∷ [] ≡ codes "<<" ∷ codes "^" ∷ []
two_marks = refl

-- the bytes round the space and the tilde, the quote and the backslash
pub plain_bytes : map is_plain (31 ∷ 32 ∷ 126 ∷ 127 ∷ 34 ∷ 92 ∷ []) ≡ false ∷ true ∷ true ∷ false ∷ false ∷ false ∷ []
plain_bytes = refl

pub escapes : map escape_of (codes "nt\\\"r") ≡ Some 10 ∷ Some 9 ∷ Some 92 ∷ Some 34 ∷ None ∷ []
escapes = refl

pub all_but_a_line_feed : map not_feed (10 ∷ 13 ∷ []) ≡ false ∷ true ∷ []
all_but_a_line_feed = refl

-- ---- parts of tokens and of gaps

pub a_body : Body (codes "a\\n") (97 ∷ 10 ∷ [])
a_body = body_plain _ _ _ refl (body_escape _ _ _ _ refl body_end)

pub a_backslash_alone_is_none : (vs : List ℕ) → Body (92 ∷ []) vs → ⊥
a_backslash_alone_is_none _ (body_plain b bs vs h d) = cc

pub spelled_with_quotes : Spelled (k.Text (97 ∷ 10 ∷ [])) (codes "\"a\\n\"")
spelled_with_quotes = text _ _ a_body

pub a_word_is_spelled : Spelled (k.Word w.Do) (codes "do")
a_word_is_spelled = word w.Do

rest_is : {b c : ℕ} {bs cs : List ℕ} → b ∷ bs ≡ c ∷ cs → bs ≡ cs
rest_is e = cc

not_in_nothing : (x y : List ℕ) → [] ≡ x ++ 42 ∷ 47 ∷ y → ⊥
not_in_nothing [] y e = cc
not_in_nothing (a ∷ x) y e = cc

-- a star alone
pub no_end_of_a_comment : NoEnd (42 ∷ [])
no_end_of_a_comment [] y e = let rest : [] ≡ 47 ∷ y = rest_is e in cc rest
no_end_of_a_comment (a ∷ x) y e = not_in_nothing x y (rest_is e)

pub the_end_of_a_comment : NoEnd (codes "a*/") → ⊥
the_end_of_a_comment h = h (codes "a") [] refl

pub a_blank_is_a_gap : Gap (codes "\t") (codes "x")
a_blank_is_a_gap = blank _ _ refl

pub a_line_comment_is_a_gap : Gap (codes "//a") (codes "\nx")
a_line_comment_is_a_gap = line (codes "a") _ (refl, tt) refl

pub a_block_comment_is_a_gap : Gap (codes "/**/") (codes "x")
a_block_comment_is_a_gap = block [] _ no_end_of_a_comment

pub not_closed : FaultHere 7 (codes "/**") (l.OpenComment 7)
not_closed = open_comment _ no_end_of_a_comment

-- the quote is the escape's
pub within_a_line : Line (codes "a\\\"b")
within_a_line = line_byte _ _ refl refl refl (line_escape _ _ refl (line_byte _ _ refl refl refl line_over))

pub a_quote_is_not_within : Line (34 ∷ []) → ⊥
a_quote_is_not_within (line_byte b bs e f g d) = cc

pub ends_of_a_line : Ends [] × Ends (codes "\nx") × Ends (codes "\\") × Ends (codes "\\\nx")
ends_of_a_line = (ends_text, ends_feed _, ends_text_after, ends_feed_after _)

pub no_end_of_a_line : Ends (codes "x") → ⊥
no_end_of_a_line h = elim h [ ]

-- a tab, and a `q` after a backslash
pub bad_bytes : Bad (codes "\t") 0 × Bad (codes "\\q") 1
bad_bytes = (bad_byte _ refl refl refl refl, bad_escape _ refl refl)

pub a_good_byte : Bad (codes "a") 0 → ⊥
a_good_byte (bad_byte b e f g h) = cc

-- ---- tokens and their places

pub before_the_others : before (placed (k.Mark m.Comma) 0 1) (Ok (placed (k.Mark m.Comma) 1 2 ∷ [])) ≡ Ok (placed (k.Mark m.Comma) 0 1 ∷ placed (k.Mark m.Comma) 1 2 ∷ [])
before_the_others = refl

pub before_a_fault : before (placed (k.Mark m.Comma) 0 1) (Err (l.BadByte 1)) ≡ Err (l.BadByte 1)
before_a_fault = refl

pub the_empty_text : IsTokensOf [] []
the_empty_text = lexes 9 0 _ _ refl

-- a token ends where the next begins
pub a_sum : IsTokensOf (codes "1+23") (placed (k.Number (pos 1)) 0 1 ∷ placed (k.Mark m.Plus) 1 2 ∷ placed (k.Number (pos 23)) 2 4 ∷ [])
unfolding piece_at number_at mark_of_one mark_of_two
a_sum = lexes 9 0 _ _ refl

-- blanks are none of its bytes
pub an_item : IsTokensOf (codes "core a1;") (placed (k.Word w.Core) 0 4 ∷ placed (k.Name (codes "a1")) 5 7 ∷ placed (k.Mark m.Semicolon) 7 8 ∷ [])
unfolding piece_at name_at word_of mark_of_one mark_of_two
an_item = lexes 9 0 _ _ refl

-- a space, a tab, a carriage return and a line feed
pub four_blanks : IsTokensOf (codes " \t\r\n;") (placed (k.Mark m.Semicolon) 4 5 ∷ [])
unfolding piece_at mark_of_one mark_of_two
four_blanks = lexes 9 0 _ _ refl

-- a form feed is none
pub no_blank : IsFirstFaultOf (12 ∷ codes ";") (l.BadByte 0)
unfolding piece_at mark_of_one mark_of_two
no_blank = lexes 9 0 _ _ refl

-- ---- words and names

pub all_words : kinds_in (codes "int void async do finish cancel yield if else while for break continue return core channel file printf Send Recv Read Write OK CANCELLED FAULT")
    ≡ map k.Word (w.Int ∷ w.Void ∷ w.Async ∷ w.Do ∷ w.Finish ∷ w.Cancel ∷ w.Yield ∷ w.If ∷ w.Else ∷ w.While ∷ w.For ∷ w.Break ∷ w.Continue ∷ w.Return ∷ w.Core ∷ w.Channel ∷ w.File ∷ w.Printf
    ∷ w.Send ∷ w.Recv ∷ w.Read ∷ w.Write ∷ w.Ok ∷ w.Cancelled ∷ w.Fault ∷ [])
unfolding piece_at name_at word_of
all_words = refl

-- the whole name counts, and its letters as they are
pub no_words : kinds_in (codes "ints Int _int in ok send int_ _ A0z_9Z") ≡ map k.Name (codes "ints" ∷ codes "Int" ∷ codes "_int" ∷ codes "in" ∷ codes "ok" ∷ codes "send" ∷ codes "int_"
    ∷ codes "_" ∷ codes "A0z_9Z" ∷ [])
unfolding piece_at name_at word_of
no_words = refl

-- ---- marks

pub all_marks : kinds_in (codes "|| && == != <= >= << >> + - * / % < > & | ^ ! ~ = ( ) [ ] { } , ; :")
    ≡ map k.Mark (m.OrOr ∷ m.AndAnd ∷ m.EqEq ∷ m.NotEq ∷ m.LessEq ∷ m.MoreEq ∷ m.Shl ∷ m.Shr ∷ m.Plus ∷ m.Minus ∷ m.Star ∷ m.Slash ∷ m.Percent ∷ m.Less ∷ m.More ∷ m.And ∷ m.Bar ∷ m.Caret ∷ m.Not
    ∷ m.Tilde ∷ m.Assign ∷ m.OpenParen ∷ m.CloseParen ∷ m.OpenBracket ∷ m.CloseBracket ∷ m.OpenBrace ∷ m.CloseBrace ∷ m.Comma ∷ m.Semicolon ∷ m.Colon ∷ [])
unfolding piece_at mark_of_one mark_of_two
all_marks = refl

-- the longest that stands there
pub the_longest_mark : IsTokensOf (codes "<<=") (placed (k.Mark m.Shl) 0 2 ∷ placed (k.Mark m.Assign) 2 3 ∷ [])
unfolding piece_at mark_of_one mark_of_two
the_longest_mark = lexes 9 0 _ _ refl

pub three_signs : IsTokensOf (codes "===") (placed (k.Mark m.EqEq) 0 2 ∷ placed (k.Mark m.Assign) 2 3 ∷ [])
unfolding piece_at mark_of_one mark_of_two
three_signs = lexes 9 0 _ _ refl

-- the same tokens as the text has, and no others
pub not_the_shorter : IsTokensOf (codes "<<") (placed (k.Mark m.Less) 0 1 ∷ placed (k.Mark m.Less) 1 2 ∷ []) → ⊥
unfolding piece_at mark_of_one mark_of_two
not_the_shorter d = differ (lexes_only 9 0 (codes "<<") (Ok (placed (k.Mark m.Shl) 0 2 ∷ [])) (Ok (placed (k.Mark m.Less) 0 1 ∷ placed (k.Mark m.Less) 1 2 ∷ [])) refl d) where
  differ : {s t u : Token} → given (s ∷ t ∷ []) ≡ Ok (u ∷ []) → ⊥
  differ h = cc

-- ---- numbers

pub the_largest_number : IsTokensOf (codes "9223372036854775807") (placed (k.Number (pos 9223372036854775807)) 0 19 ∷ [])
unfolding piece_at number_at
the_largest_number = lexes 9 0 _ _ refl

pub too_large : IsFirstFaultOf (codes "9223372036854775808") (l.NumberTooLarge 0)
unfolding piece_at number_at
too_large = lexes 9 0 _ _ refl

pub nought : IsTokensOf (codes "0") (placed (k.Number (pos 0)) 0 1 ∷ [])
unfolding piece_at number_at
nought = lexes 9 0 _ _ refl

-- the digit after a first nought
pub a_nought_in_front : IsFirstFaultOf (codes "007") (l.BadByte 1)
unfolding piece_at number_at
a_nought_in_front = lexes 9 0 _ _ refl

-- the letter after a number
pub a_letter_after_a_number : IsFirstFaultOf (codes "12a") (l.BadByte 2)
unfolding piece_at number_at
a_letter_after_a_number = lexes 9 0 _ _ refl

-- which is asked for after the size
pub a_letter_after_one_too_large : IsFirstFaultOf (codes "9223372036854775808a") (l.NumberTooLarge 0)
unfolding piece_at number_at
a_letter_after_one_too_large = lexes 9 0 _ _ refl

-- it has no tokens
pub no_tokens : (tokens : List Token) → IsTokensOf (codes "007") tokens → ⊥
unfolding piece_at number_at
no_tokens tokens d = not_both (lexes_only 9 0 (codes "007") (Err (l.BadByte 1)) (Ok tokens) refl d) where
  not_both : {ts : List Token} {f : LexFault} → Ok ts ≡ Err f → ⊥
  not_both h = cc

-- so the fault alone may be answered
pub the_fault_is_answered : Lexes (codes "007") (Err (l.BadByte 1))
the_fault_is_answered = a_nought_in_front

pub tokens_are_not : (tokens : List Token) → Lexes (codes "007") (Ok tokens) → ⊥
tokens_are_not = no_tokens

-- ---- comments

-- a comment is a gap, also at the end of the text
pub two_comments : IsTokensOf (codes "/* x */;// y") (placed (k.Mark m.Semicolon) 7 8 ∷ [])
unfolding piece_at mark_of_one mark_of_two
two_comments = lexes 9 0 _ _ refl

-- a line comment ends with its line
pub the_next_line : IsTokensOf (codes "//;\n;") (placed (k.Mark m.Semicolon) 4 5 ∷ [])
unfolding piece_at mark_of_one mark_of_two
the_next_line = lexes 9 0 _ _ refl

-- a block comment ends with the first `*/`, also after further stars
pub the_first_end : IsTokensOf (codes "/***/*/**/") (placed (k.Mark m.Star) 5 6 ∷ [])
unfolding piece_at mark_of_one mark_of_two
the_first_end = lexes 9 0 _ _ refl

-- of which its first star is none
pub an_open_comment : IsFirstFaultOf (codes "; /*/") (l.OpenComment 2)
unfolding piece_at mark_of_one mark_of_two
an_open_comment = lexes 9 0 _ _ refl

-- ---- texts

-- a text's value has its escapes replaced
pub a_text : IsTokensOf (codes "\"%d\\n\"") (placed (k.Text (codes "%d\n")) 0 6 ∷ [])
unfolding piece_at
a_text = lexes 9 0 _ _ refl

pub four_escapes : IsTokensOf (codes "\"\\n\\t\\\\\\\"\"") (placed (k.Text (10 ∷ 9 ∷ 92 ∷ 34 ∷ [])) 0 10 ∷ [])
unfolding piece_at
four_escapes = lexes 9 0 _ _ refl

pub an_empty_text : IsTokensOf (codes "\"\"") (placed (k.Text []) 0 2 ∷ [])
unfolding piece_at
an_empty_text = lexes 9 0 _ _ refl

-- from the space to the tilde
pub the_first_and_the_last_byte : IsTokensOf (codes "\" ~\"") (placed (k.Text (32 ∷ 126 ∷ [])) 0 4 ∷ [])
unfolding piece_at
the_first_and_the_last_byte = lexes 9 0 _ _ refl

pub a_byte_before_them : IsFirstFaultOf (34 ∷ 31 ∷ 34 ∷ []) (l.BadByte 1)
unfolding piece_at
a_byte_before_them = lexes 9 0 _ _ refl

pub a_byte_after_them : IsFirstFaultOf (34 ∷ 97 ∷ 127 ∷ 34 ∷ []) (l.BadByte 2)
unfolding piece_at
a_byte_after_them = lexes 9 0 _ _ refl

-- the byte after the backslash
pub no_escape : IsFirstFaultOf (codes "\"\\q\"") (l.BadByte 2)
unfolding piece_at
no_escape = lexes 9 0 _ _ refl

-- a text ends on its line, which is asked for before its bytes are looked at
pub an_open_text : IsFirstFaultOf (codes "\"a\tb\n\"") (l.OpenText 0)
unfolding piece_at
an_open_text = lexes 9 0 _ _ refl

-- a quote after a backslash closes none
pub a_quote_that_does_not_close : IsFirstFaultOf (codes ";\"ab\\\"") (l.OpenText 1)
unfolding piece_at mark_of_one mark_of_two
a_quote_that_does_not_close = lexes 9 0 _ _ refl

-- ---- bytes with which nothing begins

pub a_stray_byte : IsFirstFaultOf (codes "1 @ #") (l.BadByte 2)
unfolding piece_at number_at mark_of_one mark_of_two
a_stray_byte = lexes 9 0 _ _ refl

-- ---- the greatest length of a text

pub a_mebibyte : max_len ≡ 1048576
a_mebibyte = refl

-- ---- two.ac

abbrev pub two_text : List ℕ
two_text = codes "core a(f); async void f() { printf(\"%d\\n\", 1+2*3); }"

abbrev pub two_tokens : List Token
two_tokens =
    placed (k.Word w.Core) 0 4 ∷ placed (k.Name (codes "a")) 5 6 ∷ placed (k.Mark m.OpenParen) 6 7 ∷ placed (k.Name (codes "f")) 7 8 ∷ placed (k.Mark m.CloseParen) 8 9
    ∷ placed (k.Mark m.Semicolon) 9 10
    ∷ placed (k.Word w.Async) 11 16 ∷ placed (k.Word w.Void) 17 21 ∷ placed (k.Name (codes "f")) 22 23 ∷ placed (k.Mark m.OpenParen) 23 24 ∷ placed (k.Mark m.CloseParen) 24 25
    ∷ placed (k.Mark m.OpenBrace) 26 27
    ∷ placed (k.Word w.Printf) 28 34 ∷ placed (k.Mark m.OpenParen) 34 35 ∷ placed (k.Text (codes "%d\n")) 35 41 ∷ placed (k.Mark m.Comma) 41 42
    ∷ placed (k.Number (pos 1)) 43 44 ∷ placed (k.Mark m.Plus) 44 45 ∷ placed (k.Number (pos 2)) 45 46 ∷ placed (k.Mark m.Star) 46 47 ∷ placed (k.Number (pos 3)) 47 48
    ∷ placed (k.Mark m.CloseParen) 48 49 ∷ placed (k.Mark m.Semicolon) 49 50 ∷ placed (k.Mark m.CloseBrace) 51 52 ∷ []

pub two_ac : IsTokensOf two_text two_tokens
unfolding piece_at name_at word_of number_at mark_of_one mark_of_two
two_ac = lexes 99 0 _ _ refl

pub two_ac_only : (other : Result (List Token) LexFault) → LexesFrom 0 two_text other → other ≡ Ok two_tokens
unfolding piece_at name_at word_of number_at mark_of_one mark_of_two
two_ac_only other d = lexes_only 99 0 two_text (Ok two_tokens) other refl d
