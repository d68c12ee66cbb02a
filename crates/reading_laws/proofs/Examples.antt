-- A few tokens: their depths, and what is read of them, one token or several, with room and without.
-- Everything is computed; what does not hold is refused at the token or the depth that is another.
use Rattle.std.proofs.Common.{◌≡◌, refl, ℕ, ◌≤◌, ℤ, pos, negsuc, Bool, true, false, List, [], ◌∷◌, map, codes, Option, Some, None, Result, Ok, Err, arith}
use Rattle.std.specs.Prelude.{if◌then◌else◌}
use Rattle.ac_lexer.specs.declared.token.Token.{Token}
use Rattle.ac_lexer.specs.declared.token.Kind.{Kind}
use Rattle.ac_lexer.specs.declared.token.Kind.TheVariants as k
use Rattle.ac_lexer.specs.declared.token.Word.TheVariants as w
use Rattle.ac_lexer.specs.declared.token.Mark.TheVariants as m
use Rattle.reading_laws.specs.Marks.{Marked, mark, tokens, IsWord, IsMark, IsName, IsNumber, IsText, Low, cut}
use Rattle.reading_laws.specs.Readers.{Reads, unexpected, too_deep, halt, ◌>>=◌, token_at, is_there, look, within, many_at, with_front}
use Rattle.reading_laws.specs.Letters.{word, sign, same_word, same_mark, by_next, by_kind, starts_with, has_other, sign_in, sign_at, word_at, mark_at}
use Rattle.reading_laws.specs.Letters.{name_kind, name_at, number_kind, number_at, negated_number, negated_kind, negated_at, text_kind, has_name, has_number, has_text, deep_name_at}

-- x 7
abbrev pub a_name : Token
a_name = record { kind = k.Name (codes "x"); span = record { at = 0; end = 1 } }

abbrev pub a_number : Token
a_number = record { kind = k.Number (pos 7); span = record { at = 2; end = 3 } }

-- do ; "t"
abbrev pub a_word : Token
a_word = record { kind = k.Word w.Do; span = record { at = 4; end = 6 } }

abbrev pub a_mark : Token
a_mark = record { kind = k.Mark m.Semicolon; span = record { at = 7; end = 8 } }

abbrev pub a_text : Token
a_text = record { kind = k.Text (codes "t"); span = record { at = 9; end = 12 } }

-- ---- depths

abbrev pub marks : List Marked
marks = mark 1 a_name ∷ mark 2 a_number ∷ []

pub without_their_depths : tokens marks ≡ a_name ∷ a_number ∷ []
without_their_depths = refl

pub it_is_a_name : IsName (codes "x") a_name
it_is_a_name = refl

pub it_is_no_number : IsNumber (pos 7) a_name → ⊥
it_is_no_number e = cc

pub what_they_are : IsWord w.Do a_word × IsMark m.Semicolon a_mark × IsText (codes "t") a_text
what_they_are = (refl, refl, refl)

pub another_word : IsWord w.Else a_word → ⊥
another_word e = cc

pub another_mark : IsMark m.Comma a_mark → ⊥
another_mark e = cc

pub another_text : IsText [] a_text → ⊥
another_text e = cc

pub none_is_deeper_than_2 : Low 2 marks
none_is_deeper_than_2 = (omega arith, (omega arith, tt))

pub one_is_deeper_than_1 : Low 1 marks → ⊥
one_is_deeper_than_1 h = let le = h.1.0 in omega (arith, le)

pub from_the_first_that_is_deeper : cut 1 marks (a_name ∷ []) ≡ Some (a_number ∷ a_name ∷ [])
from_the_first_that_is_deeper = refl

pub none_is_cut : cut 2 marks (a_name ∷ []) ≡ None
none_is_cut = refl

-- ---- one token

pub a_name_is_read : name_at (a_name ∷ a_number ∷ []) ≡ Ok ((0, codes "x"), a_number ∷ [])
a_name_is_read = refl

pub no_number_is_read : number_at (a_name ∷ []) ≡ Err (halt unexpected (a_name ∷ []))
no_number_is_read = refl

pub nothing_is_read : name_at [] ≡ Err (halt unexpected [])
nothing_is_read = refl

pub a_number_is_negated : negated_at (a_number ∷ a_name ∷ []) ≡ Ok (negsuc 6, a_name ∷ [])
a_number_is_negated = refl

pub nought_is_negated : negated_number (pos 0) ≡ Some (pos 0)
nought_is_negated = refl

pub one_below_nought_is_not : negated_number (negsuc 0) ≡ None
one_below_nought_is_not = refl

pub a_number_comes_next : has_number (a_number ∷ []) ≡ true
a_number_comes_next = refl

pub no_name_comes_next : has_name (a_number ∷ []) ≡ false
no_name_comes_next = refl

-- kinds at the place 3
pub a_name_alone : (name_kind 3 (k.Name (codes "x")) ≡ Some (3, codes "x")) × (name_kind 3 (k.Number (pos 7)) ≡ None)
a_name_alone = (refl, refl)

pub a_number_alone : (number_kind 3 (k.Number (pos 7)) ≡ Some (3, pos 7)) × (number_kind 3 (k.Text (codes "7")) ≡ None)
a_number_alone = (refl, refl)

pub a_negated_number_alone : (negated_kind (k.Number (pos 7)) ≡ Some (negsuc 6)) × (negated_kind (k.Mark m.Minus) ≡ None)
a_negated_number_alone = (refl, refl)

pub a_text_alone : (text_kind (k.Text (codes "t")) ≡ Some (codes "t")) × (text_kind (k.Name (codes "t")) ≡ None)
a_text_alone = (refl, refl)

pub whether_there_is_one : (is_there {A = ℕ} (Some 0) ≡ true) × (is_there {A = ℕ} None ≡ false)
whether_there_is_one = (refl, refl)

pub what_is_picked : token_at (λ t. text_kind t.kind) (a_text ∷ a_name ∷ []) ≡ Ok (codes "t", a_name ∷ [])
what_is_picked = refl

pub nothing_is_picked : token_at (λ t. text_kind t.kind) (a_name ∷ a_text ∷ []) ≡ Err (halt unexpected (a_name ∷ a_text ∷ []))
nothing_is_picked = refl

pub a_text_comes_next : has_text (a_text ∷ a_name ∷ []) ∷ has_text (a_name ∷ a_text ∷ []) ∷ has_text [] ∷ [] ≡ true ∷ false ∷ false ∷ []
a_text_comes_next = refl

-- ---- what the next token says

abbrev its_number : Kind → ℕ
its_number = by_kind 1 2 3 (λ a. if same_word a w.Do then 4 else 5) (λ a. if same_mark a m.Comma then 6 else 7)

pub what_kinds_say : map its_number (a_name.kind ∷ a_number.kind ∷ a_text.kind ∷ a_word.kind ∷ a_mark.kind ∷ k.Word w.Else ∷ k.Mark m.Comma ∷ []) ≡ 1 ∷ 2 ∷ 3 ∷ 4 ∷ 7 ∷ 5 ∷ 6 ∷ []
unfolding same_word same_mark
what_kinds_say = refl

pub what_the_next_says : by_next 0 its_number (a_number ∷ a_name ∷ []) ∷ by_next 0 its_number [] ∷ [] ≡ 2 ∷ 0 ∷ []
what_the_next_says = refl

-- ---- one word or mark

-- seen as its place
pub its_place : sign_in (word w.Do) a_word ∷ sign_in (sign m.Semicolon) a_mark ∷ sign_in (sign m.Comma) a_mark ∷ sign_in (word w.Do) a_mark ∷ [] ≡ Some 4 ∷ Some 7 ∷ None ∷ None ∷ []
unfolding same_word same_mark
its_place = refl

pub a_sign_is_read : sign_at (word w.Do) (a_word ∷ a_mark ∷ []) ≡ Ok (4, a_mark ∷ [])
unfolding same_word
a_sign_is_read = refl

pub another_word_is_not_read : word_at w.Else (a_word ∷ a_mark ∷ []) ≡ Err (halt unexpected (a_word ∷ a_mark ∷ []))
unfolding same_word
another_word_is_not_read = refl

pub a_mark_is_read : mark_at m.Semicolon (a_mark ∷ a_word ∷ []) ≡ Ok (7, a_word ∷ [])
unfolding same_mark
a_mark_is_read = refl

pub this_one_comes_next : starts_with (word w.Do) (a_word ∷ []) ∷ starts_with (word w.Do) (a_mark ∷ a_word ∷ []) ∷ starts_with (word w.Do) [] ∷ [] ≡ true ∷ false ∷ false ∷ []
unfolding same_word
this_one_comes_next = refl

-- the end is no other token
pub another_comes_next : has_other (sign m.Semicolon) (a_word ∷ []) ∷ has_other (sign m.Semicolon) (a_mark ∷ a_word ∷ []) ∷ has_other (sign m.Semicolon) [] ∷ [] ≡ true ∷ false ∷ false ∷ []
unfolding same_mark
another_comes_next = refl

-- ---- one part after another

pub a_name_and_a_number : (name_at (a_name ∷ a_number ∷ a_mark ∷ []) >>= λ x. number_at x.1) ≡ Ok ((2, pos 7), a_mark ∷ [])
a_name_and_a_number = refl

-- reading stops where the second is not there
pub a_name_alone_is_not : (name_at (a_name ∷ a_mark ∷ []) >>= λ x. number_at x.1) ≡ Err (halt unexpected (a_mark ∷ []))
a_name_alone_is_not = refl

-- or the first
pub a_number_alone_is_not : (name_at (a_number ∷ a_name ∷ []) >>= λ x. number_at x.1) ≡ Err (halt unexpected (a_number ∷ a_name ∷ []))
a_number_alone_is_not = refl

-- ---- no room

pub a_name_with_room : deep_name_at 1 (a_name ∷ []) ≡ Ok ((0, codes "x"), [])
a_name_with_room = refl

pub a_name_without_room : deep_name_at 0 (a_name ∷ []) ≡ Err (halt too_deep (a_name ∷ []))
a_name_without_room = refl

-- what could not begin the part is not too deep
pub a_number_without_room : deep_name_at 0 (a_number ∷ []) ≡ Err (halt unexpected (a_number ∷ []))
a_number_without_room = refl

-- ---- several

abbrev pub names : ℕ → List Token → Reads (List (ℕ × List ℕ))
names = many_at has_name name_at

pub two_names : names 5 (a_name ∷ a_name ∷ a_number ∷ []) ≡ Ok ((0, codes "x") ∷ (0, codes "x") ∷ [], a_number ∷ [])
unfolding many_at
two_names = refl

pub at_most_one : names 1 (a_name ∷ a_name ∷ []) ≡ Ok ((0, codes "x") ∷ [], a_name ∷ [])
unfolding many_at
at_most_one = refl

pub those_before_come_first : with_front {X = ℕ} (1 ∷ []) (Ok (2 ∷ [], a_name ∷ [])) ≡ Ok (1 ∷ 2 ∷ [], a_name ∷ [])
those_before_come_first = refl
