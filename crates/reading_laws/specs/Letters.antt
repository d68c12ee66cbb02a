-- Reading one token.
use Rattle.std.specs.Prelude.{ℕ, ℤ, pos, negsuc, neg_ℤ, Bool, false, List, [], ◌∷◌, Option, Some, None, if◌then◌else◌, not}
use denote.Enum.Bare.{sameb}
use Rattle.ac_lexer.specs.declared.token.Word.{Word}
use Rattle.ac_lexer.specs.contracts.token.Word as word_contracts
use Rattle.ac_lexer.specs.declared.token.Mark.{Mark}
use Rattle.ac_lexer.specs.contracts.token.Mark as mark_contracts
use Rattle.ac_lexer.specs.declared.token.Kind.{Kind}
use Rattle.ac_lexer.specs.declared.token.Kind.TheVariants as k
use Rattle.ac_lexer.specs.declared.token.Token.{Token}
use Rattle.reading_laws.specs.Readers.{Reads, within, token_at, is_there}

-- a word or a mark
pub data Sign : Type 0 where
  word : Word → Sign
  sign : Mark → Sign

unfoldable pub same_word : Word → Word → Bool
same_word = sameb word_contracts.the_type

unfoldable pub same_mark : Mark → Mark → Bool
same_mark = sameb mark_contracts.the_type

abbrev pub is_kind : Sign → Kind → Bool
is_kind (word a) (k.Word found) = same_word a found
is_kind (sign a) (k.Mark found) = same_mark a found
is_kind _ _ = false

abbrev pub starts_with : Sign → List Token → Bool
starts_with wanted [] = false
starts_with wanted (t ∷ ts) = is_kind wanted t.kind

-- a word or a mark, seen as its place
abbrev pub sign_in : Sign → Token → Option ℕ
sign_in wanted t = if is_kind wanted t.kind then Some t.span.at else None

abbrev pub sign_at : Sign → List Token → Reads ℕ
sign_at wanted = token_at (sign_in wanted)

abbrev pub word_at : Word → List Token → Reads ℕ
word_at a = sign_at (word a)

abbrev pub mark_at : Mark → List Token → Reads ℕ
mark_at a = sign_at (sign a)

-- a name, with its place
abbrev pub name_kind : ℕ → Kind → Option (ℕ × List ℕ)
name_kind at (k.Name name) = Some (at, name)
name_kind at _ = None

abbrev pub name_at : List Token → Reads (ℕ × List ℕ)
name_at = token_at (λ t. name_kind t.span.at t.kind)

-- a number, with its place
abbrev pub number_kind : ℕ → Kind → Option (ℕ × ℤ)
number_kind at (k.Number n) = Some (at, n)
number_kind at _ = None

abbrev pub number_at : List Token → Reads (ℕ × ℤ)
number_at = token_at (λ t. number_kind t.span.at t.kind)

-- a number that is not below 0, negated
abbrev pub negated_number : ℤ → Option ℤ
negated_number (pos n) = Some (neg_ℤ (pos n))
negated_number (negsuc n) = None

abbrev pub negated_kind : Kind → Option ℤ
negated_kind (k.Number n) = negated_number n
negated_kind _ = None

abbrev pub negated_at : List Token → Reads ℤ
negated_at = token_at (λ t. negated_kind t.kind)

abbrev pub text_kind : Kind → Option (List ℕ)
text_kind (k.Text text) = Some text
text_kind _ = None

abbrev pub text_at : List Token → Reads (List ℕ)
text_at = token_at (λ t. text_kind t.kind)

abbrev pub has_name : List Token → Bool
has_name [] = false
has_name (t ∷ ts) = is_there (name_kind t.span.at t.kind)

abbrev pub has_number : List Token → Bool
has_number [] = false
has_number (t ∷ ts) = is_there (number_kind t.span.at t.kind)

abbrev pub has_text : List Token → Bool
has_text [] = false
has_text (t ∷ ts) = is_there (text_kind t.kind)

-- any token but that one
abbrev pub has_other : Sign → List Token → Bool
has_other wanted [] = false
has_other wanted (t ∷ ts) = not (is_kind wanted t.kind)

-- ---- what the next token says

-- by its kind, where there is one
abbrev pub by_next : {A : Type 0} → A → (Kind → A) → List Token → A
by_next none by [] = none
by_next none by (t ∷ ts) = by t.kind

-- by which word or mark it is; of a name and of a number, only that it is one
abbrev pub by_kind : {A : Type 0} → A → A → A → (Word → A) → (Mark → A) → Kind → A
by_kind name number other of_word of_mark (k.Name found) = name
by_kind name number other of_word of_mark (k.Number n) = number
by_kind name number other of_word of_mark (k.Text text) = other
by_kind name number other of_word of_mark (k.Word a) = of_word a
by_kind name number other of_word of_mark (k.Mark a) = of_mark a

-- ---- a token that may be too deep

abbrev pub deep_name_at : ℕ → List Token → Reads (ℕ × List ℕ)
deep_name_at = within has_name (λ room ts. name_at ts)
