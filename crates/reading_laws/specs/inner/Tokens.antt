-- What only private readers ask of a token.
use Rattle.std.specs.Prelude.{ℕ, ℤ, Bool, false, List, [], ◌∷◌, true}
use Rattle.ac_lexer.specs.declared.token.Kind.{Kind}
use Rattle.ac_lexer.specs.declared.token.Kind.TheVariants as k
use Rattle.ac_lexer.specs.declared.token.Token.{Token}
use Rattle.reading_laws.specs.Readers.{Reads, within}
use Rattle.reading_laws.specs.Letters.{Sign, word, sign, number_at, text_at, has_number, has_text}

abbrev pub kind_of : Sign → Kind
kind_of (word a) = k.Word a
kind_of (sign a) = k.Mark a

-- a number and a text that may be too deep
abbrev pub deep_number_at : ℕ → List Token → Reads (ℕ × ℤ)
deep_number_at = within has_number (λ room ts. number_at ts)

abbrev pub deep_text_at : ℕ → List Token → Reads (List ℕ)
deep_text_at = within has_text (λ room ts. text_at ts)

abbrev pub has_token : List Token → Bool
has_token [] = false
has_token (t ∷ ts) = true
