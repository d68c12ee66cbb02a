-- Tokens with their depths.
use Rattle.std.specs.Prelude.{◌≡◌, ℕ, ℤ, List, [], ◌∷◌, ◌++◌, Option, Some, None, ◌≤◌, ltb, if◌then◌else◌}
use Rattle.ac_lexer.specs.declared.token.Word.{Word}
use Rattle.ac_lexer.specs.declared.token.Mark.{Mark}
use Rattle.ac_lexer.specs.declared.token.Kind.TheVariants as k
use Rattle.ac_lexer.specs.declared.token.Token.{Token}

-- a token with its depth
pub record Marked : Type 0 where
  pub token : Token
  pub depth : ℕ

abbrev pub mark : ℕ → Token → Marked
mark depth token = record { token = token; depth = depth }

abbrev pub tokens : List Marked → List Token
tokens [] = []
tokens (m ∷ ms) = m.token ∷ tokens ms

abbrev pub IsWord : Word → Token → Type 0
IsWord word t = t.kind ≡ k.Word word

abbrev pub IsMark : Mark → Token → Type 0
IsMark sign t = t.kind ≡ k.Mark sign

abbrev pub IsName : List ℕ → Token → Type 0
IsName name t = t.kind ≡ k.Name name

abbrev pub IsNumber : ℤ → Token → Type 0
IsNumber n t = t.kind ≡ k.Number n

abbrev pub IsText : List ℕ → Token → Type 0
IsText text t = t.kind ≡ k.Text text

-- no token is deeper than a limit
abbrev pub Low : ℕ → List Marked → Type 0
Low most [] = Unit {0}
Low most (m ∷ ms) = (m.depth ≤ most) × Low most ms

-- the tokens from the first on that is too deep, with rest behind them
abbrev pub cut : ℕ → List Marked → List Token → Option (List Token)
cut most [] rest = None
cut most (m ∷ ms) rest = if ltb most m.depth then Some (m.token ∷ (tokens ms ++ rest)) else cut most ms rest
