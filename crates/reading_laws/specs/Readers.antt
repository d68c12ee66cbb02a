-- Reading tokens from left to right.
use Rattle.std.specs.Prelude.{ℕ, zero, suc, Bool, true, false, List, [], ◌∷◌, ◌++◌, Option, Some, None, Result, Ok, Err, if◌then◌else◌}
use Rattle.ac_lexer.specs.declared.token.Token.{Token}

-- why reading stops
pub data Cause : Type 0 where
  unexpected : Cause
  too_deep : Cause

-- and the tokens from that place on
pub data Fault : Type 0 where
  halt : Cause → List Token → Fault

-- what is read, and the tokens behind it
abbrev pub Reads : Type 0 → Type 0
Reads X = Result (X × List Token) Fault

infixl 10 ◌>>=◌
abbrev pub ◌>>=◌ : {A B : Type 0} → Result A Fault → (A → Result B Fault) → Result B Fault
(Ok x) >>= f = f x
(Err e) >>= f = Err e

-- ---- one token

abbrev pub taken : {A : Type 0} → Option A → Token → List Token → Reads A
taken None t ts = Err (halt unexpected (t ∷ ts))
taken (Some a) t ts = Ok (a, ts)

-- the next token, if it is one that is picked
abbrev pub token_at : {A : Type 0} → (Token → Option A) → List Token → Reads A
token_at pick [] = Err (halt unexpected [])
token_at pick (t ∷ ts) = taken (pick t) t ts

abbrev pub is_there : {A : Type 0} → Option A → Bool
is_there None = false
is_there (Some a) = true

-- ---- no room, and several

-- no room: a token that can begin the part is too deep, and any other is unexpected
abbrev pub look : {X : Type 0} → Bool → List Token → Reads X
look true ts = Err (halt too_deep ts)
look false ts = Err (halt unexpected ts)

-- a part whose first token is the next one; the room is how many more depths there are, its own included
abbrev pub within : {X : Type 0} → (List Token → Bool) → (ℕ → List Token → Reads X) → ℕ → List Token → Reads X
within begins read zero ts = look (begins ts) ts
within begins read (suc room) ts = read room ts

-- at most n parts, as long as one comes
unfoldable pub many_at : {X : Type 0} → (List Token → Bool) → (List Token → Reads X) → ℕ → List Token → Reads (List X)
many_at more part zero ts = Ok ([], ts)
many_at more part (suc n) ts = if more ts then (part ts >>= λ x. many_at more part n x.1 >>= λ xs. Ok (x.0 ∷ xs.0, xs.1)) else Ok ([], ts)

-- what was read before, and what is still read
abbrev pub with_front : {X : Type 0} → List X → Reads (List X) → Reads (List X)
with_front front read = read >>= λ x. Ok (front ++ x.0, x.1)
