-- A whole text, read in at most so many pieces, and that it has what is read and nothing else. For the examples: `lexed` computes.
-- Both are inductions on the number of pieces: `lexes` by what stands at each place (`goes`), `lexes_only` by what any other answer begins
-- with (`after`).
use Rattle.std.proofs.Common.{◌≡◌, ℕ, zero, suc, ◌+◌, ◌<◌, List, [], ◌∷◌, length, drop, Option, Some, None, Result, Ok, Err, refl, sym, ap, ◌∙◌, subst, arith}
use Rattle.std.specs.Prelude.{map}
use Rattle.ac_lexer.specs.declared.fault.LexFault.{LexFault}
use Rattle.ac_lexer.specs.declared.token.Kind.{Kind}
use Rattle.ac_lexer.specs.declared.token.Token.{Token}
use Rattle.ac_lexer.specs.declared.piece.Piece.{Piece}
use Rattle.ac_lexer.specs.inner.Reading.{piece_at}
use Rattle.ac_lexer.specs.Tokens.{LexesFrom, end}
use Rattle.ac_lexer.proofs.Pieces.{Reads, reads}
use Rattle.ac_lexer.proofs.WholeText.{front, tokens_of, goes, fault_here, after, after_fault, at_end}

abbrev pub in_front : List Token → Option (Result (List Token) LexFault) → Option (Result (List Token) LexFault)
in_front ts None = None
in_front ts (Some r) = Some (front ts r)

abbrev pub lexed_on : (ℕ → List ℕ → Option (Result (List Token) LexFault)) → ℕ → List ℕ → Result Piece LexFault → Option (Result (List Token) LexFault)
lexed_on next at bs (Err f) = Some (Err f)
lexed_on next at bs (Ok p) = in_front (tokens_of at p) (next (at + p.len) (drop p.len bs))

abbrev pub lexed : ℕ → ℕ → List ℕ → Option (Result (List Token) LexFault)
lexed n at [] = Some (Ok [])
lexed zero at (b ∷ bs) = None
lexed (suc n) at (b ∷ bs) = lexed_on (lexed n) at (b ∷ bs) (piece_at at (b ∷ bs))

pub record Fronted (ts : List Token) (o : Option (Result (List Token) LexFault)) (r : Result (List Token) LexFault) : Type 0 where
  pub rest : Result (List Token) LexFault
  pub is : o ≡ Some rest
  pub whole : r ≡ front ts rest

same_some : {x y : Result (List Token) LexFault} → Some x ≡ Some y → x ≡ y
same_some h = cc

fronted : (ts : List Token) (o : Option (Result (List Token) LexFault)) (r : Result (List Token) LexFault) → in_front ts o ≡ Some r → Fronted ts o r
fronted ts None r h = cc
fronted ts (Some s) r h = record { rest = s; is = refl; whole = sym (same_some h) }

abbrev Next : (ℕ → List ℕ → Option (Result (List Token) LexFault)) → Type 0
Next next = (at : ℕ) (bs : List ℕ) (r : Result (List Token) LexFault) → next at bs ≡ Some r → LexesFrom at bs r

lexes_on : (next : ℕ → List ℕ → Option (Result (List Token) LexFault)) → Next next → (at : ℕ) (bs : List ℕ) (r : Result (List Token) LexFault) (o : Result Piece LexFault) → Reads at bs o
    → lexed_on next at bs o ≡ Some r → LexesFrom at bs r
lexes_on next goes_on at bs r (Err f) d h = subst (LexesFrom at bs) (same_some h) (fault_here at bs (Err f) f d refl)
lexes_on next goes_on at bs r (Ok p) d h =
    let s = fronted (tokens_of at p) (next (at + p.len) (drop p.len bs)) r h in
    subst (LexesFrom at bs) (sym s.whole) (goes at bs (Ok p) p d refl s.rest (goes_on (at + p.len) (drop p.len bs) s.rest s.is))

-- what is read is what the text has
pub lexes : (n at : ℕ) (bs : List ℕ) (r : Result (List Token) LexFault) → lexed n at bs ≡ Some r → LexesFrom at bs r
lexes n at [] r h = subst (LexesFrom at []) (same_some h) (end at)
lexes zero at (b ∷ bs) r h = cc
lexes (suc n) at (b ∷ bs) r h = lexes_on (lexed n) (lexes n) at (b ∷ bs) r (piece_at at (b ∷ bs)) (reads at b bs) h

abbrev Only : (ℕ → List ℕ → Option (Result (List Token) LexFault)) → Type 0
Only next = (at : ℕ) (bs : List ℕ) (r other : Result (List Token) LexFault) → next at bs ≡ Some r → LexesFrom at bs other → other ≡ r

only_on : (next : ℕ → List ℕ → Option (Result (List Token) LexFault)) → Only next → (at : ℕ) (bs : List ℕ) (r other : Result (List Token) LexFault) (o : Result Piece LexFault) → 0 < length bs
    → piece_at at bs ≡ o → lexed_on next at bs o ≡ Some r → LexesFrom at bs other → other ≡ r
only_on next goes_on at bs r other (Err f) lt e h d = after_fault at bs other f d lt e ∙ same_some h
only_on next goes_on at bs r other (Ok p) lt e h d =
    let s = fronted (tokens_of at p) (next (at + p.len) (drop p.len bs)) r h in
    let a = after at bs other p d lt e in
    a.is ∙ ap (front (tokens_of at p)) (goes_on (at + p.len) (drop p.len bs) s.rest a.rest s.is a.from) ∙ sym s.whole

-- and the text has nothing else
pub lexes_only : (n at : ℕ) (bs : List ℕ) (r other : Result (List Token) LexFault) → lexed n at bs ≡ Some r → LexesFrom at bs other → other ≡ r
lexes_only n at [] r other h d = at_end at [] other d refl ∙ same_some h
lexes_only zero at (b ∷ bs) r other h d = cc
lexes_only (suc n) at (b ∷ bs) r other h d = only_on (lexed n) (lexes_only n) at (b ∷ bs) r other (piece_at at (b ∷ bs)) (omega arith) refl h d

-- the tokens of a text of at most 99 tokens and gaps; none where it has a fault
abbrev pub ok_tokens : Option (Result (List Token) LexFault) → List Token
ok_tokens (Some (Ok ts)) = ts
ok_tokens _ = []

abbrev pub tokens_in : List ℕ → List Token
tokens_in text = ok_tokens (lexed 99 0 text)

abbrev pub kinds_in : List ℕ → List Kind
kinds_in text = map (λ (t : Token). t.kind) (tokens_in text)
