-- From piece to piece through the whole text: the invariant of `tokens_of` (`So`), that a piece keeps it, and what it gives at the end and at a
-- fault: the answer is the text's, and the text has no other. Forwards, tokens and what follows are put together (by Pieces); backwards, the
-- harder one, what the text has is taken apart, and begins with the piece that was read (`after`, by Agree).
use Rattle.std.proofs.Common.{◌≡◌, ℕ, ◌+◌, ◌<◌, ◌≤◌, List, [], ◌∷◌, ◌++◌, length, drop, Option, Some, None, Result, Ok}
use Rattle.std.proofs.Common.{Err, refl, sym, ap, ◌∙◌, subst, append_assoc, length-append, length-drop, drop-drop, arith}
use Rattle.std.specs.Prelude.{IfOk}
use Rattle.std.proofs.lemmas.List.{append-nil}
use Rattle.ac_lexer.specs.declared.fault.LexFault.{LexFault}
use Rattle.ac_lexer.specs.declared.fault.LexFault.TheVariants as l
use Rattle.ac_lexer.specs.declared.token.Kind.{Kind}
use Rattle.ac_lexer.specs.declared.token.Token.{Token}
use Rattle.ac_lexer.specs.declared.piece.Piece.{Piece}
use Rattle.ac_lexer.specs.Spelling.{placed}
use Rattle.ac_lexer.specs.inner.Reading.{Gives, token_piece, gap_piece, with_kind, piece_at}
use Rattle.ac_lexer.specs.Tokens.{FaultHere, stray, after_zero, after_number, large, open_comment, open_text, in_text, Stands, Gap, LexesFrom, end, gap, token, fault, before, Lexes, Answers}
use Rattle.ac_lexer.proofs.Runs.{drop_front}
use Rattle.ac_lexer.proofs.Numbers.{lost, same_piece, same_fault, not_both}
use Rattle.ac_lexer.proofs.Faults.{fault_read}
use Rattle.ac_lexer.proofs.Pieces.{Reads, gap_read, token_read, fault_reads, reads}
use Rattle.ac_lexer.proofs.Agree.{spelled_long, gap_long, stands_read, gap_reads}

-- the tokens that were read before, and what follows
abbrev pub front : List Token → Result (List Token) LexFault → Result (List Token) LexFault
front ts (Ok us) = Ok (ts ++ us)
front ts (Err f) = Err f

front_nil : (r : Result (List Token) LexFault) → front [] r ≡ r
front_nil (Ok us) = refl
front_nil (Err f) = refl

front_one : (t : Token) (r : Result (List Token) LexFault) → front (t ∷ []) r ≡ before t r
front_one t (Ok us) = refl
front_one t (Err f) = refl

front_two : (ts us : List Token) (r : Result (List Token) LexFault) → front ts (front us r) ≡ front (ts ++ us) r
front_two ts us (Ok vs) = ap (λ (x : List Token). Ok x) (sym (append_assoc ts us vs))
front_two ts us (Err f) = refl

-- the tokens of one piece
abbrev pub tokens_of : ℕ → Piece → List Token
tokens_of at p = with_kind [] at (at + p.len) p.kind

all_read : (at : ℕ) (bs : List ℕ) → 0 < length bs → Reads at bs (piece_at at bs)
all_read at [] lt = absurd (omega arith)
all_read at (b ∷ bs) lt = reads at b bs

-- ---- forwards: what stands at a place, and what follows it

abbrev Goes : ℕ → List ℕ → Piece → Type 0
Goes at bs p = (r : Result (List Token) LexFault) → LexesFrom (at + p.len) (drop p.len bs) r → LexesFrom at bs (front (tokens_of at p) r)

goes_gap : (at : ℕ) (a rest : List ℕ) → Gap a rest → Goes at (a ++ rest) (gap_piece (length a))
goes_gap at a rest g r d = subst (LexesFrom at (a ++ rest)) (sym (front_nil r)) (gap at a rest r g (subst (λ (bs : List ℕ). LexesFrom (at + length a) bs r) (drop_front a rest) d))

goes_token : (at : ℕ) (kind : Kind) (a rest : List ℕ) → Stands at kind a rest → Goes at (a ++ rest) (token_piece kind (length a))
goes_token at kind a rest s r d =
    subst (LexesFrom at (a ++ rest)) (sym (front_one (placed kind at (at + length a)) r)) (token at kind a rest r s (subst (λ (bs : List ℕ). LexesFrom (at + length a) bs r) (drop_front a rest) d))

pub goes : (at : ℕ) (bs : List ℕ) (o : Result Piece LexFault) (p : Piece) → Reads at bs o → o ≡ Ok p → Goes at bs p
goes at _ _ p (gap_read a rest g) e = subst (Goes at (a ++ rest)) (same_piece e) (goes_gap at a rest g)
goes at _ _ p (token_read kind a rest s) e = subst (Goes at (a ++ rest)) (same_piece e) (goes_token at kind a rest s)
goes at _ _ p (fault_reads bs f d) e = absurd (not_both p f (sym e))

pub fault_here : (at : ℕ) (bs : List ℕ) (o : Result Piece LexFault) (f : LexFault) → Reads at bs o → o ≡ Err f → LexesFrom at bs (Err f)
fault_here at _ _ f (gap_read a rest g) e = absurd (not_both (gap_piece (length a)) f e)
fault_here at _ _ f (token_read kind a rest s) e = absurd (not_both (token_piece kind (length a)) f e)
fault_here at _ _ f (fault_reads bs g d) e = subst (λ (f : LexFault). LexesFrom at bs (Err f)) (same_fault e) (fault at bs g d)

moves_case : (at : ℕ) (bs : List ℕ) (o : Result Piece LexFault) (p : Piece) → Reads at bs o → o ≡ Ok p → 0 < p.len
moves_case at _ _ p (gap_read a rest g) e = let h : length a ≡ p.len = ap (λ (p : Piece). p.len) (same_piece e) in let lt : 0 < length a = gap_long a rest g in omega arith
moves_case at _ _ p (token_read kind a rest s) e = let h : length a ≡ p.len = ap (λ (p : Piece). p.len) (same_piece e) in let lt : 0 < length a = spelled_long kind a s.spelled in omega arith
moves_case at _ _ p (fault_reads bs f d) e = absurd (not_both p f (sym e))

pub moves : (at : ℕ) (bs : List ℕ) (p : Piece) → 0 < length bs → piece_at at bs ≡ Ok p → 0 < p.len
moves at bs p lt h = moves_case at bs (piece_at at bs) p (all_read at bs lt) h

-- ---- backwards: what a place has begins with what is read there

pub record After (at : ℕ) (bs : List ℕ) (p : Piece) (r : Result (List Token) LexFault) : Type 0 where
  pub rest : Result (List Token) LexFault
  pub from : LexesFrom (at + p.len) (drop p.len bs) rest
  pub is : r ≡ front (tokens_of at p) rest

after_gap : (at : ℕ) (a rest : List ℕ) (r : Result (List Token) LexFault) → LexesFrom (at + length a) rest r → After at (a ++ rest) (gap_piece (length a)) r
after_gap at a rest r d = record { rest = r; from = subst (λ (bs : List ℕ). LexesFrom (at + length a) bs r) (sym (drop_front a rest)) d; is = sym (front_nil r) }

after_token : (at : ℕ) (kind : Kind) (a rest : List ℕ) (r : Result (List Token) LexFault) → LexesFrom (at + length a) rest r
    → After at (a ++ rest) (token_piece kind (length a)) (before (placed kind at (at + length a)) r)
after_token at kind a rest r d = record {
  rest = r;
  from = subst (λ (bs : List ℕ). LexesFrom (at + length a) bs r) (sym (drop_front a rest)) d;
  is = sym (front_one (placed kind at (at + length a)) r);
}

token_read_at : (at : ℕ) (kind : Kind) (a rest : List ℕ) → Stands at kind a rest → 0 < length (a ++ rest) → piece_at at (a ++ rest) ≡ Ok (token_piece kind (length a))
token_read_at at kind a rest s lt = stands_read at kind a rest (a ++ rest) (piece_at at (a ++ rest)) s (all_read at (a ++ rest) lt) refl

pub after : (at : ℕ) (bs : List ℕ) (r : Result (List Token) LexFault) (p : Piece) → LexesFrom at bs r → 0 < length bs → piece_at at bs ≡ Ok p → After at bs p r
after _ _ _ p (end at) lt h = absurd (omega arith)
after _ _ _ p (gap at a rest r g d) lt h = subst (λ (p : Piece). After at (a ++ rest) p r) (same_piece (sym (gap_reads at a rest g) ∙ h)) (after_gap at a rest r d)
after _ _ _ p (token at kind a rest r s d) lt h =
    subst (λ (p : Piece). After at (a ++ rest) p (before (placed kind at (at + length a)) r)) (same_piece (sym (token_read_at at kind a rest s lt) ∙ h)) (after_token at kind a rest r d)
after _ _ _ p (fault at bs f d) lt h = absurd (not_both p f (sym h ∙ fault_read at bs f d))

pub after_fault : (at : ℕ) (bs : List ℕ) (r : Result (List Token) LexFault) (f : LexFault) → LexesFrom at bs r → 0 < length bs → piece_at at bs ≡ Err f → r ≡ Err f
after_fault _ _ _ f (end at) lt h = absurd (omega arith)
after_fault _ _ _ f (gap at a rest r g d) lt h = absurd (not_both (gap_piece (length a)) f (sym (gap_reads at a rest g) ∙ h))
after_fault _ _ _ f (token at kind a rest r s d) lt h = absurd (not_both (token_piece kind (length a)) f (sym (token_read_at at kind a rest s lt) ∙ h))
after_fault _ _ _ f (fault at bs g d) lt h = ap (λ (f : LexFault). Err f) (same_fault (sym (fault_read at bs g d) ∙ h))

fault_long : (at : ℕ) (bs : List ℕ) (f : LexFault) → FaultHere at bs f → 0 < length bs
fault_long at _ _ (stray b bs nb h) = omega arith
fault_long at _ _ (after_zero d a rest e s lt) = omega arith
fault_long at _ _ (after_number b c a rest e z h lt) = omega arith
fault_long at _ _ (large b a rest e s le) = omega arith
fault_long at _ _ (open_comment bs n) = omega arith
fault_long at _ _ (open_text a rest d e) = omega arith
fault_long at _ _ (in_text a vs u c rest p d b h) = omega arith

front_long : (a rest : List ℕ) → 0 < length a → a ++ rest ≡ [] → ⊥
front_long a rest lt e = omega (arith, length-append a rest, ap (λ (x : List ℕ). length x) e)

pub at_end : (at : ℕ) (bs : List ℕ) (r : Result (List Token) LexFault) → LexesFrom at bs r → bs ≡ [] → r ≡ Ok []
at_end _ _ _ (end at) e = refl
at_end _ _ _ (gap at a rest r g d) e = absurd (front_long a rest (gap_long a rest g) e)
at_end _ _ _ (token at kind a rest r s d) e = absurd (front_long a rest (spelled_long kind a s.spelled) e)
at_end _ _ _ (fault at bs f d) e = absurd (let lt : 0 < length bs = fault_long at bs f d in omega (arith, ap (λ (x : List ℕ). length x) e))

-- ---- the whole text, of which some tokens have been read

pub record Back (ts : List Token) (at : ℕ) (bs : List ℕ) (r : Result (List Token) LexFault) : Type 0 where
  pub rest : Result (List Token) LexFault
  pub from : LexesFrom at bs rest
  pub is : r ≡ front ts rest

pub record So (whole : List ℕ) (ts : List Token) (at : ℕ) (bs : List ℕ) : Type 0 where
  pub forwards : (r : Result (List Token) LexFault) → LexesFrom at bs r → LexesFrom 0 whole (front ts r)
  pub backwards : (r : Result (List Token) LexFault) → LexesFrom 0 whole r → Back ts at bs r

added : (ts : List Token) (at to : ℕ) (kind : Option Kind) → ts ++ with_kind [] at to kind ≡ with_kind ts at to kind
added ts at to (Some kind) = refl
added ts at to None = append-nil ts

front_more : (ts : List Token) (at : ℕ) (p : Piece) (r : Result (List Token) LexFault) → front ts (front (tokens_of at p) r) ≡ front (with_kind ts at (at + p.len) p.kind) r
front_more ts at p r = front_two ts (tokens_of at p) r ∙ ap (λ (x : List Token). front x r) (added ts at (at + p.len) p.kind)

so_piece : (whole : List ℕ) (ts : List Token) (at : ℕ) (bs : List ℕ) (p : Piece) → 0 < length bs → piece_at at bs ≡ Ok p → So whole ts at bs
    → So whole (with_kind ts at (at + p.len) p.kind) (at + p.len) (drop p.len bs)
so_piece whole ts at bs p lt h so = record {
  forwards = λ r d. subst (LexesFrom 0 whole) (front_more ts at p r) (so.forwards (front (tokens_of at p) r) (goes at bs (piece_at at bs) p (all_read at bs lt) h r d));
  backwards = λ r d. let b = so.backwards r d in let a = after at bs b.rest p b.from lt h in record { rest = a.rest; from = a.from; is = b.is ∙ ap (front ts) a.is ∙ front_more ts at p a.rest };
}

-- the piece has been read from the rest of the text, and its token is among the tokens
pub so_more : (whole : List ℕ) (ts us : List Token) (at : ℕ) (p : Piece) → at < length whole → piece_at at (drop at whole) ≡ Ok p → us ≡ with_kind ts at (at + p.len) p.kind
    → So whole ts at (drop at whole)
    → So whole us (at + p.len) (drop (at + p.len) whole)
so_more whole ts us at p lt h e so =
    let w : 0 < length (drop at whole) = rw (length-drop at whole) (omega arith) in
    subst (λ (us : List Token). So whole us (at + p.len) (drop (at + p.len) whole)) (sym e)
    (subst (So whole (with_kind ts at (at + p.len) p.kind) (at + p.len)) (drop-drop p.len at whole) (so_piece whole ts at (drop at whole) p w h so))

pub so_end : (whole : List ℕ) (ts : List Token) (at : ℕ) (bs : List ℕ) → bs ≡ [] → So whole ts at bs → LexesFrom 0 whole (Ok ts)
so_end whole ts at bs e so = subst (λ (us : List Token). LexesFrom 0 whole (Ok us)) (append-nil ts) (so.forwards (Ok []) (subst (λ (bs : List ℕ). LexesFrom at bs (Ok [])) (sym e) (end at)))

pub only_end : (whole : List ℕ) (ts : List Token) (at : ℕ) (bs : List ℕ) → bs ≡ [] → So whole ts at bs → (r : Result (List Token) LexFault) → LexesFrom 0 whole r → r ≡ Ok ts
only_end whole ts at bs e so r d =
    let b = so.backwards r d in
    b.is ∙ ap (front ts) (at_end at bs b.rest b.from e) ∙ ap (λ (us : List Token). Ok us) (append-nil ts)

pub so_fault : (whole : List ℕ) (ts : List Token) (at : ℕ) (f : LexFault) → at < length whole → piece_at at (drop at whole) ≡ Err f → So whole ts at (drop at whole) → LexesFrom 0 whole (Err f)
so_fault whole ts at f lt h so =
    let w : 0 < length (drop at whole) = rw (length-drop at whole) (omega arith) in
    so.forwards (Err f) (fault_here at (drop at whole) (piece_at at (drop at whole)) f (all_read at (drop at whole) w) h)

pub only_fault : (whole : List ℕ) (ts : List Token) (at : ℕ) (f : LexFault) → at < length whole → piece_at at (drop at whole) ≡ Err f → So whole ts at (drop at whole)
    → (r : Result (List Token) LexFault) → LexesFrom 0 whole r → r ≡ Err f
only_fault whole ts at f lt h so r d =
    let w : 0 < length (drop at whole) = rw (length-drop at whole) (omega arith) in
    let b = so.backwards r d in
    b.is ∙ ap (front ts) (after_fault at (drop at whole) b.rest f b.from w h)

-- ---- what was answered where a piece was wanted

pub err_lexes : (whole : List ℕ) (ts : List Token) (at : ℕ) (f : LexFault) → at < length whole → Gives (lost f) (piece_at at (drop at whole)) → So whole ts at (drop at whole) → Lexes whole (Err f)
err_lexes whole ts at l.NoMemory lt h so = tt
err_lexes whole ts at l.TooLong lt h so = tt
err_lexes whole ts at (l.BadByte p) lt h so = so_fault whole ts at (l.BadByte p) lt h so
err_lexes whole ts at (l.NumberTooLarge p) lt h so = so_fault whole ts at (l.NumberTooLarge p) lt h so
err_lexes whole ts at (l.OpenComment p) lt h so = so_fault whole ts at (l.OpenComment p) lt h so
err_lexes whole ts at (l.OpenText p) lt h so = so_fault whole ts at (l.OpenText p) lt h so

abbrev pub failed : LexFault → Result (List Token) LexFault
failed f = Err f

pub err_only : (whole : List ℕ) (ts : List Token) (at : ℕ) (f : LexFault) → at < length whole → Gives (lost f) (piece_at at (drop at whole)) → So whole ts at (drop at whole)
    → (r : Result (List Token) LexFault) → LexesFrom 0 whole r → Answers (failed f) r
err_only whole ts at l.NoMemory lt h so r d = tt
err_only whole ts at l.TooLong lt h so r d = tt
err_only whole ts at (l.BadByte p) lt h so r d = only_fault whole ts at (l.BadByte p) lt h so r d
err_only whole ts at (l.NumberTooLarge p) lt h so r d = only_fault whole ts at (l.NumberTooLarge p) lt h so r d
err_only whole ts at (l.OpenComment p) lt h so r d = only_fault whole ts at (l.OpenComment p) lt h so r d
err_only whole ts at (l.OpenText p) lt h so r d = only_fault whole ts at (l.OpenText p) lt h so r d

-- ---- no place of a text is too long

fault_not_long : (at : ℕ) (bs : List ℕ) (f : LexFault) → FaultHere at bs f → f ≡ l.TooLong → ⊥
fault_not_long at _ _ (stray b bs nb h) e = cc
fault_not_long at _ _ (after_zero d a rest e s lt) g = cc
fault_not_long at _ _ (after_number b c a rest e z h lt) g = cc
fault_not_long at _ _ (large b a rest e s le) g = cc
fault_not_long at _ _ (open_comment bs n) e = cc
fault_not_long at _ _ (open_text a rest d e) g = cc
fault_not_long at _ _ (in_text a vs u c rest p d b h) g = cc

failed_same : {f g : LexFault} → failed f ≡ failed g → f ≡ g
failed_same h = cc

before_failed : (t : Token) (r : Result (List Token) LexFault) (f : LexFault) → before t r ≡ Err f → r ≡ Err f
before_failed t (Ok ts) f e = cc
before_failed t (Err g) f e = e

not_too_long : (at : ℕ) (bs : List ℕ) (r : Result (List Token) LexFault) → LexesFrom at bs r → r ≡ Err l.TooLong → ⊥
not_too_long _ _ _ (end at) e = cc
not_too_long _ _ _ (gap at a rest r g d) e = not_too_long (at + length a) rest r d e
not_too_long _ _ _ (token at kind a rest r s d) e = not_too_long (at + length a) rest r d (before_failed (placed kind at (at + length a)) r l.TooLong e)
not_too_long _ _ _ (fault at bs f d) e = fault_not_long at bs f d (failed_same e)

pub err_not_long : (whole : List ℕ) (ts : List Token) (at : ℕ) (f : LexFault) → at < length whole → Gives (lost f) (piece_at at (drop at whole)) → So whole ts at (drop at whole)
    → failed f ≡ Err l.TooLong → ⊥
err_not_long whole ts at l.NoMemory lt h so e = cc
err_not_long whole ts at l.TooLong lt h so e = not_too_long 0 whole (Err l.TooLong) (so_fault whole ts at l.TooLong lt h so) refl
err_not_long whole ts at (l.BadByte p) lt h so e = cc
err_not_long whole ts at (l.NumberTooLarge p) lt h so e = cc
err_not_long whole ts at (l.OpenComment p) lt h so e = cc
err_not_long whole ts at (l.OpenText p) lt h so e = cc

-- ---- a text has at most as many tokens as bytes

fewer : (a rest : List ℕ) (n : ℕ) → 0 < length a → n ≤ length rest → n + 1 ≤ length (a ++ rest)
fewer a rest n lt h = omega (arith, length-append a rest)

as_few : (a rest : List ℕ) (r : Result (List Token) LexFault) → IfOk r (λ ts. length ts ≤ length rest) → IfOk r (λ ts. length ts ≤ length (a ++ rest))
as_few a rest (Ok ts) h = omega (arith, h, length-append a rest)
as_few a rest (Err f) h = tt

one_more : (t : Token) (a rest : List ℕ) (r : Result (List Token) LexFault) → 0 < length a → IfOk r (λ ts. length ts ≤ length rest) → IfOk (before t r) (λ ts. length ts ≤ length (a ++ rest))
one_more t a rest (Ok ts) lt h = omega (arith, fewer a rest (length ts) lt h)
one_more t a rest (Err f) lt h = tt

few : (at : ℕ) (bs : List ℕ) (r : Result (List Token) LexFault) → LexesFrom at bs r → IfOk r (λ ts. length ts ≤ length bs)
few _ _ _ (end at) = omega arith
few _ _ _ (gap at a rest r g d) = as_few a rest r (few (at + length a) rest r d)
few _ _ _ (token at kind a rest r s d) = one_more (placed kind at (at + length a)) a rest r (spelled_long kind a s.spelled) (few (at + length a) rest r d)
few _ _ _ (fault at bs f d) = tt

pub lexes_few : (whole : List ℕ) (r : Result (List Token) LexFault) → Lexes whole r → IfOk r (λ ts. length ts ≤ length whole)
lexes_few whole (Ok ts) h = few 0 whole (Ok ts) h
lexes_few whole (Err f) h = tt
