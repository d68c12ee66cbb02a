-- The law of `if`, given that of statements one deeper, and that a statement that was read takes the `else` that comes next.
-- In the grammar no body before an `else` ends open. So reading an `else` is good only behind a body that was read: where that one ends open, no
-- `else` came next (`other_case`). `law_behind` is `law_bind` for a second part that is good only there.
use Rattle.std.proofs.Common.{◌≡◌, ℕ, suc, ◌+◌, ◌≤◌, Bool, true, false, List, [], ◌∷◌, ◌++◌, Option, Some, None, Ok, refl, sym, ◌∙◌, subst, arith}
use Rattle.std.proofs.lemmas.List.{append-nil}
use Rattle.ac_tree.specs.declared.expr.Expr.{Expr}
use Rattle.ac_tree.specs.declared.stmt.Stmt.{Stmt}
use Rattle.ac_tree.specs.declared.stmt.Stmt.TheVariants as s
use Rattle.ac_lexer.specs.declared.token.Word.TheVariants as w
use Rattle.ac_lexer.specs.declared.token.Mark.TheVariants as m
use Rattle.ac_lexer.specs.declared.token.Token.{Token}
use Rattle.reading_laws.specs.Marks.{Marked, mark, tokens, IsWord, IsMark, cut}
use Rattle.ac_expressions.specs.Spelling.{ExprSpells}
use Rattle.ac_parser.specs.SpellingOfStatements.{ends_open, StmtSpells, if_alone, if_else}
use Rattle.reading_laws.specs.Readers.{Reads}
use Rattle.reading_laws.specs.Letters.{word, sign, starts_with}
use Rattle.ac_parser.specs.inner.ReadsStatements.{other_at, stmt_at}
use Rattle.reading_laws.proofs.Heads.{Local, local_bind, local_return}
use Rattle.reading_laws.proofs.Parts.{Part, GoodAt, Law, itself, ret, law_ret, seq, made, first, second, verdict, law_then, law_made, law_either, made_good, made_reads, bind_good, seq_reads, bind}
use Rattle.reading_laws.proofs.Parts.{made_of, either}
use Rattle.reading_laws.proofs.Letters.{signed, sign_part, law_sign, starts_by}
use Rattle.ac_expressions.proofs.ChainLaws.{expr_named}
use Rattle.reading_laws.proofs.Openings.{begins_bound}
use Rattle.ac_expressions.proofs.Openings.{law_expr_bind}
use Rattle.ac_expressions.proofs.UnaryLaws.{whole_law}
use Rattle.ac_parser.proofs.StatementHeads.{if_ends, else_ends}
use Rattle.ac_parser.proofs.CompoundLaws.{stmt_named, NoElse}
use Rattle.reading_laws.proofs.Rows.{good_by}

-- ---- `[ else stmt ]` behind a statement

abbrev pub else_part : ℕ → ℕ → Part (Option Stmt)
else_part depth room = either (starts_with (word w.Else)) (bind (sign_part depth (word w.Else)) (λ _. made_of (stmt_named (suc depth) room) (λ z. Some z))) (ret None)

pub data OtherSpells (depth : ℕ) (y : Stmt) : Option Stmt → List Marked → Type 0 where
  no_other : OtherSpells depth y None []
  some_other : (t : Token) (z : Stmt) (ms : List Marked) → ends_open y ≡ false → IsWord w.Else t → StmtSpells (suc depth) z ms → OtherSpells depth y (Some z) (mark depth t ∷ ms)

abbrev pub other_named : ℕ → ℕ → Stmt → Part (Option Stmt)
other_named depth room y = record { read = other_at (stmt_at room); spells = OtherSpells depth y; filled = record { value = None; marks = []; spells = no_other } }

other_same : (depth room : ℕ) (a : List Token) → other_at (stmt_at room) a ≡ (else_part depth room).read a
unfolding either bind made_of ret sign_part
other_same depth room a = refl

-- what may follow: where there is no `else`, none comes
abbrev pub OtherEnds : Option Stmt → List Token → Type 0
OtherEnds None rest = starts_with (word w.Else) rest ≡ false
OtherEnds (Some z) rest = NoElse z rest

other_is : (depth room : ℕ) (y : Stmt) (x : Option Stmt) (ms : List Marked) → OtherSpells depth y x ms → (else_part depth room).spells x ms
unfolding either bind made_of ret sign_part
other_is depth room y _ _ no_other = second None [] itself
other_is depth room y _ _ (some_other t z ms e q g) = first (Some z) (mark depth t ∷ ms) (seq t.span.at (Some z) (mark depth t ∷ []) ms (signed t q) (made z ms g))

is_else : (depth room : ℕ) (y : Stmt) → ends_open y ≡ false → (x : Option Stmt) (ms : List Marked)
    → (bind (sign_part depth (word w.Else)) (λ _. made_of (stmt_named (suc depth) room) (λ z. Some z))).spells x ms → OtherSpells depth y x ms
unfolding bind made_of sign_part
is_else depth room y e _ _ (seq _ _ _ _ (signed t q) (made z ms g)) = some_other t z ms e q g

is_none : (depth : ℕ) (y : Stmt) (x : Option Stmt) (ms : List Marked) → (ret {X = Option Stmt} None).spells x ms → OtherSpells depth y x ms
unfolding ret
is_none depth y _ _ itself = no_other

else_fails : (x : Option Stmt) (ms : List Marked) (rest : List Token) → (ret {X = Option Stmt} None).spells x ms → OtherEnds x rest → starts_with (word w.Else) (tokens ms ++ rest) ≡ false
unfolding ret
else_fails _ _ rest itself h = h

module _ (L depth room : ℕ) (le : depth ≤ L) (sl : Law L Stmt (stmt_named (suc depth) room) NoElse) where
  some_law : Law L (Option Stmt) (bind (sign_part depth (word w.Else)) (λ _. made_of (stmt_named (suc depth) room) (λ z. Some z))) OtherEnds
  some_law = law_then (law_sign L depth le (word w.Else)) (λ _. law_made (λ z. Some z) OtherEnds sl (λ z rest h. h))

  else_law : Law L (Option Stmt) (else_part depth room) OtherEnds
  else_law = law_either (starts_with (word w.Else)) (starts_by (word w.Else)) some_law (law_ret None OtherEnds)
      (λ x ms rest g h. begins_bound depth (word w.Else) (λ _. made_of (stmt_named (suc depth) room) (λ z. Some z)) x ms rest g) else_fails

  -- where `else` comes, the statement before does not end open
  other_case : (y : Stmt) (a : List Token) (t : Bool) → starts_with (word w.Else) a ≡ t → (t ≡ true → ends_open y ≡ false) → GoodAt L (Option Stmt) (other_at (stmt_at room)) (OtherSpells depth y) a
  unfolding either bind made_of ret sign_part
  other_case y a true q e =
      good_by L (Option Stmt) (bind (sign_part depth (word w.Else)) (λ _. made_of (stmt_named (suc depth) room) (λ z. Some z))).read (other_at (stmt_at room))
      (bind (sign_part depth (word w.Else)) (λ _. made_of (stmt_named (suc depth) room) (λ z. Some z))).spells (OtherSpells depth y) a (rw q refl) (is_else depth room y (e refl)) (some_law.good a)
  other_case y a false q e = good_by L (Option Stmt) (λ a. Ok (None, a)) (other_at (stmt_at room)) (ret {X = Option Stmt} None).spells (OtherSpells depth y) a (rw q refl) (is_none depth y)
      ((law_ret {L = L} None OtherEnds).good a)

  other_reads : (y : Stmt) (x : Option Stmt) (ms : List Marked) → OtherSpells depth y x ms → (rest : List Token) → OtherEnds x rest
      → other_at (stmt_at room) (tokens ms ++ rest) ≡ verdict x rest (cut L ms rest)
  other_reads y x ms g rest h = other_same depth room (tokens ms ++ rest) ∙ else_law.reads x ms (other_is depth room y x ms g) rest h

  other_local : Local (Option Stmt) (other_at (stmt_at room))
  unfolding either bind made_of ret sign_part
  other_local = else_law.local

-- ---- a first part, and a second whose reading is good only where the first one was read

pub law_behind : {L : ℕ} {X Y : Type 0} {F : X → List Token → Type 0} {H : Y → List Token → Type 0} {p : Part X} (k : X → Part Y) → Law L X p F
    → ((x : X) (a r : List Token) → p.read a ≡ Ok (x, r) → GoodAt L Y (k x).read (k x).spells r)
    → ((x : X) (y : Y) (ms : List Marked) → (k x).spells y ms → (rest : List Token) → H y rest → (k x).read (tokens ms ++ rest) ≡ verdict y rest (cut L ms rest))
    → ((x : X) → Local Y (k x).read)
    → ((x : X) (y : Y) (c : List Marked) (rest : List Token) → (k x).spells y c → H y rest → F x (tokens c ++ rest)) → Law L Y (bind p k) H
unfolding bind
law_behind {L} {X} {Y} {F} {H} {p} k l g r c fits = record {
  good = λ a. bind_good L X Y p.read (λ x. (k x).read) p.spells (λ x. (k x).spells) a (l.good a) (λ x m h. g x a m h) (λ x. (k x).filled);
  reads = λ y ms s rest h. seq_reads L X Y p.read (λ x. (k x).read) p.spells (λ x. (k x).spells) y ms s rest
      (λ x a d u v. l.reads x a u (tokens d ++ rest) (fits x y d rest v h)) (λ x a d v e. r x y d v rest h);
  local = local_bind X Y p.read (λ x. (k x).read) l.local (λ a z e. c z.0);
}

abbrev pub whole_if : ℕ → ℕ → ℕ → Expr → Stmt → Part Stmt
whole_if depth room at x y = made_of (other_named depth room y) (λ z. s.If at x y z)

abbrev pub if_part : ℕ → ℕ → Part Stmt
if_part depth room = bind (sign_part depth (word w.If)) (λ at. bind (sign_part depth (sign m.OpenParen))
    (λ _. bind (expr_named (suc depth) room) (λ x. bind (sign_part (suc depth) (sign m.CloseParen)) (λ _. bind (stmt_named (suc depth) room) (λ y. whole_if depth room at x y)))))

-- a statement that was read takes the `else` that comes next
abbrev pub Greedy : Stmt → List Token → Type 0
Greedy x rest = starts_with (word w.Else) rest ≡ true → ends_open x ≡ false

other_ends : (at : ℕ) (x : Expr) (y : Stmt) (z : Option Stmt) (rest : List Token) → NoElse (s.If at x y z) rest → OtherEnds z rest
other_ends at x y None rest h = h (if_ends at x y)
other_ends at x y (Some z) rest h = λ q. h (else_ends at x y z ∙ q)

body_ends : (depth : ℕ) (at : ℕ) (x : Expr) (y : Stmt) (z : Option Stmt) (ms : List Marked) (rest : List Token) → OtherSpells depth y z ms → NoElse (s.If at x y z) rest → NoElse y (tokens ms ++ rest)
body_ends depth at x y _ _ rest no_other h q = h (if_ends at x y)
body_ends depth at x y _ _ rest (some_other t z ms e i g) h q = let no : true ≡ false = sym q ∙ e in cc

if_follows : (depth room at : ℕ) (x : Expr) (y : Stmt) (z : Stmt) (ms : List Marked) (rest : List Token) → (whole_if depth room at x y).spells z ms → NoElse z rest → NoElse y (tokens ms ++ rest)
unfolding made_of
if_follows depth room at x y _ _ rest (made z ms g) h = body_ends depth at x y z ms rest g h

is_other : (depth : ℕ) (t l r : Token) (x : Expr) (y : Stmt) (a c : List Marked) → IsWord w.If t → IsMark m.OpenParen l → ExprSpells (suc depth) 1 x a → IsMark m.CloseParen r
    → StmtSpells (suc depth) y c → (z : Option Stmt) (ms : List Marked) → OtherSpells depth y z ms
    → StmtSpells depth (s.If t.span.at x y z) (mark depth t ∷ mark depth l ∷ (a ++ mark (suc depth) r ∷ (c ++ ms)))
is_other depth t l r x y a c q i g j h _ _ no_other =
    subst (λ (c : List Marked). StmtSpells depth (s.If t.span.at x y None) (mark depth t ∷ mark depth l ∷ (a ++ mark (suc depth) r ∷ c))) (sym (append-nil c)) (if_alone depth t l r x y a c q i g j h)
is_other depth t l r x y a c q i g j h _ _ (some_other o z ms e v f) = if_else depth t l r o x y z a c ms q i g j h e v f

if_end : (depth room : ℕ) (t l r : Token) (x : Expr) (y : Stmt) (a c : List Marked) → IsWord w.If t → IsMark m.OpenParen l → ExprSpells (suc depth) 1 x a → IsMark m.CloseParen r
    → StmtSpells (suc depth) y c → (z : Stmt) (ms : List Marked) → (whole_if depth room t.span.at x y).spells z ms
    → StmtSpells depth z (mark depth t ∷ mark depth l ∷ (a ++ mark (suc depth) r ∷ (c ++ ms)))
unfolding made_of
if_end depth room t l r x y a c q i g j h _ _ (made z ms o) = is_other depth t l r x y a c q i g j h z ms o

pub is_if : (depth room : ℕ) (x : Stmt) (ms : List Marked) → (if_part depth room).spells x ms → StmtSpells depth x ms
unfolding bind sign_part
is_if depth room _ _ (seq _ _ _ _ (signed t q) (seq _ _ _ _ (signed l i) (seq x _ a _ g (seq _ _ _ _ (signed r j) (seq y z c ms h o))))) = if_end depth room t l r x y a c q i g j h z ms o

pub if_is : (depth room : ℕ) (t l r : Token) (x : Expr) (y : Stmt) (a c : List Marked) (z : Option Stmt) (ms : List Marked) → IsWord w.If t → IsMark m.OpenParen l → ExprSpells (suc depth) 1 x a
    → IsMark m.CloseParen r → StmtSpells (suc depth) y c → OtherSpells depth y z ms
    → (if_part depth room).spells (s.If t.span.at x y z) (mark depth t ∷ mark depth l ∷ (a ++ mark (suc depth) r ∷ (c ++ ms)))
unfolding bind made_of sign_part
if_is depth room t l r x y a c z ms q i g j h o = seq t.span.at _ _ _ (signed t q) (seq l.span.at _ _ _ (signed l i) (seq x _ a _ g (seq r.span.at _ _ _ (signed r j) (seq y _ c _ h (made z ms o)))))

module _ (L depth room : ℕ) (now : depth + suc room ≡ suc L) (sl : Law L Stmt (stmt_named (suc depth) room) NoElse)
    (greedy : (a : List Token) (x : Stmt) (r : List Token) → stmt_at room a ≡ Ok (x, r) → Greedy x r) where
  body_law : (at : ℕ) (x : Expr) → Law L Stmt (bind (stmt_named (suc depth) room) (λ y. whole_if depth room at x y)) NoElse
  unfolding made_of
  body_law at x = law_behind (λ y. whole_if depth room at x y) sl
      (λ y a r h. made_good L (Option Stmt) Stmt (other_at (stmt_at room)) (OtherSpells depth y) (λ z. s.If at x y z) r
      (other_case L depth room (omega (arith, now)) sl y r (starts_with (word w.Else) r) refl (λ q. greedy a y r h q)))
      (λ y z ms g rest h. made_reads L (Option Stmt) Stmt (other_at (stmt_at room)) (OtherSpells depth y) (λ z. s.If at x y z) z ms g rest NoElse h
      (λ o f n. other_reads L depth room (omega (arith, now)) sl y o ms f rest (other_ends at x y o rest n)))
      (λ y. local_bind (Option Stmt) Stmt (other_at (stmt_at room)) (λ z a. Ok (s.If at x y z, a)) (other_local L depth room (omega (arith, now)) sl) (λ a z e. local_return Stmt (s.If at x y z.0)))
      (λ y z c rest g h. if_follows depth room at x y z c rest g h)

  pub if_law : Law L Stmt (if_part depth room) NoElse
  if_law = law_then (law_sign L depth (omega (arith, now)) (word w.If)) (λ at. law_then (law_sign L depth (omega (arith, now)) (sign m.OpenParen))
      (λ _. law_expr_bind L (suc depth) room (omega (arith, now)) (whole_law L (suc depth) room (omega (arith, now))) (suc depth) (sign m.CloseParen) refl
      (λ x _. bind (stmt_named (suc depth) room) (λ y. whole_if depth room at x y))
      (λ x le. law_then (law_sign L (suc depth) le (sign m.CloseParen)) (λ _. body_law at x))))
