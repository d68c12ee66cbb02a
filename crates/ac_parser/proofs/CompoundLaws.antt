-- The laws of blocks, and of the statements with statements in them, given that of statements one deeper: for each its part, what the part spells
-- both ways, and the law. A statement that ends in an `if` without an `else` is not followed by `else` (`NoElse`); in a block it is followed by
-- a brace or another entry, neither of which is one. A `for` is regrouped, since what its parentheses hold is one part (`moved`).
use Rattle.std.proofs.Common.{◌≡◌, ℕ, suc, ◌+◌, ◌<◌, ◌≤◌, Bool, true, false, List, [], ◌∷◌, ◌++◌, length, Option, Some, None, refl, sym, ap, ◌∙◌, subst, append_assoc, arith}
use Rattle.std.specs.Prelude.{not}
use Rattle.ac_tree.specs.declared.expr.Expr.{Expr}
use Rattle.ac_tree.specs.declared.stmt.Stmt.{Stmt}
use Rattle.ac_tree.specs.declared.stmt.Stmt.TheVariants as s
use Rattle.ac_lexer.specs.declared.token.Word.TheVariants as w
use Rattle.ac_lexer.specs.declared.token.Mark.TheVariants as m
use Rattle.ac_lexer.specs.declared.token.Kind.TheVariants as k
use Rattle.ac_lexer.specs.declared.token.Token.{Token}
use Rattle.ac_parser.specs.declared.statements.ForHead.{ForHead}
use Rattle.reading_laws.specs.Marks.{Marked, mark, tokens, IsWord, IsMark, IsName}
use Rattle.ac_expressions.specs.Spelling.{ExprSpells}
use Rattle.ac_parser.specs.SpellingOfStatements.{ends_open, InitSpells, TestSpells, NextSpells, DeclSpells, StmtSpells, empty, while, for, do_plain, do_labelled, async, BlockSpells, braces}
use Rattle.ac_parser.specs.SpellingOfStatements.{EntriesSpell, no_entry, decl_entry, stmt_entry}
use Rattle.reading_laws.specs.Letters.{Sign, word, sign, same_mark, same_word, is_kind, starts_with, has_other}
use Rattle.reading_laws.specs.inner.Tokens.{kind_of}
use Rattle.ac_parser.specs.inner.ReadsStatements.{opening_kind, is_opening, begins_stmt, begins_head, whole_head_at, head_of, entries_at, block_at, stmt_at}
use Rattle.reading_laws.proofs.Parts.{Filled, Part, Law, Any, First, seq, made, first, second, law_same, law_before, law_bind, law_then, law_made, law_either, bind, made_of, either}
use Rattle.reading_laws.proofs.Rows.{Many, none, some, many, law_many}
use Rattle.reading_laws.proofs.Letters.{filler, signed, sign_part, law_sign, starts_by, other_by, is_kind_of}
use Rattle.ac_expressions.proofs.ChainLaws.{expr_named}
use Rattle.reading_laws.proofs.Openings.{by_last, last_is, started, starts_not, begins_bound, begins_made, within_had}
use Rattle.ac_expressions.proofs.Openings.{law_expr_bind}
use Rattle.ac_expressions.proofs.UnaryLaws.{whole_law}
use Rattle.ac_parser.proofs.DeclLaws.{decl_named, decl_law, decl_first, a_semicolon}
use Rattle.ac_parser.proofs.ForLaws.{HeadSpells, heads, head_named, head_law}
use Rattle.ac_parser.proofs.StatementHeads.{while_ends, for_ends, async_ends, stmt_first, stmt_begins_not}

pub fill_stmt : (depth : ℕ) → Filled Stmt (StmtSpells depth)
fill_stmt depth = record { value = s.Empty 0; marks = mark depth a_semicolon ∷ []; spells = empty depth a_semicolon refl }

abbrev pub stmt_named : ℕ → ℕ → Part Stmt
stmt_named depth room = record { read = stmt_at room; spells = StmtSpells depth; filled = fill_stmt depth }

-- an open statement is not followed by `else`
abbrev pub NoElse : Stmt → List Token → Type 0
NoElse x rest = ends_open x ≡ true → starts_with (word w.Else) rest ≡ false

-- ---- blocks

abbrev pub entry_part : ℕ → ℕ → Part Stmt
entry_part depth room = either (starts_with (word w.Int)) (decl_named depth room) (stmt_named depth room)

abbrev pub entries_named : ℕ → ℕ → Part (List Stmt)
entries_named depth room = record { read = entries_at (stmt_at room) room; spells = EntriesSpell depth; filled = record { value = []; marks = []; spells = no_entry depth } }

entries_same : (depth room : ℕ) (a : List Token) → entries_at (stmt_at room) room a ≡ (many (has_other (sign m.CloseBrace)) (entry_part depth room)).read a
unfolding many either
entries_same depth room a = refl

entries_are : (depth room : ℕ) (xs : List Stmt) (ms : List Marked) → Many Stmt (entry_part depth room).spells xs ms → EntriesSpell depth xs ms
unfolding either
entries_are depth room _ _ none = no_entry depth
entries_are depth room _ _ (some _ xs _ c (first x a g) r) = decl_entry depth x xs a c g (entries_are depth room xs c r)
entries_are depth room _ _ (some _ xs _ c (second x a g) r) = stmt_entry depth x xs a c g (entries_are depth room xs c r)

are_entries : (depth room : ℕ) (xs : List Stmt) (ms : List Marked) → EntriesSpell depth xs ms → Many Stmt (entry_part depth room).spells xs ms
unfolding either
are_entries depth room _ _ (no_entry _) = none
are_entries depth room _ _ (decl_entry _ x xs ms ns g r) = some x xs ms ns (first x ms g) (are_entries depth room xs ns r)
are_entries depth room _ _ (stmt_entry _ x xs ms ns g r) = some x xs ms ns (second x ms g) (are_entries depth room xs ns r)

-- a declaration begins with `int`
decl_begins : (depth : ℕ) (x : Stmt) (ms : List Marked) (rest : List Token) → DeclSpells depth x ms → starts_with (word w.Int) (tokens ms ++ rest) ≡ true
decl_begins depth x ms rest g = let f = decl_first depth x ms g in ap (λ (ms : List Marked). starts_with (word w.Int) (tokens ms ++ rest)) f.is ∙ f.begun (tokens f.others ++ rest)

some_marks : (depth : ℕ) (begins : List Token → Bool) (ms : List Marked) → First depth begins ms → 1 ≤ length ms
some_marks depth begins ms f = omega (arith, ap (λ (ms : List Marked). length ms) f.is)

entry_one : (depth room : ℕ) (x : Stmt) (ms : List Marked) → (entry_part depth room).spells x ms → 1 ≤ length ms
unfolding either
entry_one depth room _ _ (first x ms g) = some_marks depth (starts_with (word w.Int)) ms (decl_first depth x ms g)
entry_one depth room _ _ (second x ms g) = some_marks depth begins_stmt ms (stmt_first depth x ms g)

-- neither begins with a brace that closes, nor with `else`
entry_not : (depth room : ℕ) (v : Sign) → is_kind v (k.Word w.Int) ≡ false → is_opening (opening_kind (kind_of v)) ≡ false → (x : Stmt) (ms : List Marked) (rest : List Token)
    → (entry_part depth room).spells x ms → starts_with v (tokens ms ++ rest) ≡ false
unfolding either
entry_not depth room v h i _ _ rest (first x ms g) = starts_not v (word w.Int) h (tokens ms ++ rest) (decl_begins depth x ms rest g)
entry_not depth room v h i _ _ rest (second x ms g) = stmt_begins_not depth v i x ms rest g

other_when : (rest : List Token) → starts_with (sign m.CloseBrace) rest ≡ true → has_other (sign m.CloseBrace) rest ≡ false
other_when rest h = let z = started (sign m.CloseBrace) rest h in ap (has_other (sign m.CloseBrace)) z.is ∙ ap (λ (b : Bool). not b) (is_kind_of (sign m.CloseBrace) z.token z.kind)

-- tokens that begin with another sign
other_here : (ms : List Marked) (rest : List Token) → 1 ≤ length ms → starts_with (sign m.CloseBrace) (tokens ms ++ rest) ≡ false → has_other (sign m.CloseBrace) (tokens ms ++ rest) ≡ true
other_here [] rest le h = absurd (omega arith)
other_here (x ∷ ms) rest le h = ap (λ (b : Bool). not b) h

abbrev pub block_named : ℕ → ℕ → Part (ℕ × List Stmt)
block_named depth room = record {
  read = block_at (stmt_at room) room;
  spells = λ x ms. BlockSpells depth x.0 x.1 ms;
  filled = record {
    value = (0, []);
    marks = mark depth (filler (k.Mark m.OpenBrace)) ∷ ([] ++ mark depth (filler (k.Mark m.CloseBrace)) ∷ []);
    spells = braces depth (filler (k.Mark m.OpenBrace)) (filler (k.Mark m.CloseBrace)) [] [] refl (no_entry (suc depth)) refl;
  };
}

abbrev pub braces_part : ℕ → ℕ → Part (ℕ × List Stmt)
braces_part depth room = bind (sign_part depth (sign m.OpenBrace)) (λ at. bind (entries_named (suc depth) room) (λ xs. made_of (sign_part depth (sign m.CloseBrace)) (λ _. (at, xs))))

block_same : (depth room : ℕ) (a : List Token) → block_at (stmt_at room) room a ≡ (braces_part depth room).read a
unfolding bind made_of sign_part
block_same depth room a = refl

is_block : (depth room : ℕ) (x : ℕ × List Stmt) (ms : List Marked) → (braces_part depth room).spells x ms → BlockSpells depth x.0 x.1 ms
unfolding bind sign_part
is_block depth room _ _ (seq _ _ _ _ (signed l q) (seq xs y a c g last)) =
    by_last (λ y c. BlockSpells depth y.0 y.1 (mark depth l ∷ (a ++ c))) depth (sign m.CloseBrace) (l.span.at, xs) y c last (λ r j. braces depth l r xs a q g j)

block_is : (depth room at : ℕ) (xs : List Stmt) (ms : List Marked) → BlockSpells depth at xs ms → (braces_part depth room).spells (at, xs) ms
unfolding bind sign_part
block_is depth room _ _ _ (braces _ l r xs a q g j) = seq l.span.at _ _ _ (signed l q) (seq xs _ a _ g (last_is depth (sign m.CloseBrace) (l.span.at, xs) r j))

module _ (L depth room : ℕ) (now : depth + suc room ≡ suc L) (sl : Law L Stmt (stmt_named (suc depth) room) NoElse) where
  entry_law : Law L Stmt (entry_part (suc depth) room) NoElse
  unfolding same_word
  entry_law = law_either (starts_with (word w.Int)) (starts_by (word w.Int)) (law_before (decl_law L (suc depth) room (omega (arith, now))) (λ x rest h. tt)) sl
      (λ x ms rest g h. decl_begins (suc depth) x ms rest g) (λ x ms rest g h. stmt_begins_not (suc depth) (word w.Int) refl x ms rest g)

  entries_law : Law L (List Stmt) (entries_named (suc depth) room) (λ xs rest. starts_with (sign m.CloseBrace) rest ≡ true)
  unfolding same_word same_mark many
  entries_law = law_same (many (has_other (sign m.CloseBrace)) (entry_part (suc depth) room)) (entries_named (suc depth) room) (entries_same (suc depth) room) (entries_are (suc depth) room)
      (are_entries (suc depth) room)
      (law_many (has_other (sign m.CloseBrace)) (λ rest. starts_with (sign m.CloseBrace) rest ≡ true) (other_by (sign m.CloseBrace)) refl entry_law (entry_one (suc depth) room)
      (λ x ms rest g. other_here ms rest (entry_one (suc depth) room x ms g) (entry_not (suc depth) room (sign m.CloseBrace) refl refl x ms rest g))
      other_when
      (λ x rest h q. starts_not (word w.Else) (sign m.CloseBrace) refl rest h)
      (λ x y ms rest g q. entry_not (suc depth) room (word w.Else) refl refl y ms rest g))

  pub block_law : Law L (ℕ × List Stmt) (block_named depth room) Any
  block_law = law_same (braces_part depth room) (block_named depth room) (block_same depth room) (is_block depth room) (λ x ms g. block_is depth room x.0 x.1 ms g)
      (law_then (law_sign L depth (omega (arith, now)) (sign m.OpenBrace))
      (λ at. law_bind entries_law (λ xs a r h. law_made (λ _. (at, xs)) Any (law_sign L depth (omega (arith, now)) (sign m.CloseBrace)) (λ x rest h. tt))
      (λ xs y c rest g h. begins_made depth (sign m.CloseBrace) (λ _. (at, xs)) y c rest g)))

-- ---- blocks as statements, `do` and labels

abbrev pub block_stmt_part : ℕ → ℕ → Part Stmt
block_stmt_part depth room = made_of (block_named depth room) (λ x. s.Block x.0 x.1)

abbrev pub do_part : ℕ → ℕ → (ℕ → ℕ) → Option (List ℕ) → Part Stmt
do_part depth room place label = bind (sign_part depth (word w.Do)) (λ at. bind (block_named depth room)
    (λ x. bind (sign_part depth (word w.Finish)) (λ _. made_of (sign_part depth (sign m.Semicolon)) (λ _. s.Do (place at) label x.1))))

abbrev pub labelled_part : ℕ → ℕ → ℕ → List ℕ → Part Stmt
labelled_part depth room at name = bind (sign_part depth (sign m.Colon)) (λ _. do_part depth room (λ _. at) (Some name))

pub is_do : (depth room : ℕ) (x : Stmt) (ms : List Marked) → (do_part depth room (λ at. at) None).spells x ms → StmtSpells depth x ms
unfolding bind sign_part
is_do depth room _ _ (seq _ _ _ _ (signed t q) (seq x _ a _ g (seq _ y _ c (signed f r) last))) =
    by_last (λ y c. StmtSpells depth y (mark depth t ∷ (a ++ mark depth f ∷ c))) depth (sign m.Semicolon) (s.Do t.span.at None x.1) y c last (λ u j. do_plain depth x.0 t f u x.1 a q g r j)

pub is_labelled : (depth room : ℕ) (n : Token) (name : List ℕ) → IsName name n → (x : Stmt) (ms : List Marked) → (labelled_part depth room n.span.at name).spells x ms
    → StmtSpells depth x (mark depth n ∷ ms)
unfolding bind sign_part
is_labelled depth room n name i _ _ (seq _ _ _ _ (signed o v) (seq _ _ _ _ (signed t q) (seq x _ a _ g (seq _ y _ c (signed f r) last)))) =
    by_last (λ y c. StmtSpells depth y (mark depth n ∷ mark depth o ∷ mark depth t ∷ (a ++ mark depth f ∷ c))) depth (sign m.Semicolon) (s.Do n.span.at (Some name) x.1) y c last
    (λ u j. do_labelled depth x.0 n o t f u name x.1 a i v q g r j)

pub do_is : (depth room inner : ℕ) (place : ℕ → ℕ) (label : Option (List ℕ)) (t f u : Token) (xs : List Stmt) (a : List Marked) → IsWord w.Do t → BlockSpells depth inner xs a → IsWord w.Finish f
    → IsMark m.Semicolon u
    → (do_part depth room place label).spells (s.Do (place t.span.at) label xs) (mark depth t ∷ (a ++ mark depth f ∷ mark depth u ∷ []))
unfolding bind sign_part
do_is depth room inner place label t f u xs a q g r j = seq t.span.at _ _ _ (signed t q)
    (seq (inner, xs) _ a _ g (seq f.span.at _ _ _ (signed f r) (last_is depth (sign m.Semicolon) (s.Do (place t.span.at) label xs) u j)))

pub labelled_is : (depth room inner : ℕ) (n o t f u : Token) (name : List ℕ) (xs : List Stmt) (a : List Marked) → IsMark m.Colon o → IsWord w.Do t → BlockSpells depth inner xs a → IsWord w.Finish f
    → IsMark m.Semicolon u
    → (labelled_part depth room n.span.at name).spells (s.Do n.span.at (Some name) xs) (mark depth o ∷ mark depth t ∷ (a ++ mark depth f ∷ mark depth u ∷ []))
unfolding bind sign_part
labelled_is depth room inner n o t f u name xs a v q g r j = seq o.span.at _ _ _ (signed o v) (do_is depth room inner (λ _. n.span.at) (Some name) t f u xs a q g r j)

-- ---- `while`, `for` and `async`

abbrev pub while_part : ℕ → ℕ → Part Stmt
while_part depth room = bind (sign_part depth (word w.While)) (λ at. bind (sign_part depth (sign m.OpenParen))
    (λ _. bind (expr_named (suc depth) room) (λ x. bind (sign_part (suc depth) (sign m.CloseParen)) (λ _. made_of (stmt_named (suc depth) room) (λ y. s.While at x y)))))

abbrev pub for_part : ℕ → ℕ → Part Stmt
for_part depth room = bind (sign_part depth (word w.For)) (λ at. bind (sign_part depth (sign m.OpenParen))
    (λ _. bind (head_named (suc depth) room) (λ h. bind (sign_part (suc depth) (sign m.CloseParen)) (λ _. made_of (stmt_named (suc depth) room) (λ y. s.For at h.init h.test h.next y)))))

abbrev pub async_part : ℕ → ℕ → Part Stmt
async_part depth room = bind (sign_part depth (word w.Async)) (λ at. made_of (stmt_named (suc depth) room) (λ y. s.Async at y))

pub is_while : (depth room : ℕ) (x : Stmt) (ms : List Marked) → (while_part depth room).spells x ms → StmtSpells depth x ms
unfolding bind made_of sign_part
is_while depth room _ _ (seq _ _ _ _ (signed t q) (seq _ _ _ _ (signed l i) (seq x _ a _ g (seq _ _ _ _ (signed r j) (made y c h))))) = while depth t l r x y a c q i g j h

pub while_is : (depth room : ℕ) (t l r : Token) (x : Expr) (y : Stmt) (a c : List Marked) → IsWord w.While t → IsMark m.OpenParen l → ExprSpells (suc depth) 1 x a → IsMark m.CloseParen r
    → StmtSpells (suc depth) y c
    → (while_part depth room).spells (s.While t.span.at x y) (mark depth t ∷ mark depth l ∷ (a ++ mark (suc depth) r ∷ c))
unfolding bind made_of sign_part
while_is depth room t l r x y a c q i g j h = seq t.span.at _ _ _ (signed t q) (seq l.span.at _ _ _ (signed l i) (seq x _ a _ g (seq r.span.at _ _ _ (signed r j) (made y c h))))

pub is_async : (depth room : ℕ) (x : Stmt) (ms : List Marked) → (async_part depth room).spells x ms → StmtSpells depth x ms
unfolding bind made_of sign_part
is_async depth room _ _ (seq _ _ _ _ (signed t q) (made y c h)) = async depth t y c q h

pub async_is : (depth room : ℕ) (t : Token) (y : Stmt) (c : List Marked) → IsWord w.Async t → StmtSpells (suc depth) y c → (async_part depth room).spells (s.Async t.span.at y) (mark depth t ∷ c)
unfolding bind made_of sign_part
async_is depth room t y c q h = seq t.span.at _ _ _ (signed t q) (made y c h)

-- the same marks, grouped to the left
moved : (depth : ℕ) (is ms ns : List Marked) (u v : Token) (more : List Marked)
    → (is ++ mark (suc depth) u ∷ (ms ++ mark (suc depth) v ∷ ns)) ++ more ≡ is ++ mark (suc depth) u ∷ (ms ++ mark (suc depth) v ∷ (ns ++ more))
moved depth is ms ns u v more =
    append_assoc is (mark (suc depth) u ∷ (ms ++ mark (suc depth) v ∷ ns)) more ∙ ap (λ (l : List Marked). is ++ mark (suc depth) u ∷ l) (append_assoc ms (mark (suc depth) v ∷ ns) more)

for_case : (depth : ℕ) (t l : Token) → IsWord w.For t → IsMark m.OpenParen l → (h : ForHead) (a : List Marked) → HeadSpells (suc depth) h a → (r : Token) → IsMark m.CloseParen r
    → (y : Stmt) (c : List Marked) → StmtSpells (suc depth) y c
    → StmtSpells depth (s.For t.span.at h.init h.test h.next y) (mark depth t ∷ mark depth l ∷ (a ++ mark (suc depth) r ∷ c))
for_case depth t l q i _ _ (heads u v init test next is ms ns f g d z e) r j y c b =
    let one : StmtSpells depth (s.For t.span.at init test next y) (mark depth t ∷ mark depth l ∷ (is ++ mark (suc depth) u ∷ (ms ++ mark (suc depth) v ∷ (ns ++ mark (suc depth) r ∷ c)))) =
    for depth t l u v r init test next y is ms ns c q i f g d z e j b in
    subst (λ (n : List Marked). StmtSpells depth (s.For t.span.at init test next y) (mark depth t ∷ mark depth l ∷ n)) (sym (moved depth is ms ns u v (mark (suc depth) r ∷ c))) one

pub is_for : (depth room : ℕ) (x : Stmt) (ms : List Marked) → (for_part depth room).spells x ms → StmtSpells depth x ms
unfolding bind made_of sign_part
is_for depth room _ _ (seq _ _ _ _ (signed t q) (seq _ _ _ _ (signed l i) (seq h _ a _ g (seq _ _ _ _ (signed r j) (made y c b))))) = for_case depth t l q i h a g r j y c b

for_shape : (depth room : ℕ) (t l : Token) → IsWord w.For t → IsMark m.OpenParen l → (h : ForHead) (a : List Marked) → HeadSpells (suc depth) h a → (r : Token) → IsMark m.CloseParen r
    → (y : Stmt) (c : List Marked) → StmtSpells (suc depth) y c
    → (for_part depth room).spells (s.For t.span.at h.init h.test h.next y) (mark depth t ∷ mark depth l ∷ (a ++ mark (suc depth) r ∷ c))
unfolding bind made_of sign_part
for_shape depth room t l q i h a g r j y c b = seq t.span.at _ _ _ (signed t q) (seq l.span.at _ _ _ (signed l i) (seq h _ a _ g (seq r.span.at _ _ _ (signed r j) (made y c b))))

pub for_is : (depth room : ℕ) (t l u v r : Token) (init : Option Stmt) (test : Option Expr) (next : Option Stmt) (y : Stmt) (is ms ns os : List Marked) → IsWord w.For t → IsMark m.OpenParen l
    → InitSpells (suc (suc depth)) init is → IsMark m.Semicolon u → TestSpells (suc depth) test ms
    → IsMark m.Semicolon v → NextSpells (suc (suc depth)) next ns → IsMark m.CloseParen r → StmtSpells (suc depth) y os
    → (for_part depth room).spells (s.For t.span.at init test next y) (mark depth t ∷ mark depth l ∷ (is ++ mark (suc depth) u ∷ (ms ++ mark (suc depth) v ∷ (ns ++ mark (suc depth) r ∷ os))))
for_is depth room t l u v r init test next y is ms ns os q i f g d z e j b =
    subst (λ (n : List Marked). (for_part depth room).spells (s.For t.span.at init test next y) (mark depth t ∷ mark depth l ∷ n)) (moved depth is ms ns u v (mark (suc depth) r ∷ os))
    (for_shape depth room t l q i (head_of init test next) (is ++ mark (suc depth) u ∷ (ms ++ mark (suc depth) v ∷ ns)) (heads u v init test next is ms ns f g d z e) r j y os b)

module _ (L depth room : ℕ) (now : depth + suc room ≡ suc L) (sl : Law L Stmt (stmt_named (suc depth) room) NoElse) where
  pub do_law : (place : ℕ → ℕ) (label : Option (List ℕ)) → Law L Stmt (do_part depth room place label) Any
  do_law place label = law_then (law_sign L depth (omega (arith, now)) (word w.Do)) (λ at. law_then (block_law L depth room now sl)
      (λ x. law_then (law_sign L depth (omega (arith, now)) (word w.Finish))
      (λ _. law_made (λ _. s.Do (place at) label x.1) Any (law_sign L depth (omega (arith, now)) (sign m.Semicolon)) (λ x rest h. tt))))

  pub labelled_law : (at : ℕ) (name : List ℕ) → Law L Stmt (labelled_part depth room at name) Any
  labelled_law at name = law_then (law_sign L depth (omega (arith, now)) (sign m.Colon)) (λ _. do_law (λ _. at) (Some name))

  pub block_stmt_law : Law L Stmt (block_stmt_part depth room) Any
  block_stmt_law = law_made (λ x. s.Block x.0 x.1) Any (block_law L depth room now sl) (λ x rest h. tt)

  pub while_law : Law L Stmt (while_part depth room) NoElse
  while_law = law_then (law_sign L depth (omega (arith, now)) (word w.While)) (λ at. law_then (law_sign L depth (omega (arith, now)) (sign m.OpenParen))
      (λ _. law_expr_bind L (suc depth) room (omega (arith, now)) (whole_law L (suc depth) room (omega (arith, now))) (suc depth) (sign m.CloseParen) refl
      (λ x _. made_of (stmt_named (suc depth) room) (λ y. s.While at x y))
      (λ x le. law_then (law_sign L (suc depth) le (sign m.CloseParen)) (λ _. law_made (λ y. s.While at x y) NoElse sl (λ y rest h q. h (while_ends at x y ∙ q))))))

  pub for_law : Law L Stmt (for_part depth room) NoElse
  for_law = law_then (law_sign L depth (omega (arith, now)) (word w.For)) (λ at. law_then (law_sign L depth (omega (arith, now)) (sign m.OpenParen))
      (λ _. law_bind (head_law L (suc depth) room (omega (arith, now)))
      (λ h a r e. let lt : 0 < room = within_had begins_head whole_head_at room a (h, r) e in
      law_then (law_sign L (suc depth) (omega (arith, now, lt)) (sign m.CloseParen))
      (λ _. law_made (λ y. s.For at h.init h.test h.next y) NoElse sl (λ y rest n q. n (for_ends at h.init h.test h.next y ∙ q))))
      (λ h y c rest g n. begins_bound (suc depth) (sign m.CloseParen) (λ _. made_of (stmt_named (suc depth) room) (λ y. s.For at h.init h.test h.next y)) y c rest g)))

  pub async_law : Law L Stmt (async_part depth room) NoElse
  async_law = law_then (law_sign L depth (omega (arith, now)) (word w.Async)) (λ at. law_made (λ y. s.Async at y) NoElse sl (λ y rest h q. h (async_ends at y ∙ q)))
