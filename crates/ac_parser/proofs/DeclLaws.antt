-- The laws of declarations and of assignments, which stand without their semicolon in a `for`.
-- The parser has read a name before it knows what it begins, so an assignment is split into its name and what is behind it (`split_simple`).
-- Both may be too deep, so each token that can begin one is shown to begin one (`simple_opens`, `decl_opens`).
use Rattle.std.proofs.Common.{◌≡◌, ℕ, suc, ◌+◌, ◌<◌, true, false, List, [], ◌∷◌, ◌++◌, Some, None, refl, sym, ap, subst, arith}
use Rattle.ac_tree.specs.declared.expr.Expr.{Expr}
use Rattle.ac_tree.specs.declared.expr.Expr.TheVariants as e
use Rattle.ac_tree.specs.declared.stmt.Stmt.{Stmt}
use Rattle.ac_tree.specs.declared.stmt.Stmt.TheVariants as s
use Rattle.ac_lexer.specs.declared.token.Word.TheVariants as w
use Rattle.ac_lexer.specs.declared.token.Mark.TheVariants as m
use Rattle.ac_lexer.specs.declared.token.Kind.{Kind}
use Rattle.ac_lexer.specs.declared.token.Kind.TheVariants as k
use Rattle.ac_lexer.specs.declared.token.Token.{Token}
use Rattle.reading_laws.specs.Marks.{Marked, mark, tokens, IsWord, IsMark, IsName}
use Rattle.ac_expressions.specs.Spelling.{ExprSpells, variable}
use Rattle.ac_parser.specs.SpellingOfStatements.{no_value, some_value, DeclSpells, int_decl, array_decl, SimpleSpells, simple}
use Rattle.reading_laws.specs.Readers.{◌>>=◌, is_there}
use Rattle.reading_laws.specs.Letters.{word, sign, same_mark, starts_with, has_name, has_number, name_kind, name_at, number_at}
use Rattle.ac_parser.specs.inner.ReadsStatements.{named_simple_at, simple_at, whole_decl_at, decl_at}
use Rattle.reading_laws.proofs.Parts.{Filled, Part, Law, Any, Opens, First, ret, seq, made, Either_of, first, second, law_same, law_bind, law_then, law_made, law_either, bind, made_of, either}
use Rattle.reading_laws.proofs.Letters.{filler, signed, sign_part, law_sign, starts_by, is_case, is_kind_of, named, name_part, law_name, name_by, numbered}
use Rattle.ac_expressions.proofs.ExpressionHeads.{Ends}
use Rattle.ac_expressions.proofs.ChainLaws.{fill_up, expr_named}
use Rattle.reading_laws.proofs.Openings.{by_last, last_is, begins_bound, no_bound, no_made, within_had, law_within, deep_number, deep_number_law}
use Rattle.ac_expressions.proofs.Openings.{ends_bound, law_expr_made}
use Rattle.ac_expressions.proofs.CallLaws.{named_place, place_part, named_place_law, is_named_place, place_is}
use Rattle.ac_expressions.proofs.UnaryLaws.{whole_law}

abbrev pub Semi : {X : Type 0} → X → List Token → Type 0
Semi x rest = starts_with (sign m.Semicolon) rest ≡ true

abbrev pub an_int : Token
an_int = filler (k.Word w.Int)

abbrev pub an_x : Token
an_x = filler (k.Name (120 ∷ []))

abbrev pub an_assign : Token
an_assign = filler (k.Mark m.Assign)

abbrev pub a_semicolon : Token
a_semicolon = filler (k.Mark m.Semicolon)

-- a name comes next
pub record IsNamed (t : Token) : Type 0 where
  pub name : List ℕ
  pub kind : IsName name t

named_case : (t : Token) (kind : Kind) → t.kind ≡ kind → is_there (name_kind t.span.at kind) ≡ true → IsNamed t
named_case t (k.Name name) q h = record { name = name; kind = q }
named_case t (k.Number n) q h = cc
named_case t (k.Text n) q h = cc
named_case t (k.Word n) q h = cc
named_case t (k.Mark n) q h = cc

pub named_next : (t : Token) (ts : List Token) → has_name (t ∷ ts) ≡ true → IsNamed t
named_next t ts h = named_case t t.kind refl h

-- ---- assignments without their semicolon

abbrev pub simple_rest : ℕ → ℕ → ℕ → List ℕ → Part Stmt
simple_rest depth room at name = bind (named_place depth room at name) (λ x. bind (sign_part depth (sign m.Assign)) (λ _. made_of (expr_named depth (suc room)) (λ y. s.Assign at x y)))

abbrev pub simple_part : ℕ → ℕ → Part Stmt
simple_part depth room = bind (name_part depth) (λ n. simple_rest depth room n.0 n.1)

pub fill_simple : (depth : ℕ) → Filled Stmt (SimpleSpells depth)
fill_simple depth =
    let v = fill_up depth 10 1 refl in
    record {
      value = s.Assign 0 (e.Name 0 (120 ∷ [])) v.value;
      marks = mark depth an_x ∷ ([] ++ mark depth an_assign ∷ v.marks);
      spells = simple depth an_x an_assign (e.Name 0 (120 ∷ [])) v.value [] v.marks (variable depth an_x (120 ∷ []) refl) refl v.spells;
    }

abbrev pub simple_named : ℕ → ℕ → Part Stmt
simple_named depth room = record { read = simple_at room; spells = SimpleSpells depth; filled = fill_simple depth }

pub is_simple_rest : (depth room : ℕ) (t : Token) (name : List ℕ) → t.kind ≡ k.Name name → (x : Stmt) (ms : List Marked) → (simple_rest depth room t.span.at name).spells x ms
    → SimpleSpells depth x (mark depth t ∷ ms)
unfolding bind made_of sign_part
is_simple_rest depth room t name q _ _ (seq x _ a _ g (seq _ _ _ _ (signed c i) (made y d h))) = simple depth t c x y a d (is_named_place depth room t name q x a g) i h

is_simple : (depth room : ℕ) (x : Stmt) (ms : List Marked) → (simple_part depth room).spells x ms → SimpleSpells depth x ms
unfolding bind name_part
is_simple depth room _ _ (seq _ x _ a (named t name q) g) = is_simple_rest depth room t name q x a g

-- a place is its name and what is behind it
pub record PlaceSplit (depth room : ℕ) (x : Expr) (all : List Marked) : Type 0 where
  pub token : Token
  pub name : List ℕ
  pub kind : IsName name token
  pub rest : List Marked
  pub is : all ≡ mark depth token ∷ rest
  pub spells : (named_place depth room token.span.at name).spells x rest

split_place : (depth room : ℕ) (x : Expr) (all : List Marked) → (place_part depth room).spells x all → PlaceSplit depth room x all
unfolding bind name_part
split_place depth room _ _ (seq _ x _ c (named t name q) g) = record { token = t; name = name; kind = q; rest = c; is = refl; spells = g }

same_first : {x y : Marked} {xs ys : List Marked} → x ∷ xs ≡ y ∷ ys → x ≡ y
same_first h = cc

same_rest : {x y : Marked} {xs ys : List Marked} → x ∷ xs ≡ y ∷ ys → xs ≡ ys
same_rest h = cc

-- an assignment is its name and what is behind it
pub record SimpleSplit (depth room : ℕ) (x : Stmt) (ms : List Marked) : Type 0 where
  pub token : Token
  pub name : List ℕ
  pub kind : IsName name token
  pub rest : List Marked
  pub is : ms ≡ mark depth token ∷ rest
  pub spells : (simple_rest depth room token.span.at name).spells x rest

simple_split : (depth room : ℕ) (head c : Token) (x y : Expr) (ms ns : List Marked) → PlaceSplit depth room x (mark depth head ∷ ms) → IsMark m.Assign c → ExprSpells depth 1 y ns
    → SimpleSplit depth room (s.Assign head.span.at x y) (mark depth head ∷ (ms ++ mark depth c ∷ ns))
unfolding bind made_of sign_part
simple_split depth room head c x y ms ns p i h =
    let at : p.token.span.at ≡ head.span.at = ap (λ (m : Marked). m.token.span.at) (sym (same_first p.is)) in
    let all : mark depth head ∷ (ms ++ mark depth c ∷ ns) ≡ mark depth p.token ∷ (p.rest ++ mark depth c ∷ ns) = ap (λ (l : List Marked). l ++ mark depth c ∷ ns) p.is in
    record {
      token = p.token;
      name = p.name;
      kind = p.kind;
      rest = p.rest ++ mark depth c ∷ ns;
      is = all;
      spells = subst (λ (at : ℕ). (simple_rest depth room p.token.span.at p.name).spells (s.Assign at x y) (p.rest ++ mark depth c ∷ ns)) at
          (seq x (s.Assign p.token.span.at x y) p.rest (mark depth c ∷ ns) p.spells (seq c.span.at (s.Assign p.token.span.at x y) (mark depth c ∷ []) ns (signed c i) (made y ns h)));
    }

pub split_simple : (depth room : ℕ) (x : Stmt) (ms : List Marked) → SimpleSpells depth x ms → SimpleSplit depth room x ms
split_simple depth room _ _ (simple _ head c x y ms ns g i h) = simple_split depth room head c x y ms ns
    (split_place depth room x (mark depth head ∷ ms) (place_is depth room x (mark depth head ∷ ms) g)) i h

simple_is : (depth room : ℕ) (x : Stmt) (ms : List Marked) → SimpleSpells depth x ms → (simple_part depth room).spells x ms
unfolding bind name_part
simple_is depth room x ms g =
    let z = split_simple depth room x ms g in
    subst (λ (ms : List Marked). (simple_part depth room).spells x ms) (sym z.is) (seq (z.token.span.at, z.name) x (mark depth z.token ∷ []) z.rest (named z.token z.name z.kind) z.spells)

pub simple_opens : (depth : ℕ) (t : Token) (ts : List Token) → has_name (t ∷ ts) ≡ true → Opens Stmt (SimpleSpells depth) depth t
simple_opens depth t ts h =
    let n = named_next t ts h in
    let v = fill_up depth 10 1 refl in
    record {
      own = depth;
      deep = omega arith;
      value = s.Assign t.span.at (e.Name t.span.at n.name) v.value;
      others = [] ++ mark depth an_assign ∷ v.marks;
      spells = simple depth t an_assign (e.Name t.span.at n.name) v.value [] v.marks (variable depth t n.name n.kind) refl v.spells;
    }

pub simple_first : (depth : ℕ) (x : Stmt) (ms : List Marked) → SimpleSpells depth x ms → First depth has_name ms
simple_first depth x ms g =
    let z = split_simple depth 0 x ms g in
    record { own = depth; deep = omega arith; token = z.token; others = z.rest; is = z.is; begun = λ rest. rw z.kind refl }

simple_same : (depth room : ℕ) (a : List Token) → (name_at a >>= λ name. named_simple_at room name.0.0 name.0.1 name.1) ≡ (simple_part depth room).read a
unfolding bind made_of either ret sign_part name_part
simple_same depth room a = refl

pub simple_rest_law : (L depth room : ℕ) → depth + suc room ≡ suc L → (at : ℕ) (name : List ℕ) → Law L Stmt (simple_rest depth room at name) (Ends 1)
simple_rest_law L depth room now at name =
    law_bind (named_place_law L depth room now (whole_law L (suc depth) room (omega (arith, now))) at name)
    (λ x a r h. law_then (law_sign L depth (omega (arith, now)) (sign m.Assign)) (λ _. law_made (λ y. s.Assign at x y) (Ends 1) (whole_law L depth (suc room) now) (λ y rest h. h)))
    (λ x y c rest g h. omega (arith, ends_bound depth (sign m.Assign) refl (λ _. made_of (expr_named depth (suc room)) (λ y. s.Assign at x y)) y c rest g))

pub simple_law : (L depth room : ℕ) → depth + room ≡ suc L → Law L Stmt (simple_named depth room) (Ends 1)
simple_law L depth room now =
    law_within L depth room now has_name refl name_by (λ room ts. name_at ts >>= λ name. named_simple_at room name.0.0 name.0.1 name.1) (SimpleSpells depth) (fill_simple depth) (simple_opens depth)
    (simple_first depth)
    (λ inner q le. law_same (simple_part depth inner) (record {
      read = λ ts. name_at ts >>= λ name. named_simple_at inner name.0.0 name.0.1 name.1;
      spells = SimpleSpells depth;
      filled = fill_simple depth;
    }) (simple_same depth inner) (is_simple depth inner) (simple_is depth inner)
    (law_then (law_name L depth le) (λ n. simple_rest_law L depth inner (omega (arith, now, q)) n.0 n.1)))

-- ---- declarations

abbrev pub value_part : ℕ → ℕ → ℕ → List ℕ → Part Stmt
value_part depth room at name = bind (sign_part depth (sign m.Assign)) (λ _. bind (expr_named depth (suc room)) (λ x. made_of (sign_part depth (sign m.Semicolon)) (λ _. s.Int at name (Some x))))

abbrev pub size_part : ℕ → ℕ → ℕ → List ℕ → Part Stmt
size_part depth room at name = bind (sign_part depth (sign m.OpenBracket))
    (λ _. bind (deep_number (suc depth) room) (λ n. bind (sign_part (suc depth) (sign m.CloseBracket)) (λ _. made_of (sign_part depth (sign m.Semicolon)) (λ _. s.Array at name n.1))))

abbrev pub plain_part : ℕ → ℕ → List ℕ → Part Stmt
plain_part depth at name = made_of (sign_part depth (sign m.Semicolon)) (λ _. s.Int at name None)

abbrev pub size_or_plain : ℕ → ℕ → ℕ → List ℕ → Part Stmt
size_or_plain depth room at name = either (starts_with (sign m.OpenBracket)) (size_part depth room at name) (plain_part depth at name)

abbrev pub decl_part : ℕ → ℕ → Part Stmt
decl_part depth room = bind (sign_part depth (word w.Int)) (λ at. bind (name_part depth) (λ n. either (starts_with (sign m.Assign)) (value_part depth room at n.1) (size_or_plain depth room at n.1)))

pub fill_decl : (depth : ℕ) → Filled Stmt (DeclSpells depth)
fill_decl depth = record {
  value = s.Int 0 (120 ∷ []) None;
  marks = mark depth an_int ∷ mark depth an_x ∷ ([] ++ mark depth a_semicolon ∷ []);
  spells = int_decl depth an_int an_x a_semicolon (120 ∷ []) None [] refl refl (no_value depth) refl;
}

abbrev pub decl_named : ℕ → ℕ → Part Stmt
decl_named depth room = record { read = decl_at room; spells = DeclSpells depth; filled = fill_decl depth }

decl_same : (depth room : ℕ) (a : List Token) → whole_decl_at room a ≡ (decl_part depth room).read a
unfolding bind made_of either sign_part name_part
decl_same depth room a = refl

is_value : (depth room : ℕ) (t n : Token) (name : List ℕ) → IsWord w.Int t → IsName name n → (x : Stmt) (ms : List Marked) → (value_part depth room t.span.at name).spells x ms
    → DeclSpells depth x (mark depth t ∷ mark depth n ∷ ms)
unfolding bind sign_part
is_value depth room t n name q i _ _ (seq _ _ _ _ (signed c j) (seq x y a d g last)) =
    by_last (λ y d. DeclSpells depth y (mark depth t ∷ mark depth n ∷ mark depth c ∷ (a ++ d))) depth (sign m.Semicolon) (s.Int t.span.at name (Some x)) y d last
    (λ r z. int_decl depth t n r name (Some x) (mark depth c ∷ a) q i (some_value depth c x a j g) z)

is_size : (depth room : ℕ) (t n : Token) (name : List ℕ) → IsWord w.Int t → IsName name n → (x : Stmt) (ms : List Marked) → (size_part depth room t.span.at name).spells x ms
    → DeclSpells depth x (mark depth t ∷ mark depth n ∷ ms)
unfolding bind sign_part
is_size depth room t n name q i _ _ (seq _ _ _ _ (signed l j) (seq _ _ _ _ (numbered u size v) (seq _ y _ d (signed r z) last))) =
    by_last (λ y d. DeclSpells depth y (mark depth t ∷ mark depth n ∷ mark depth l ∷ mark (suc depth) u ∷ mark (suc depth) r ∷ d)) depth (sign m.Semicolon) (s.Array t.span.at name size) y d last
    (λ f g. array_decl depth t n l u r f name size q i j v z g)

is_plain : (depth : ℕ) (t n : Token) (name : List ℕ) → IsWord w.Int t → IsName name n → (x : Stmt) (ms : List Marked) → (plain_part depth t.span.at name).spells x ms
    → DeclSpells depth x (mark depth t ∷ mark depth n ∷ ms)
is_plain depth t n name q i x ms last =
    by_last (λ y d. DeclSpells depth y (mark depth t ∷ mark depth n ∷ d)) depth (sign m.Semicolon) (s.Int t.span.at name None) x ms last
    (λ r z. int_decl depth t n r name None [] q i (no_value depth) z)

is_decl : (depth room : ℕ) (x : Stmt) (ms : List Marked) → (decl_part depth room).spells x ms → DeclSpells depth x ms
unfolding bind either sign_part name_part
is_decl depth room _ _ (seq _ _ _ _ (signed t q) (seq _ x _ a (named n name i) g)) = decl_case depth room t n name q i x a g
  where
    size_case : (depth room : ℕ) (t n : Token) (name : List ℕ) → IsWord w.Int t → IsName name n → (x : Stmt) (a : List Marked)
        → Either_of Stmt (size_part depth room t.span.at name).spells (plain_part depth t.span.at name).spells x a → DeclSpells depth x (mark depth t ∷ mark depth n ∷ a)
    size_case depth room t n name q i _ _ (first x a g) = is_size depth room t n name q i x a g
    size_case depth room t n name q i _ _ (second x a g) = is_plain depth t n name q i x a g

    decl_case : (depth room : ℕ) (t n : Token) (name : List ℕ) → IsWord w.Int t → IsName name n → (x : Stmt) (a : List Marked)
        → Either_of Stmt (value_part depth room t.span.at name).spells (size_or_plain depth room t.span.at name).spells x a → DeclSpells depth x (mark depth t ∷ mark depth n ∷ a)
    decl_case depth room t n name q i _ _ (first x a g) = is_value depth room t n name q i x a g
    decl_case depth room t n name q i _ _ (second x a g) = size_case depth room t n name q i x a g

decl_is : (depth room : ℕ) (x : Stmt) (ms : List Marked) → DeclSpells depth x ms → (decl_part depth room).spells x ms
unfolding bind either sign_part name_part
decl_is depth room _ _ (int_decl _ t n r name None _ q i (no_value _) z) =
    seq t.span.at _ _ _ (signed t q) (seq (n.span.at, name) _ _ _ (named n name i) (second _ _ (second _ _ (last_is depth (sign m.Semicolon) (s.Int t.span.at name None) r z))))
decl_is depth room _ _ (int_decl _ t n r name (Some _) _ q i (some_value _ c x a j g) z) =
    seq t.span.at _ _ _ (signed t q) (seq (n.span.at, name) _ _ _ (named n name i)
    (first _ _ (seq c.span.at _ _ _ (signed c j) (seq x _ a _ g (last_is depth (sign m.Semicolon) (s.Int t.span.at name (Some x)) r z)))))
decl_is depth room _ _ (array_decl _ t n l u r f name size q i j v z g) =
    seq t.span.at _ _ _ (signed t q) (seq (n.span.at, name) _ _ _ (named n name i)
    (second _ _ (first _ _ (seq l.span.at _ _ _ (signed l j) (seq (u.span.at, size) _ _ _ (numbered u size v)
    (seq r.span.at _ _ _ (signed r z) (last_is depth (sign m.Semicolon) (s.Array t.span.at name size) f g)))))))

decl_opens : (depth : ℕ) (t : Token) (ts : List Token) → starts_with (word w.Int) (t ∷ ts) ≡ true → Opens Stmt (DeclSpells depth) depth t
decl_opens depth t ts h =
    record {
      own = depth;
      deep = omega arith;
      value = s.Int t.span.at (120 ∷ []) None;
      others = mark depth an_x ∷ ([] ++ mark depth a_semicolon ∷ []);
      spells = int_decl depth t an_x a_semicolon (120 ∷ []) None [] (is_case (word w.Int) t.kind h) refl (no_value depth) refl;
    }

pub decl_first : (depth : ℕ) (x : Stmt) (ms : List Marked) → DeclSpells depth x ms → First depth (starts_with (word w.Int)) ms
decl_first depth _ _ (int_decl _ t n r name value a q i v z) = record {
  own = depth;
  deep = omega arith;
  token = t;
  others = mark depth n ∷ (a ++ mark depth r ∷ []);
  is = refl;
  begun = λ rest. is_kind_of (word w.Int) t q;
}
decl_first depth _ _ (array_decl _ t n l u r f name size q i j v z g) =
    record {
      own = depth;
      deep = omega arith;
      token = t;
      others = mark depth n ∷ mark depth l ∷ mark (suc depth) u ∷ mark (suc depth) r ∷ mark depth f ∷ [];
      is = refl;
      begun = λ rest. is_kind_of (word w.Int) t q;
    }

size_not : (depth room at : ℕ) (name : List ℕ) (x : Stmt) (ms : List Marked) (rest : List Token) → (size_or_plain depth room at name).spells x ms
    → starts_with (sign m.Assign) (tokens ms ++ rest) ≡ false
unfolding either same_mark
size_not depth room at name _ _ rest (first x ms g) =
    no_bound (sign m.Assign) depth (sign m.OpenBracket) refl (λ _. bind (deep_number (suc depth) room)
    (λ n. bind (sign_part (suc depth) (sign m.CloseBracket)) (λ _. made_of (sign_part depth (sign m.Semicolon)) (λ _. s.Array at name n.1)))) x ms rest g
size_not depth room at name _ _ rest (second x ms g) = no_made (sign m.Assign) depth (sign m.Semicolon) refl (λ _. s.Int at name None) x ms rest g

module _ (L depth room : ℕ) (now : depth + suc room ≡ suc L) where
  value_law : (at : ℕ) (name : List ℕ) → Law L Stmt (value_part depth room at name) Any
  value_law at name = law_then (law_sign L depth (omega (arith, now)) (sign m.Assign))
      (λ _. law_expr_made L depth (suc room) now (whole_law L depth (suc room) now) depth (sign m.Semicolon) refl (λ x _. s.Int at name (Some x))
      (λ x le. law_made (λ _. s.Int at name (Some x)) Any (law_sign L depth le (sign m.Semicolon)) (λ x rest h. tt)))

  size_law : (at : ℕ) (name : List ℕ) → Law L Stmt (size_part depth room at name) Any
  size_law at name = law_then (law_sign L depth (omega (arith, now)) (sign m.OpenBracket))
      (λ _. law_bind (deep_number_law L (suc depth) room (omega (arith, now)))
      (λ n a r h. let lt : 0 < room = within_had has_number (λ room ts. number_at ts) room a (n, r) h in
      law_then (law_sign L (suc depth) (omega (arith, now, lt)) (sign m.CloseBracket))
      (λ _. law_made (λ _. s.Array at name n.1) Any (law_sign L depth (omega (arith, now)) (sign m.Semicolon)) (λ x rest h. tt)))
      (λ n y c rest g h. tt))

  plain_law : (at : ℕ) (name : List ℕ) → Law L Stmt (plain_part depth at name) Any
  plain_law at name = law_made (λ _. s.Int at name None) Any (law_sign L depth (omega (arith, now)) (sign m.Semicolon)) (λ x rest h. tt)

  size_or_plain_law : (at : ℕ) (name : List ℕ) → Law L Stmt (size_or_plain depth room at name) Any
  unfolding same_mark
  size_or_plain_law at name = law_either (starts_with (sign m.OpenBracket)) (starts_by (sign m.OpenBracket)) (size_law at name) (plain_law at name)
      (λ x ms rest g h. begins_bound depth (sign m.OpenBracket) (λ _. bind (deep_number (suc depth) room)
      (λ n. bind (sign_part (suc depth) (sign m.CloseBracket)) (λ _. made_of (sign_part depth (sign m.Semicolon)) (λ _. s.Array at name n.1)))) x ms rest g)
      (λ x ms rest g h. no_made (sign m.OpenBracket) depth (sign m.Semicolon) refl (λ _. s.Int at name None) x ms rest g)

  whole_decl_law : Law L Stmt (decl_part depth room) Any
  whole_decl_law = law_then (law_sign L depth (omega (arith, now)) (word w.Int)) (λ at. law_then (law_name L depth (omega (arith, now)))
      (λ n. law_either (starts_with (sign m.Assign)) (starts_by (sign m.Assign)) (value_law at n.1) (size_or_plain_law at n.1)
      (λ x ms rest g h. begins_bound depth (sign m.Assign) (λ _. bind (expr_named depth (suc room)) (λ x. made_of (sign_part depth (sign m.Semicolon)) (λ _. s.Int at n.1 (Some x)))) x ms rest g)
      (λ x ms rest g h. size_not depth room at n.1 x ms rest g)))

pub decl_law : (L depth room : ℕ) → depth + room ≡ suc L → Law L Stmt (decl_named depth room) Any
decl_law L depth room now = law_within L depth room now (starts_with (word w.Int)) refl (starts_by (word w.Int)) whole_decl_at (DeclSpells depth) (fill_decl depth) (decl_opens depth)
    (decl_first depth)
    (λ inner q le. law_same (decl_part depth inner) (record { read = whole_decl_at inner; spells = DeclSpells depth; filled = fill_decl depth }) (decl_same depth inner) (is_decl depth inner)
    (decl_is depth inner) (whole_decl_law L depth inner (omega (arith, now, q))))
