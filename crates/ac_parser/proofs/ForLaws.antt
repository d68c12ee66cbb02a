-- The laws of optional expressions and of what stands between the parentheses of a `for`: three parts that may be missing, and two semicolons.
-- The next token tells whether a part is there, since neither a semicolon nor `)` begins one. The hard case is the whole, which may be too deep:
-- it begins with its first part, or with the semicolon, whose depth is one less (`head_opens`, `init_first`).
use Rattle.std.proofs.Common.{◌≡◌, ℕ, suc, ◌+◌, Bool, true, false, List, [], ◌∷◌, ◌++◌, Option, Some, None, refl, ap, ◌∙◌, inl, inr, arith}
use Rattle.std.specs.Prelude.{◌||◌}
use Rattle.ac_tree.specs.declared.expr.Expr.{Expr}
use Rattle.ac_tree.specs.declared.stmt.Stmt.{Stmt}
use Rattle.ac_tree.specs.declared.stmt.Stmt.TheVariants as s
use Rattle.ac_lexer.specs.declared.token.Word.{Word}
use Rattle.ac_lexer.specs.declared.token.Word.TheVariants as w
use Rattle.ac_lexer.specs.declared.token.Mark.TheVariants as m
use Rattle.ac_lexer.specs.declared.token.Kind.{Kind}
use Rattle.ac_lexer.specs.declared.token.Kind.TheVariants as k
use Rattle.ac_lexer.specs.declared.token.Token.{Token}
use Rattle.ac_parser.specs.declared.forms.ForBegins.{ForBegins}
use Rattle.ac_parser.specs.declared.forms.ForBegins.TheVariants as b
use Rattle.ac_parser.specs.declared.statements.ForHead.{ForHead}
use Rattle.reading_laws.specs.Marks.{Marked, mark, tokens, IsWord, IsMark, IsName}
use Rattle.ac_expressions.specs.Spelling.{ExprSpells}
use Rattle.ac_parser.specs.SpellingOfStatements.{TestSpells, no_test, some_test, SimpleSpells, InitSpells, no_init, simple_init, int_init, NextSpells, no_next, simple_next}
use Rattle.reading_laws.specs.Letters.{word, sign, starts_with, has_name}
use Rattle.ac_expressions.specs.Reads.{begins_expr, expr_at}
use Rattle.ac_parser.specs.inner.ReadsStatements.{for_word, for_kind, for_begins, is_for_part, begins_head, test_at, whole_int_init_at, int_init_at, init_by, init_at, next_at, head_of, whole_head_at}
use Rattle.ac_parser.specs.inner.ReadsStatements.{head_at}
use Rattle.reading_laws.proofs.Heads.{ByHead, by_head}
use Rattle.reading_laws.proofs.Parts.{Filled, Part, Law, Opens, First, itself, ret, law_ret, seq, made, first, second, chosen, law_same, law_bind, law_then, law_made, law_either, law_select, bind}
use Rattle.reading_laws.proofs.Parts.{made_of, either, select}
use Rattle.reading_laws.proofs.Letters.{signed, sign_part, law_sign, starts_by, is_case, is_kind_of, named, name_part, law_name, name_by}
use Rattle.ac_expressions.proofs.ExpressionHeads.{Ends, begins_by}
use Rattle.ac_expressions.proofs.ChainLaws.{fill_up, expr_named}
use Rattle.reading_laws.proofs.Openings.{started, begins_bound, law_within, or_case}
use Rattle.ac_expressions.proofs.Openings.{starts_ends, expr_begins, starts_begins_not}
use Rattle.ac_expressions.proofs.CallLaws.{Closes}
use Rattle.ac_expressions.proofs.UnaryLaws.{whole_law}
use Rattle.ac_parser.proofs.DeclLaws.{Semi, an_int, an_x, an_assign, a_semicolon, simple_named, simple_law, simple_opens, simple_first}

-- ---- `[ expr ]`

abbrev pub test_part : ℕ → ℕ → Part (Option Expr)
test_part depth room = either begins_expr (made_of (expr_named depth room) (λ x. Some x)) (ret None)

abbrev pub test_named : ℕ → ℕ → Part (Option Expr)
test_named depth room = record { read = test_at (expr_at room); spells = TestSpells depth; filled = record { value = None; marks = []; spells = no_test depth } }

test_same : (depth room : ℕ) (a : List Token) → test_at (expr_at room) a ≡ (test_part depth room).read a
unfolding either made_of ret
test_same depth room a = refl

is_test : (depth room : ℕ) (x : Option Expr) (ms : List Marked) → (test_part depth room).spells x ms → TestSpells depth x ms
unfolding either made_of ret
is_test depth room _ _ (first _ _ (made x ms g)) = some_test depth x ms g
is_test depth room _ _ (second _ _ itself) = no_test depth

test_is : (depth room : ℕ) (x : Option Expr) (ms : List Marked) → TestSpells depth x ms → (test_part depth room).spells x ms
unfolding either made_of ret
test_is depth room _ _ (no_test _) = second None [] itself
test_is depth room _ _ (some_test _ x ms g) = first (Some x) ms (made x ms g)

test_holds : (depth room : ℕ) (x : Option Expr) (ms : List Marked) (rest : List Token) → (made_of (expr_named depth room) (λ x. Some x)).spells x ms → begins_expr (tokens ms ++ rest) ≡ true
unfolding made_of
test_holds depth room _ _ rest (made x ms g) = expr_begins depth 1 x ms rest g

test_fails : (x : Option Expr) (ms : List Marked) (rest : List Token) → (ret {X = Option Expr} None).spells x ms → starts_with (sign m.Semicolon) rest ≡ true → begins_expr (tokens ms ++ rest) ≡ false
unfolding ret
test_fails _ _ rest itself h = starts_begins_not (sign m.Semicolon) refl rest h

pub test_law : (L depth room : ℕ) → depth + room ≡ suc L → Law L (Option Expr) (test_named depth room) Semi
test_law L depth room now = law_same (test_part depth room) (test_named depth room) (test_same depth room) (is_test depth room) (test_is depth room)
    (law_either begins_expr begins_by (law_made (λ x. Some x) Semi (whole_law L depth room now) (λ x rest h. starts_ends (sign m.Semicolon) refl rest h)) (law_ret None Semi)
    (λ x ms rest g h. test_holds depth room x ms rest g) (λ x ms rest g h. test_fails x ms rest g h))

-- ---- the third part

abbrev pub next_part : ℕ → ℕ → Part (Option Stmt)
next_part depth room = either has_name (made_of (simple_named depth room) (λ x. Some x)) (ret None)

abbrev pub next_named : ℕ → ℕ → Part (Option Stmt)
next_named depth room = record { read = next_at room; spells = NextSpells depth; filled = record { value = None; marks = []; spells = no_next depth } }

next_same : (depth room : ℕ) (a : List Token) → next_at room a ≡ (next_part depth room).read a
unfolding either made_of ret
next_same depth room a = refl

is_next : (depth room : ℕ) (x : Option Stmt) (ms : List Marked) → (next_part depth room).spells x ms → NextSpells depth x ms
unfolding either made_of ret
is_next depth room _ _ (first _ _ (made x ms g)) = simple_next depth x ms g
is_next depth room _ _ (second _ _ itself) = no_next depth

next_is : (depth room : ℕ) (x : Option Stmt) (ms : List Marked) → NextSpells depth x ms → (next_part depth room).spells x ms
unfolding either made_of ret
next_is depth room _ _ (no_next _) = second None [] itself
next_is depth room _ _ (simple_next _ x ms g) = first (Some x) ms (made x ms g)

simple_begins : (depth : ℕ) (x : Stmt) (ms : List Marked) (rest : List Token) → SimpleSpells depth x ms → has_name (tokens ms ++ rest) ≡ true
simple_begins depth x ms rest g = let f = simple_first depth x ms g in ap (λ (ms : List Marked). has_name (tokens ms ++ rest)) f.is ∙ f.begun (tokens f.others ++ rest)

next_holds : (depth room : ℕ) (x : Option Stmt) (ms : List Marked) (rest : List Token) → (made_of (simple_named depth room) (λ x. Some x)).spells x ms → has_name (tokens ms ++ rest) ≡ true
unfolding made_of
next_holds depth room _ _ rest (made x ms g) = simple_begins depth x ms rest g

next_fails : (x : Option Stmt) (ms : List Marked) (rest : List Token) → (ret {X = Option Stmt} None).spells x ms → starts_with (sign m.CloseParen) rest ≡ true → has_name (tokens ms ++ rest) ≡ false
unfolding ret
next_fails _ _ rest itself h = let z = started (sign m.CloseParen) rest h in ap has_name z.is ∙ (rw z.kind refl)

pub next_law : (L depth room : ℕ) → depth + room ≡ suc L → Law L (Option Stmt) (next_named depth room) Closes
next_law L depth room now = law_same (next_part depth room) (next_named depth room) (next_same depth room) (is_next depth room) (next_is depth room)
    (law_either has_name name_by (law_made (λ x. Some x) Closes (simple_law L depth room now) (λ x rest h. starts_ends (sign m.CloseParen) refl rest h)) (law_ret None Closes)
    (λ x ms rest g h. next_holds depth room x ms rest g) (λ x ms rest g h. next_fails x ms rest g h))

-- ---- the first part

-- `int NAME = expr`
pub data IntSpells (depth : ℕ) : Stmt → List Marked → Type 0 where
  counting : (head named equals : Token) (name : List ℕ) (x : Expr) (ms : List Marked) → IsWord w.Int head → IsName name named → IsMark m.Assign equals → ExprSpells depth 1 x ms
      → IntSpells depth (s.Int head.span.at name (Some x)) (mark depth head ∷ mark depth named ∷ mark depth equals ∷ ms)

abbrev pub int_part : ℕ → ℕ → Part Stmt
int_part depth room = bind (sign_part depth (word w.Int)) (λ at. bind (name_part depth)
    (λ n. bind (sign_part depth (sign m.Assign)) (λ _. made_of (expr_named depth (suc room)) (λ x. s.Int at n.1 (Some x)))))

pub fill_int : (depth : ℕ) → Filled Stmt (IntSpells depth)
fill_int depth = let v = fill_up depth 10 1 refl in record {
  value = s.Int 0 (120 ∷ []) (Some v.value);
  marks = mark depth an_int ∷ mark depth an_x ∷ mark depth an_assign ∷ v.marks;
  spells = counting an_int an_x an_assign (120 ∷ []) v.value v.marks refl refl refl v.spells;
}

abbrev pub int_named : ℕ → ℕ → Part Stmt
int_named depth room = record { read = int_init_at room; spells = IntSpells depth; filled = fill_int depth }

int_same : (depth room : ℕ) (a : List Token) → whole_int_init_at room a ≡ (int_part depth room).read a
unfolding bind made_of sign_part name_part
int_same depth room a = refl

is_int : (depth room : ℕ) (x : Stmt) (ms : List Marked) → (int_part depth room).spells x ms → IntSpells depth x ms
unfolding bind made_of sign_part name_part
is_int depth room _ _ (seq _ _ _ _ (signed t q) (seq _ _ _ _ (named n name i) (seq _ _ _ _ (signed c j) (made x a g)))) = counting t n c name x a q i j g

int_is : (depth room : ℕ) (x : Stmt) (ms : List Marked) → IntSpells depth x ms → (int_part depth room).spells x ms
unfolding bind made_of sign_part name_part
int_is depth room _ _ (counting t n c name x a q i j g) = seq t.span.at _ _ _ (signed t q) (seq (n.span.at, name) _ _ _ (named n name i) (seq c.span.at _ _ _ (signed c j) (made x a g)))

int_opens : (depth : ℕ) (t : Token) (ts : List Token) → starts_with (word w.Int) (t ∷ ts) ≡ true → Opens Stmt (IntSpells depth) depth t
int_opens depth t ts h =
    let v = fill_up depth 10 1 refl in
    record {
      own = depth;
      deep = omega arith;
      value = s.Int t.span.at (120 ∷ []) (Some v.value);
      others = mark depth an_x ∷ mark depth an_assign ∷ v.marks;
      spells = counting t an_x an_assign (120 ∷ []) v.value v.marks (is_case (word w.Int) t.kind h) refl refl v.spells;
    }

int_first : (depth : ℕ) (x : Stmt) (ms : List Marked) → IntSpells depth x ms → First depth (starts_with (word w.Int)) ms
int_first depth _ _ (counting t n c name x a q i j g) = record {
  own = depth;
  deep = omega arith;
  token = t;
  others = mark depth n ∷ mark depth c ∷ a;
  is = refl;
  begun = λ rest. is_kind_of (word w.Int) t q;
}

int_law : (L depth room : ℕ) → depth + room ≡ suc L → Law L Stmt (int_named depth room) (Ends 1)
int_law L depth room now = law_within L depth room now (starts_with (word w.Int)) refl (starts_by (word w.Int)) whole_int_init_at (IntSpells depth) (fill_int depth) (int_opens depth) (int_first depth)
    (λ inner q le. law_same (int_part depth inner) (record { read = whole_int_init_at inner; spells = IntSpells depth; filled = fill_int depth }) (int_same depth inner) (is_int depth inner)
    (int_is depth inner)
    (law_then (law_sign L depth le (word w.Int)) (λ at. law_then (law_name L depth le) (λ n. law_then (law_sign L depth le (sign m.Assign))
    (λ _. law_made (λ x. s.Int at n.1 (Some x)) (Ends 1) (whole_law L depth (suc inner) (omega (arith, now, q))) (λ x rest h. h))))))

abbrev pub begin_part : ℕ → ℕ → ForBegins → Part (Option Stmt)
begin_part depth room b.Int = made_of (int_named depth room) (λ x. Some x)
begin_part depth room b.Name = made_of (simple_named depth room) (λ x. Some x)
begin_part depth room b.Other = ret None

abbrev each : ForBegins → Bool
each form = true

abbrev pub init_part : ℕ → ℕ → Part (Option Stmt)
init_part depth room = select for_begins each (begin_part depth room) b.Other refl

abbrev pub init_named : ℕ → ℕ → Part (Option Stmt)
init_named depth room = record { read = init_at room; spells = InitSpells depth; filled = record { value = None; marks = []; spells = no_init depth } }

begin_same : (depth room : ℕ) (form : ForBegins) (a : List Token) → init_by room form a ≡ (begin_part depth room form).read a
unfolding made_of ret
begin_same depth room b.Int a = refl
begin_same depth room b.Name a = refl
begin_same depth room b.Other a = refl

init_same : (depth room : ℕ) (a : List Token) → init_at room a ≡ (init_part depth room).read a
unfolding select
init_same depth room a = begin_same depth room (for_begins a) a

is_begin : (depth room : ℕ) (form : ForBegins) (x : Option Stmt) (ms : List Marked) → (begin_part depth room form).spells x ms → InitSpells depth x ms
unfolding made_of ret
is_begin depth room b.Int _ _ (made _ _ (counting t n c name x a q i j g)) = int_init depth t n c name x a q i j g
is_begin depth room b.Name _ _ (made x ms g) = simple_init depth x ms g
is_begin depth room b.Other _ _ itself = no_init depth

is_init : (depth room : ℕ) (x : Option Stmt) (ms : List Marked) → (init_part depth room).spells x ms → InitSpells depth x ms
unfolding select
is_init depth room _ _ (chosen form x ms q g) = is_begin depth room form x ms g

init_is : (depth room : ℕ) (x : Option Stmt) (ms : List Marked) → InitSpells depth x ms → (init_part depth room).spells x ms
unfolding select made_of ret
init_is depth room _ _ (no_init _) = chosen b.Other None [] refl itself
init_is depth room _ _ (simple_init _ x ms g) = chosen b.Name (Some x) ms refl (made x ms g)
init_is depth room _ _ (int_init _ t n c name x a q i j g) = chosen b.Int _ _ refl
    (made (s.Int t.span.at name (Some x)) (mark depth t ∷ mark depth n ∷ mark depth c ∷ a) (counting t n c name x a q i j g))

name_form : (kind : Kind) → (t : Token) → t.kind ≡ kind → (ts : List Token) → has_name (t ∷ ts) ≡ true → for_kind kind ≡ b.Name
name_form (k.Name name) t q ts h = refl
name_form (k.Number n) t q ts h = let no : false ≡ true = rw q at h in cc
name_form (k.Text n) t q ts h = let no : false ≡ true = rw q at h in cc
name_form (k.Word n) t q ts h = let no : false ≡ true = rw q at h in cc
name_form (k.Mark n) t q ts h = let no : false ≡ true = rw q at h in cc

named_form : (rest : List Token) → has_name rest ≡ true → for_begins rest ≡ b.Name
named_form [] h = cc
named_form (t ∷ ts) h = name_form t.kind t refl ts h

semi_form : (rest : List Token) → starts_with (sign m.Semicolon) rest ≡ true → for_begins rest ≡ b.Other
semi_form rest h = let z = started (sign m.Semicolon) rest h in ap for_begins z.is ∙ ap for_kind z.kind

begin_form : (depth room : ℕ) (form : ForBegins) (x : Option Stmt) (ms : List Marked) (rest : List Token) → (begin_part depth room form).spells x ms → starts_with (sign m.Semicolon) rest ≡ true
    → for_begins (tokens ms ++ rest) ≡ form
unfolding made_of ret
begin_form depth room b.Int _ _ rest (made _ _ (counting t n c name x a q i j g)) h = rw q refl
begin_form depth room b.Name _ _ rest (made x ms g) h = named_form (tokens ms ++ rest) (simple_begins depth x ms rest g)
begin_form depth room b.Other _ _ rest itself h = semi_form rest h

pub for_by : ByHead for_begins
for_by = by_head for_begins b.Other (λ t. for_kind t.kind) refl (λ t ts. refl)

begin_law : (L depth room : ℕ) → depth + room ≡ suc L → (form : ForBegins) → Law L (Option Stmt) (begin_part depth room form) Semi
begin_law L depth room now b.Int = law_made (λ x. Some x) Semi (int_law L depth room now) (λ x rest h. starts_ends (sign m.Semicolon) refl rest h)
begin_law L depth room now b.Name = law_made (λ x. Some x) Semi (simple_law L depth room now) (λ x rest h. starts_ends (sign m.Semicolon) refl rest h)
begin_law L depth room now b.Other = law_ret None Semi

pub init_law : (L depth room : ℕ) → depth + room ≡ suc L → Law L (Option Stmt) (init_named depth room) Semi
init_law L depth room now = law_same (init_part depth room) (init_named depth room) (init_same depth room) (is_init depth room) (init_is depth room)
    (law_select for_begins each (begin_part depth room) b.Other refl for_by (λ form q. begin_law L depth room now form) (λ form x ms rest q g h. begin_form depth room form x ms rest g h))

-- ---- between the parentheses; the depth is that of the semicolons, and the room that of what is one deeper

pub data HeadSpells (depth : ℕ) : ForHead → List Marked → Type 0 where
  heads : (first second : Token) (init : Option Stmt) (test : Option Expr) (next : Option Stmt) (is ms ns : List Marked) → InitSpells (suc depth) init is → IsMark m.Semicolon first
      → TestSpells depth test ms → IsMark m.Semicolon second → NextSpells (suc depth) next ns
      → HeadSpells depth (head_of init test next) (is ++ mark depth first ∷ (ms ++ mark depth second ∷ ns))

abbrev pub head_part : ℕ → ℕ → Part ForHead
head_part depth room = bind (init_named (suc depth) room) (λ i. bind (sign_part depth (sign m.Semicolon))
    (λ _. bind (test_named depth (suc room)) (λ t. bind (sign_part depth (sign m.Semicolon)) (λ _. made_of (next_named (suc depth) room) (λ n. head_of i t n)))))

pub fill_head : (depth : ℕ) → Filled ForHead (HeadSpells depth)
fill_head depth = record {
  value = head_of None None None;
  marks = [] ++ mark depth a_semicolon ∷ ([] ++ mark depth a_semicolon ∷ []);
  spells = heads a_semicolon a_semicolon None None None [] [] [] (no_init (suc depth)) refl (no_test depth) refl (no_next (suc depth));
}

abbrev pub head_named : ℕ → ℕ → Part ForHead
head_named depth room = record { read = head_at room; spells = HeadSpells depth; filled = fill_head depth }

head_same : (depth room : ℕ) (a : List Token) → whole_head_at room a ≡ (head_part depth room).read a
unfolding bind made_of sign_part
head_same depth room a = refl

is_head : (depth room : ℕ) (x : ForHead) (ms : List Marked) → (head_part depth room).spells x ms → HeadSpells depth x ms
unfolding bind made_of sign_part
is_head depth room _ _ (seq i _ a _ g (seq _ _ _ _ (signed c q) (seq t _ d _ h (seq _ _ _ _ (signed f r) (made n z j))))) = heads c f i t n a d z g q h r j

head_is : (depth room : ℕ) (x : ForHead) (ms : List Marked) → HeadSpells depth x ms → (head_part depth room).spells x ms
unfolding bind made_of sign_part
head_is depth room _ _ (heads c f i t n a d z g q h r j) = seq i _ a _ g (seq c.span.at _ _ _ (signed c q) (seq t _ d _ h (seq f.span.at _ _ _ (signed f r) (made n z j))))

semi_head : (depth : ℕ) (t : Token) → t.kind ≡ k.Mark m.Semicolon → Opens ForHead (HeadSpells depth) depth t
semi_head depth t q = record {
  own = depth;
  deep = omega arith;
  value = head_of None None None;
  others = [] ++ mark depth a_semicolon ∷ [];
  spells = heads t a_semicolon None None None [] [] [] (no_init (suc depth)) q (no_test depth) refl (no_next (suc depth));
}

part_head : (depth : ℕ) (t : Token) → Opens (Option Stmt) (InitSpells (suc depth)) (suc depth) t → Opens ForHead (HeadSpells depth) depth t
part_head depth t o = record {
  own = o.own;
  deep = omega (arith, o.deep);
  value = head_of o.value None None;
  others = o.others ++ mark depth a_semicolon ∷ ([] ++ mark depth a_semicolon ∷ []);
  spells = heads a_semicolon a_semicolon o.value None None (mark o.own t ∷ o.others) [] [] o.spells refl (no_test depth) refl (no_next (suc depth));
}

int_kind : (depth : ℕ) (t : Token) (a : Word) → IsWord a t → is_for_part (for_word a) ≡ true → Opens (Option Stmt) (InitSpells depth) depth t
int_kind depth t w.Int q h =
    let v = fill_up depth 10 1 refl in
    record {
      own = depth;
      deep = omega arith;
      value = Some (s.Int t.span.at (120 ∷ []) (Some v.value));
      others = mark depth an_x ∷ mark depth an_assign ∷ v.marks;
      spells = int_init depth t an_x an_assign (120 ∷ []) v.value v.marks q refl refl v.spells;
    }
int_kind depth t a q h = cc

named_init : (depth : ℕ) (t : Token) → Opens Stmt (SimpleSpells depth) depth t → Opens (Option Stmt) (InitSpells depth) depth t
named_init depth t o = record { own = o.own; deep = o.deep; value = Some o.value; others = o.others; spells = simple_init depth o.value (mark o.own t ∷ o.others) o.spells }

init_kind : (depth : ℕ) (t : Token) (kind : Kind) → t.kind ≡ kind → is_for_part (for_kind kind) ≡ true → Opens (Option Stmt) (InitSpells depth) depth t
init_kind depth t (k.Name name) q h = named_init depth t (simple_opens depth t [] (rw q refl))
init_kind depth t (k.Word a) q h = int_kind depth t a q h
init_kind depth t (k.Number n) q h = cc
init_kind depth t (k.Text n) q h = cc
init_kind depth t (k.Mark n) q h = cc

head_opens : (depth : ℕ) (t : Token) (ts : List Token) → begins_head (t ∷ ts) ≡ true → Opens ForHead (HeadSpells depth) depth t
head_opens depth t ts h = elim (or_case (starts_with (sign m.Semicolon) (t ∷ ts)) (is_for_part (for_begins (t ∷ ts))) h) [
  | inl i ↦ semi_head depth t (is_case (sign m.Semicolon) t.kind i)
  | inr i ↦ part_head depth t (init_kind (suc depth) t t.kind refl i)
]

or_left : (p q : Bool) → p ≡ true → (p || q) ≡ true
or_left true q h = refl
or_left false q h = cc

or_right : (p q : Bool) → q ≡ true → (p || q) ≡ true
or_right true q h = refl
or_right false q h = h

-- where the first part is missing, the first token is the semicolon; else it is that of the part
init_first : (depth : ℕ) (x : Option Stmt) (a : List Marked) → InitSpells (suc depth) x a → (c : Token) (ms : List Marked) → c.kind ≡ k.Mark m.Semicolon
    → First depth begins_head (a ++ mark depth c ∷ ms)
init_first depth _ _ (no_init _) c ms q = record {
  own = depth;
  deep = omega arith;
  token = c;
  others = ms;
  is = refl;
  begun = λ rest. or_left (starts_with (sign m.Semicolon) (c ∷ rest)) (is_for_part (for_begins (c ∷ rest))) (is_kind_of (sign m.Semicolon) c q);
}
init_first depth _ _ (simple_init _ x a g) c ms q =
    let f = simple_first (suc depth) x a g in
    record {
      own = f.own;
      deep = omega (arith, f.deep);
      token = f.token;
      others = f.others ++ mark depth c ∷ ms;
      is = ap (λ (a : List Marked). a ++ mark depth c ∷ ms) f.is;
      begun = λ rest. or_right (starts_with (sign m.Semicolon) (f.token ∷ rest)) (is_for_part (for_begins (f.token ∷ rest))) (ap is_for_part (named_form (f.token ∷ rest) (f.begun rest)));
    }
init_first depth _ _ (int_init _ t n e name x a q i j g) c ms z =
    record {
      own = suc depth;
      deep = omega arith;
      token = t;
      others = mark (suc depth) n ∷ mark (suc depth) e ∷ (a ++ mark depth c ∷ ms);
      is = refl;
      begun = λ rest. or_right (starts_with (sign m.Semicolon) (t ∷ rest)) (is_for_part (for_begins (t ∷ rest))) (ap (λ (kind : Kind). is_for_part (for_kind kind)) q);
    }

head_first : (depth : ℕ) (x : ForHead) (ms : List Marked) → HeadSpells depth x ms → First depth begins_head ms
head_first depth _ _ (heads c f i t n a d z g q h r j) = init_first depth i a g c (d ++ mark depth f ∷ z) q

head_by : ByHead begins_head
head_by = by_head begins_head false (λ t. starts_with (sign m.Semicolon) (t ∷ []) || is_for_part (for_begins (t ∷ []))) refl (λ t ts. refl)

pub head_law : (L depth room : ℕ) → depth + room ≡ suc L → Law L ForHead (head_named depth room) Closes
head_law L depth room now = law_within L depth room now begins_head refl head_by whole_head_at (HeadSpells depth) (fill_head depth) (head_opens depth) (head_first depth)
    (λ inner q le. law_same (head_part depth inner) (record { read = whole_head_at inner; spells = HeadSpells depth; filled = fill_head depth }) (head_same depth inner) (is_head depth inner)
    (head_is depth inner)
    (law_bind (init_law L (suc depth) inner (omega (arith, now, q)))
    (λ i a r h. law_then (law_sign L depth le (sign m.Semicolon)) (λ _. law_bind (test_law L depth (suc inner) (omega (arith, now, q)))
    (λ t a r h. law_then (law_sign L depth le (sign m.Semicolon)) (λ _. law_made (λ n. head_of i t n) Closes (next_law L (suc depth) inner (omega (arith, now, q))) (λ n rest h. h)))
    (λ t y c rest g h. begins_bound depth (sign m.Semicolon) (λ _. made_of (next_named (suc depth) inner) (λ n. head_of i t n)) y c rest g)))
    (λ i y c rest g h. begins_bound depth (sign m.Semicolon) (λ _. bind (test_named depth (suc inner))
    (λ t. bind (sign_part depth (sign m.Semicolon)) (λ _. made_of (next_named (suc depth) inner) (λ n. head_of i t n)))) y c rest g)))
