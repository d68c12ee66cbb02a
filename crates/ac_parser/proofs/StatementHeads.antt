-- What a statement begins with, by the cases of the grammar, and whether it ends in an `if` without an `else`, by the law of folds at each form.
-- Then what holds of each value that is read and the tokens behind it (`Leaves`), for each way to put parts together: StatementTurns shows by it
-- that a statement takes the `else` that comes next.
use Rattle.std.proofs.Common.{◌≡◌, ℕ, suc, Bool, true, false, List, [], ◌∷◌, ◌++◌, Option, Some, None, Ok, refl, sym, ap, ◌∙◌, subst, arith}
use Rattle.std.specs.Prelude.{if◌then◌else◌}
use Rattle.ac_tree.specs.declared.expr.Expr.{Expr}
use Rattle.ac_tree.specs.declared.stmt.Stmt.{Stmt, fold-roll-Stmt}
use Rattle.ac_tree.specs.declared.stmt.Stmt.TheVariants as s
use Rattle.ac_tree.specs.declared.stmt.Stmt.TheOpen.{Stmt-F}
use Rattle.ac_lexer.specs.declared.token.Kind.{Kind}
use Rattle.ac_lexer.specs.declared.token.Token.{Token}
use Rattle.ac_parser.specs.declared.forms.Opening.TheVariants as f
use Rattle.reading_laws.specs.Marks.{Marked, mark, tokens}
use Rattle.ac_expressions.specs.Spelling.{CallSpells, function_call, send, recv, read, write}
use Rattle.ac_parser.specs.SpellingOfStatements.{ends_step, ends_open, SimpleSpells, StmtSpells, block, empty, assign, call_stmt, print, if_alone, if_else, while, for, break, continue, return}
use Rattle.ac_parser.specs.SpellingOfStatements.{do_plain, do_labelled, async, cancel, yield, BlockSpells, braces}
use Rattle.reading_laws.specs.Readers.{Reads}
use Rattle.reading_laws.specs.Letters.{Sign, is_kind, starts_with}
use Rattle.reading_laws.specs.inner.Tokens.{kind_of}
use Rattle.ac_parser.specs.inner.ReadsStatements.{opening_kind, opening_of, is_opening, begins_stmt}
use Rattle.reading_laws.proofs.Halts.{bind_ok, result, same_result}
use Rattle.reading_laws.proofs.Heads.{ByHead, by_head}
use Rattle.reading_laws.proofs.Parts.{Part, First, bind, made_of, either}
use Rattle.reading_laws.proofs.Letters.{is_case}
use Rattle.ac_parser.proofs.DeclLaws.{split_simple}

-- ---- the ends of statements

pub block_ends : (at : ℕ) (xs : List Stmt) → ends_open (s.Block at xs) ≡ false
block_ends at xs = ap ends_open (sym (s.rolls-Block at xs)) ∙ fold-roll-Stmt Bool ends_step (Stmt-F.Block at xs)

pub empty_ends : (at : ℕ) → ends_open (s.Empty at) ≡ false
empty_ends at = ap ends_open (sym (s.rolls-Empty at)) ∙ fold-roll-Stmt Bool ends_step (Stmt-F.Empty at)

pub assign_ends : (at : ℕ) (x y : Expr) → ends_open (s.Assign at x y) ≡ false
assign_ends at x y = ap ends_open (sym (s.rolls-Assign at x y)) ∙ fold-roll-Stmt Bool ends_step (Stmt-F.Assign at x y)

pub call_ends : (at : ℕ) (x : Expr) → ends_open (s.Call at x) ≡ false
call_ends at x = ap ends_open (sym (s.rolls-Call at x)) ∙ fold-roll-Stmt Bool ends_step (Stmt-F.Call at x)

pub print_ends : (at : ℕ) (format : List ℕ) (xs : List Expr) → ends_open (s.Print at format xs) ≡ false
print_ends at format xs = ap ends_open (sym (s.rolls-Print at format xs)) ∙ fold-roll-Stmt Bool ends_step (Stmt-F.Print at format xs)

pub if_ends : (at : ℕ) (x : Expr) (y : Stmt) → ends_open (s.If at x y None) ≡ true
if_ends at x y = ap ends_open (sym (s.rolls-If at x y None)) ∙ fold-roll-Stmt Bool ends_step (Stmt-F.If at x y None)

pub else_ends : (at : ℕ) (x : Expr) (y z : Stmt) → ends_open (s.If at x y (Some z)) ≡ ends_open z
else_ends at x y z = ap ends_open (sym (s.rolls-If at x y (Some z))) ∙ fold-roll-Stmt Bool ends_step (Stmt-F.If at x y (Some z))

pub while_ends : (at : ℕ) (x : Expr) (y : Stmt) → ends_open (s.While at x y) ≡ ends_open y
while_ends at x y = ap ends_open (sym (s.rolls-While at x y)) ∙ fold-roll-Stmt Bool ends_step (Stmt-F.While at x y)

pub for_ends : (at : ℕ) (i : Option Stmt) (t : Option Expr) (n : Option Stmt) (y : Stmt) → ends_open (s.For at i t n y) ≡ ends_open y
for_ends at i t n y = ap ends_open (sym (s.rolls-For at i t n y)) ∙ fold-roll-Stmt Bool ends_step (Stmt-F.For at i t n y)

pub break_ends : (at : ℕ) → ends_open (s.Break at) ≡ false
break_ends at = ap ends_open (sym (s.rolls-Break at)) ∙ fold-roll-Stmt Bool ends_step (Stmt-F.Break at)

pub continue_ends : (at : ℕ) → ends_open (s.Continue at) ≡ false
continue_ends at = ap ends_open (sym (s.rolls-Continue at)) ∙ fold-roll-Stmt Bool ends_step (Stmt-F.Continue at)

pub return_ends : (at : ℕ) (x : Option Expr) → ends_open (s.Return at x) ≡ false
return_ends at x = ap ends_open (sym (s.rolls-Return at x)) ∙ fold-roll-Stmt Bool ends_step (Stmt-F.Return at x)

pub do_ends : (at : ℕ) (label : Option (List ℕ)) (xs : List Stmt) → ends_open (s.Do at label xs) ≡ false
do_ends at label xs = ap ends_open (sym (s.rolls-Do at label xs)) ∙ fold-roll-Stmt Bool ends_step (Stmt-F.Do at label xs)

pub async_ends : (at : ℕ) (y : Stmt) → ends_open (s.Async at y) ≡ ends_open y
async_ends at y = ap ends_open (sym (s.rolls-Async at y)) ∙ fold-roll-Stmt Bool ends_step (Stmt-F.Async at y)

pub cancel_ends : (at : ℕ) (label : List ℕ) → ends_open (s.Cancel at label) ≡ false
cancel_ends at label = ap ends_open (sym (s.rolls-Cancel at label)) ∙ fold-roll-Stmt Bool ends_step (Stmt-F.Cancel at label)

pub yield_ends : (at : ℕ) → ends_open (s.Yield at) ≡ false
yield_ends at = ap ends_open (sym (s.rolls-Yield at)) ∙ fold-roll-Stmt Bool ends_step (Stmt-F.Yield at)

-- ---- first tokens

pub record StmtHeaded (depth : ℕ) (ms : List Marked) : Type 0 where
  pub head : Token
  pub others : List Marked
  pub is : ms ≡ mark depth head ∷ others
  pub begins : is_opening (opening_kind head.kind) ≡ true

same_first : {x y : Marked} {xs ys : List Marked} → x ∷ xs ≡ y ∷ ys → x ≡ y
same_first h = cc

-- the first token of a call, a case for each form: it is the name or the word
call_token : (depth : ℕ) (x : Expr) (ms : List Marked) → CallSpells depth x ms → StmtHeaded depth ms
call_token _ _ _ (function_call depth t l r name xs a q i g j) = record { head = t; others = mark depth l ∷ (a ++ mark (suc depth) r ∷ []); is = refl; begins = rw q refl }
call_token _ _ _ (send depth t l n c r name x a q i v f g j) = record {
  head = t;
  others = mark depth l ∷ mark (suc depth) n ∷ mark (suc depth) c ∷ (a ++ mark (suc depth) r ∷ []);
  is = refl;
  begins = rw q refl;
}
call_token _ _ _ (recv depth t l n c u r name x a q i v f z g j) = record {
  head = t;
  others = mark depth l ∷ mark (suc depth) n ∷ mark (suc depth) c ∷ mark (suc depth) u ∷ (a ++ mark (suc depth) r ∷ []);
  is = refl;
  begins = rw q refl;
}
call_token _ _ _ (read depth t l n c s u h r name array from len a b q i v f g z y d x j) =
    record {
      head = t;
      others = mark depth l ∷ mark (suc depth) n ∷ mark (suc depth) c ∷ (a ++ mark (suc depth) s ∷ (b ++ mark (suc depth) u ∷ mark (suc depth) h ∷ mark (suc depth) r ∷ []));
      is = refl;
      begins = rw q refl;
    }
call_token _ _ _ (write depth t l n c s u h r name array from len a b q i v f g z y d x j) =
    record {
      head = t;
      others = mark depth l ∷ mark (suc depth) n ∷ mark (suc depth) c ∷ (a ++ mark (suc depth) s ∷ (b ++ mark (suc depth) u ∷ mark (suc depth) h ∷ mark (suc depth) r ∷ []));
      is = refl;
      begins = rw q refl;
    }

behind : (depth : ℕ) (a c : List Marked) → StmtHeaded depth a → StmtHeaded depth (a ++ c)
behind depth a c h = record { head = h.head; others = h.others ++ c; is = ap (λ (l : List Marked). l ++ c) h.is; begins = h.begins }

simple_head : (depth : ℕ) (x : Stmt) (ms : List Marked) → SimpleSpells depth x ms → StmtHeaded depth ms
simple_head depth x ms g = let z = split_simple depth 0 x ms g in record { head = z.token; others = z.rest; is = z.is; begins = rw z.kind refl }

block_head : (depth at : ℕ) (xs : List Stmt) (ms : List Marked) → BlockSpells depth at xs ms → StmtHeaded depth ms
block_head _ _ _ _ (braces depth l r xs a q g j) = record { head = l; others = a ++ mark depth r ∷ []; is = refl; begins = rw q refl }

-- a case for each form of statement: its own first token, or that of the part which it begins with
pub stmt_head : (depth : ℕ) (x : Stmt) (ms : List Marked) → StmtSpells depth x ms → StmtHeaded depth ms
stmt_head _ _ _ (block depth at xs ms g) = block_head depth at xs ms g
stmt_head _ _ _ (empty depth t q) = record { head = t; others = []; is = refl; begins = rw q refl }
stmt_head _ _ _ (assign depth x c ms g i) = behind depth ms (mark depth c ∷ []) (simple_head depth x ms g)
stmt_head _ _ _ (call_stmt depth head c x ms g i) = behind depth (mark depth head ∷ ms) (mark depth c ∷ []) (call_token depth x (mark depth head ∷ ms) g)
stmt_head _ _ _ (print depth t l u r c format xs ms q i v g j z) = record {
  head = t;
  others = mark depth l ∷ mark (suc depth) u ∷ (ms ++ mark (suc depth) r ∷ mark depth c ∷ []);
  is = refl;
  begins = rw q refl;
}
stmt_head _ _ _ (if_alone depth t l r x y ms ns q i g j h) = record { head = t; others = mark depth l ∷ (ms ++ mark (suc depth) r ∷ ns); is = refl; begins = rw q refl }
stmt_head _ _ _ (if_else depth t l r o x y z ms ns os q i g j h v f u) =
    record { head = t; others = mark depth l ∷ (ms ++ mark (suc depth) r ∷ (ns ++ mark depth o ∷ os)); is = refl; begins = rw q refl }
stmt_head _ _ _ (while depth t l r x y ms ns q i g j h) = record { head = t; others = mark depth l ∷ (ms ++ mark (suc depth) r ∷ ns); is = refl; begins = rw q refl }
stmt_head _ _ _ (for depth t l c d r init test next y is ms ns os q i g j h v u z f) =
    record { head = t; others = mark depth l ∷ (is ++ mark (suc depth) c ∷ (ms ++ mark (suc depth) d ∷ (ns ++ mark (suc depth) r ∷ os))); is = refl; begins = rw q refl }
stmt_head _ _ _ (break depth t c q i) = record { head = t; others = mark depth c ∷ []; is = refl; begins = rw q refl }
stmt_head _ _ _ (continue depth t c q i) = record { head = t; others = mark depth c ∷ []; is = refl; begins = rw q refl }
stmt_head _ _ _ (return depth t c value ms q g i) = record { head = t; others = ms ++ mark depth c ∷ []; is = refl; begins = rw q refl }
stmt_head _ _ _ (do_plain depth inner t f c xs ms q g i j) = record { head = t; others = ms ++ mark depth f ∷ mark depth c ∷ []; is = refl; begins = rw q refl }
stmt_head _ _ _ (do_labelled depth inner n c t f d label xs ms q i j g v z) =
    record { head = n; others = mark depth c ∷ mark depth t ∷ (ms ++ mark depth f ∷ mark depth d ∷ []); is = refl; begins = rw q refl }
stmt_head _ _ _ (async depth t y ms q g) = record { head = t; others = ms; is = refl; begins = rw q refl }
stmt_head _ _ _ (cancel depth t n c label q i j) = record { head = t; others = mark depth n ∷ mark depth c ∷ []; is = refl; begins = rw q refl }
stmt_head _ _ _ (yield depth t c q i) = record { head = t; others = mark depth c ∷ []; is = refl; begins = rw q refl }

pub stmt_first : (depth : ℕ) (x : Stmt) (ms : List Marked) → StmtSpells depth x ms → First depth begins_stmt ms
stmt_first depth x ms g = let h = stmt_head depth x ms g in record { own = depth; deep = omega arith; token = h.head; others = h.others; is = h.is; begun = λ rest. h.begins }

pub opening_by : ByHead opening_of
opening_by = by_head opening_of f.Other (λ t. opening_kind t.kind) refl (λ t ts. refl)

pub stmt_by_head : ByHead begins_stmt
stmt_by_head = by_head begins_stmt false (λ t. is_opening (opening_kind t.kind)) refl (λ t ts. refl)

-- a sign that begins no statement
kind_not : (v : Sign) → is_opening (opening_kind (kind_of v)) ≡ false → (kind : Kind) → is_opening (opening_kind kind) ≡ true → (b : Bool) → is_kind v kind ≡ b → b ≡ false
kind_not v n kind h true q = let z : kind ≡ kind_of v = is_case v kind q in let no : true ≡ false = sym h ∙ ap (λ (kind : Kind). is_opening (opening_kind kind)) z ∙ n in cc
kind_not v n kind h false q = refl

pub stmt_begins_not : (depth : ℕ) (v : Sign) → is_opening (opening_kind (kind_of v)) ≡ false → (x : Stmt) (ms : List Marked) (rest : List Token) → StmtSpells depth x ms
    → starts_with v (tokens ms ++ rest) ≡ false
stmt_begins_not depth v n x ms rest g =
    let h = stmt_head depth x ms g in
    ap (λ (ms : List Marked). starts_with v (tokens ms ++ rest)) h.is ∙ kind_not v n h.head.kind h.begins (is_kind v h.head.kind) refl

-- ---- an `if` takes the `else` that comes next

-- what holds of a value that is read and the tokens behind it
pub record Leaves (X : Type 0) (p : Part X) (G : X → List Token → Type 0) : Type 0 where
  pub leaves : (a : List Token) (x : X) (r : List Token) → p.read a ≡ Ok (x, r) → G x r

pub leaves_bind : {X Y : Type 0} {q : X → Part Y} {G : Y → List Token → Type 0} (p : Part X) → ((x : X) → Leaves Y (q x) G) → Leaves Y (bind p q) G
unfolding bind
leaves_bind {X} {Y} {q} {G} p l = record { leaves = λ a y r h. let z = bind_ok (p.read a) (λ z. (q z.0).read z.1) (y, r) h in (l z.0.0).leaves z.0.1 y r z.2 }

pub leaves_made : {X Y : Type 0} {p : Part X} {F : X → List Token → Type 0} (f : X → Y) (G : Y → List Token → Type 0) → Leaves X p F → ((x : X) (r : List Token) → F x r → G (f x) r)
    → Leaves Y (made_of p f) G
unfolding made_of
leaves_made {X} {Y} {p} {F} f G l c = record {
  leaves = λ a y r h.
      let z = bind_ok (p.read a) (λ z. Ok (f z.0, z.1)) (y, r) h in
      let q = same_result Y (f z.0.0) y z.0.1 r z.2 in
      subst (λ (y : Y). G y r) q.0 (subst (λ (r : List Token). G (f z.0.0) r) q.1 (c z.0.0 z.0.1 (l.leaves a z.0.0 z.0.1 z.1)));
}

pub leaves_any : {X : Type 0} (p : Part X) → Leaves X p (λ x r. Unit {0})
leaves_any p = record { leaves = λ a x r h. tt }

-- a value that does not depend on what was read last
pub leaves_last : {X Y : Type 0} (p : Part X) (f : X → Y) (G : Y → List Token → Type 0) → ((x : X) (r : List Token) → G (f x) r) → Leaves Y (made_of p f) G
leaves_last {X} {Y} p f G c = leaves_made f G (leaves_any p) (λ x r u. c x r)

pub leaves_either : {X : Type 0} {p q : Part X} {G : X → List Token → Type 0} (test : List Token → Bool) → Leaves X p G → Leaves X q G → Leaves X (either test p q) G
unfolding either
leaves_either {X} {p} {q} {G} test l m = record { leaves = λ a x r h. either_case X (p.read a) (q.read a) (test a) x r G (l.leaves a x r) (m.leaves a x r) h }
  where
    either_case : (X : Type 0) (f g : Reads X) (t : Bool) (x : X) (r : List Token) (G : X → List Token → Type 0) → (f ≡ Ok (x, r) → G x r) → (g ≡ Ok (x, r) → G x r)
        → (if t then f else g) ≡ result X (x, r) → G x r
    either_case X f g true x r G u v h = u h
    either_case X f g false x r G u v h = v h
