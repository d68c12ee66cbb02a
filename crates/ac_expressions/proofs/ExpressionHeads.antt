-- What an expression begins with, and what does not go on one. What goes on it is a number, `binding`: the level of the operator that comes
-- next, more for a bracket or a parenthesis, 0 for the rest; so "nothing goes on an expression of this level" is one comparison (`Ends`).
-- The first token of a spelling, its place and its form are found by induction on the spelling (`expr_head`).
use Rattle.std.proofs.Common.{◌≡◌, ℕ, ℤ, suc, ◌+◌, ◌<◌, ◌≤◌, Bool, true, false, List, [], ◌∷◌, ◌++◌, Option, Some, None, refl, sym, ap, ◌∙◌, arith}
use Rattle.std.specs.Prelude.{◌==◌}
use Rattle.std.proofs.lemmas.Bool.Decides.{nat_tests}
use Rattle.ac_tree.specs.declared.expr.Expr.{Expr, fold-roll-Expr}
use Rattle.ac_tree.specs.declared.expr.Expr.TheVariants as e
use Rattle.ac_tree.specs.declared.expr.Expr.TheOpen.{Expr-F}
use Rattle.ac_tree.specs.declared.expr.Link.{Link}
use Rattle.ac_tree.specs.declared.expr.Constant.{Constant}
use Rattle.ac_tree.specs.declared.expr.UnaryOp.{UnaryOp}
use Rattle.ac_tree.specs.declared.expr.BinaryOp.{BinaryOp}
use Rattle.ac_lexer.specs.declared.token.Word.{Word}
use Rattle.ac_lexer.specs.declared.token.Word.TheVariants as w
use Rattle.ac_lexer.specs.declared.token.Mark.{Mark}
use Rattle.ac_lexer.specs.declared.token.Mark.TheVariants as m
use Rattle.ac_lexer.specs.declared.token.Kind.{Kind}
use Rattle.ac_lexer.specs.declared.token.Kind.TheVariants as k
use Rattle.ac_lexer.specs.declared.token.Token.{Token}
use Rattle.ac_expressions.specs.declared.forms.Primary.{Primary}
use Rattle.ac_expressions.specs.declared.forms.Primary.TheVariants as p
use Rattle.reading_laws.specs.Marks.{Marked, mark, IsMark}
use Rattle.ac_expressions.specs.Spelling.{operator_of, unary_of, constant_of, ExprSpells, number, constant, place, call, group, unary, alone, chain, PlaceSpells, variable, element, CallSpells}
use Rattle.ac_expressions.specs.Spelling.{function_call, send, recv, read, write}
use Rattle.reading_laws.specs.Letters.{Sign, is_kind, starts_with}
use Rattle.reading_laws.specs.inner.Tokens.{kind_of}
use Rattle.ac_expressions.specs.Operators.{at_level, operator_kind, has_operator}
use Rattle.reading_laws.specs.Readers.{is_there}
use Rattle.ac_expressions.specs.Reads.{primary_word, primary_mark, primary_kind, primary_of, is_primary, begins_expr, place_step, place_of}
use Rattle.reading_laws.proofs.Heads.{ByHead, by_head}

-- ---- what goes on an expression: an operator binds as tight as its level, and parentheses and brackets tighter still

abbrev pub paren_binding : Mark → ℕ
paren_binding m.OpenParen = 12
paren_binding m.OpenBracket = 12
paren_binding _ = 0

abbrev pub binding_or : ℕ → Option (ℕ × BinaryOp) → ℕ
binding_or other None = other
binding_or other (Some found) = found.0

abbrev pub binding_kind : Kind → ℕ
binding_kind (k.Mark a) = binding_or (paren_binding a) (operator_of a)
binding_kind _ = 0

abbrev pub binding : List Token → ℕ
binding [] = 0
binding (t ∷ ts) = binding_kind t.kind

-- nothing follows that goes on an expression of that level
abbrev pub Ends : {X : Type 0} → ℕ → X → List Token → Type 0
Ends level x rest = binding rest < level

unequal : (a b : ℕ) → a < b → (a == b) ≡ false
unequal a b lt = grind (arith, nat_tests)

no_level : (level other : ℕ) (o : Option (ℕ × BinaryOp)) → binding_or other o < level → is_there (at_level level o) ≡ false
no_level level other None h = refl
no_level level other (Some found) h = rw (unequal found.0 level h) refl

kind_over : (level : ℕ) (kind : Kind) → binding_kind kind < level → is_there (operator_kind level kind) ≡ false
kind_over level (k.Mark a) h = no_level level (paren_binding a) (operator_of a) h
kind_over level (k.Word a) h = refl
kind_over level (k.Name a) h = refl
kind_over level (k.Number a) h = refl
kind_over level (k.Text a) h = refl

pub operators_over : (level : ℕ) (rest : List Token) → binding rest < level → has_operator level rest ≡ false
operators_over level [] h = refl
operators_over level (t ∷ ts) h = kind_over level t.kind h

pub operator_binding : (level : ℕ) (t : Token) (a : Mark) (op : BinaryOp) → IsMark a t → operator_of a ≡ Some (level, op) → binding_kind t.kind ≡ level
operator_binding level t a op q o = rw (q, o) refl

-- neither a parenthesis nor a bracket follows
mark_opens : (w : Sign) (n : ℕ) → binding_kind (kind_of w) ≡ n → (kind : Kind) → (is_kind w kind ≡ true → kind ≡ kind_of w) → binding_kind kind < n → (b : Bool) → is_kind w kind ≡ b → b ≡ false
mark_opens w n q kind is h true i = let z : kind ≡ kind_of w = is i in absurd (omega (arith, ap binding_kind z, q, h))
mark_opens w n q kind is h false i = refl

pub no_start : (w : Sign) (n : ℕ) → binding_kind (kind_of w) ≡ n → ((kind : Kind) → is_kind w kind ≡ true → kind ≡ kind_of w) → (rest : List Token) → binding rest < n → starts_with w rest ≡ false
no_start w n q is [] h = refl
no_start w n q is (t ∷ ts) h = mark_opens w n q t.kind (is t.kind) h (is_kind w t.kind) refl

-- ---- places

pub number_place : (at : ℕ) (n : ℤ) → place_of (e.Number at n) ≡ at
number_place at n = ap place_of (sym (e.rolls-Number at n)) ∙ fold-roll-Expr ℕ (Unit {0}) place_step (λ l. tt) (Expr-F.Number at n)

pub constant_place : (at : ℕ) (which : Constant) → place_of (e.Const at which) ≡ at
constant_place at which = ap place_of (sym (e.rolls-Const at which)) ∙ fold-roll-Expr ℕ (Unit {0}) place_step (λ l. tt) (Expr-F.Const at which)

pub name_place : (at : ℕ) (name : List ℕ) → place_of (e.Name at name) ≡ at
name_place at name = ap place_of (sym (e.rolls-Name at name)) ∙ fold-roll-Expr ℕ (Unit {0}) place_step (λ l. tt) (Expr-F.Name at name)

pub index_place : (at : ℕ) (name : List ℕ) (x : Expr) → place_of (e.Index at name x) ≡ at
index_place at name x = ap place_of (sym (e.rolls-Index at name x)) ∙ fold-roll-Expr ℕ (Unit {0}) place_step (λ l. tt) (Expr-F.Index at name x)

pub group_place : (at : ℕ) (x : Expr) → place_of (e.Group at x) ≡ at
group_place at x = ap place_of (sym (e.rolls-Group at x)) ∙ fold-roll-Expr ℕ (Unit {0}) place_step (λ l. tt) (Expr-F.Group at x)

pub unary_place : (at : ℕ) (op : UnaryOp) (x : Expr) → place_of (e.Unary at op x) ≡ at
unary_place at op x = ap place_of (sym (e.rolls-Unary at op x)) ∙ fold-roll-Expr ℕ (Unit {0}) place_step (λ l. tt) (Expr-F.Unary at op x)

pub chain_place : (at level : ℕ) (x : Expr) (ls : List Link) → place_of (e.Chain at level x ls) ≡ at
chain_place at level x ls = ap place_of (sym (e.rolls-Chain at level x ls)) ∙ fold-roll-Expr ℕ (Unit {0}) place_step (λ l. tt) (Expr-F.Chain at level x ls)

pub call_place : (at : ℕ) (name : List ℕ) (args : List Expr) → place_of (e.Call at name args) ≡ at
call_place at name args = ap place_of (sym (e.rolls-Call at name args)) ∙ fold-roll-Expr ℕ (Unit {0}) place_step (λ l. tt) (Expr-F.Call at name args)

pub send_place : (at : ℕ) (channel : List ℕ) (x : Expr) → place_of (e.Send at channel x) ≡ at
send_place at channel x = ap place_of (sym (e.rolls-Send at channel x)) ∙ fold-roll-Expr ℕ (Unit {0}) place_step (λ l. tt) (Expr-F.Send at channel x)

pub recv_place : (at : ℕ) (channel : List ℕ) (x : Expr) → place_of (e.Recv at channel x) ≡ at
recv_place at channel x = ap place_of (sym (e.rolls-Recv at channel x)) ∙ fold-roll-Expr ℕ (Unit {0}) place_step (λ l. tt) (Expr-F.Recv at channel x)

pub read_place : (at : ℕ) (file : List ℕ) (x y : Expr) (array : List ℕ) → place_of (e.Read at file x y array) ≡ at
read_place at file x y array = ap place_of (sym (e.rolls-Read at file x y array)) ∙ fold-roll-Expr ℕ (Unit {0}) place_step (λ l. tt) (Expr-F.Read at file x y array)

pub write_place : (at : ℕ) (file : List ℕ) (x y : Expr) (array : List ℕ) → place_of (e.Write at file x y array) ≡ at
write_place at file x y array = ap place_of (sym (e.rolls-Write at file x y array)) ∙ fold-roll-Expr ℕ (Unit {0}) place_step (λ l. tt) (Expr-F.Write at file x y array)

-- ---- first tokens

-- a spelling of an expression, which begins with a token of the form
pub record Headed (depth : ℕ) (x : Expr) (form : Primary) (ms : List Marked) : Type 0 where
  pub head : Token
  pub others : List Marked
  pub is : ms ≡ mark depth head ∷ others
  pub place : place_of x ≡ head.span.at
  pub begins : primary_kind head.kind ≡ form

pub place_head : (depth : ℕ) (x : Expr) (ms : List Marked) → PlaceSpells depth x ms → Headed depth x p.Name ms
place_head _ _ _ (variable depth t name q) = record { head = t; others = []; is = refl; place = name_place t.span.at name; begins = rw q refl }
place_head _ _ _ (element depth t left right name x ms q r g v) =
    record { head = t; others = mark depth left ∷ (ms ++ mark (suc depth) right ∷ []); is = refl; place = index_place t.span.at name x; begins = rw q refl }

-- a call is a name or an operation
pub record CallHeaded (depth : ℕ) (x : Expr) (ms : List Marked) : Type 0 where
  pub form : Primary
  pub headed : Headed depth x form ms
  pub primary : is_primary form ≡ true

-- a case for each form of call: its first token is the name or the word, and tells the form
pub call_head : (depth : ℕ) (x : Expr) (ms : List Marked) → CallSpells depth x ms → CallHeaded depth x ms
call_head _ _ _ (function_call depth t left right name args ms q r g v) =
    record {
      form = p.Name;
      headed = record { head = t; others = mark depth left ∷ (ms ++ mark (suc depth) right ∷ []); is = refl; place = call_place t.span.at name args; begins = rw q refl };
      primary = refl;
    }
call_head _ _ _ (send depth t left named comma right channel x ms q r n v g z) =
    record {
      form = p.Operation;
      headed = record {
        head = t;
        others = mark depth left ∷ mark (suc depth) named ∷ mark (suc depth) comma ∷ (ms ++ mark (suc depth) right ∷ []);
        is = refl;
        place = send_place t.span.at channel x;
        begins = rw q refl;
      };
      primary = refl;
    }
call_head _ _ _ (recv depth t left named comma reference right channel x ms q r n v f g z) =
    record {
      form = p.Operation;
      headed = record {
        head = t;
        others = mark depth left ∷ mark (suc depth) named ∷ mark (suc depth) comma ∷ mark (suc depth) reference
            ∷ (ms ++ mark (suc depth) right ∷ []);
        is = refl;
        place = recv_place t.span.at channel x;
        begins = rw q refl;
      };
      primary = refl;
    }
call_head _ _ _ (read depth t left named comma second third into right file array from len ms ns q r n v g s h u a z) =
    record {
      form = p.Operation;
      headed = record {
        head = t;
        others = mark depth left ∷ mark (suc depth) named ∷ mark (suc depth) comma
            ∷ (ms ++ mark (suc depth) second ∷ (ns ++ mark (suc depth) third ∷ mark (suc depth) into ∷ mark (suc depth) right ∷ []));
        is = refl;
        place = read_place t.span.at file from len array;
        begins = rw q refl;
      };
      primary = refl;
    }
call_head _ _ _ (write depth t left named comma second third into right file array from len ms ns q r n v g s h u a z) =
    record {
      form = p.Operation;
      headed = record {
        head = t;
        others = mark depth left ∷ mark (suc depth) named ∷ mark (suc depth) comma
            ∷ (ms ++ mark (suc depth) second ∷ (ns ++ mark (suc depth) third ∷ mark (suc depth) into ∷ mark (suc depth) right ∷ []));
        is = refl;
        place = write_place t.span.at file from len array;
        begins = rw q refl;
      };
      primary = refl;
    }

-- word for word: the three named results tell their form, and the others name none
pub constant_form : (a : Word) (which : Constant) → constant_of a ≡ Some which → primary_word a ≡ p.Constant
constant_form w.Ok which o = refl
constant_form w.Cancelled which o = refl
constant_form w.Fault which o = refl
constant_form w.Send which o = cc
constant_form w.Recv which o = cc
constant_form w.Read which o = cc
constant_form w.Write which o = cc
constant_form w.Int which o = cc
constant_form w.Void which o = cc
constant_form w.Async which o = cc
constant_form w.Do which o = cc
constant_form w.Finish which o = cc
constant_form w.Cancel which o = cc
constant_form w.Yield which o = cc
constant_form w.If which o = cc
constant_form w.Else which o = cc
constant_form w.While which o = cc
constant_form w.For which o = cc
constant_form w.Break which o = cc
constant_form w.Continue which o = cc
constant_form w.Return which o = cc
constant_form w.Core which o = cc
constant_form w.Channel which o = cc
constant_form w.File which o = cc
constant_form w.Printf which o = cc

pub unary_form : (a : Mark) (op : UnaryOp) → unary_of a ≡ Some op → primary_mark a ≡ p.Unary
unary_form m.OpenParen op o = cc
unary_form m.Minus op o = refl
unary_form m.Not op o = refl
unary_form m.Tilde op o = refl
unary_form a op o = cc

-- the form of any expression's first token
pub record ExprHeaded (depth : ℕ) (x : Expr) (ms : List Marked) : Type 0 where
  pub head : Token
  pub others : List Marked
  pub is : ms ≡ mark depth head ∷ others
  pub place : place_of x ≡ head.span.at
  pub begins : is_primary (primary_kind head.kind) ≡ true

by_form : (depth : ℕ) (x : Expr) (ms : List Marked) (form : Primary) → is_primary form ≡ true → Headed depth x form ms → ExprHeaded depth x ms
by_form depth x ms form q h = record { head = h.head; others = h.others; is = h.is; place = h.place; begins = ap is_primary h.begins ∙ q }

same_head : {A : Type 0} {x y : A} {xs ys : List A} → x ∷ xs ≡ y ∷ ys → x ≡ y
same_head {A} {x} {y} {xs} {ys} h = cc

chain_head : (depth level : ℕ) (first : Expr) (ls : List Link) (head : Token) (ms ns : List Marked) → ExprHeaded depth first (mark depth head ∷ ms)
    → ExprHeaded depth (e.Chain head.span.at level first ls) (mark depth head ∷ (ms ++ ns))
chain_head depth level first ls head ms ns h =
    let q : mark depth head ≡ mark depth h.head = same_head h.is in
    record { head = head; others = ms ++ ns; is = refl; place = chain_place head.span.at level first ls; begins = ap (λ (m : Marked). is_primary (primary_kind m.token.kind)) q ∙ h.begins }

pub expr_head : (depth level : ℕ) (x : Expr) (ms : List Marked) → ExprSpells depth level x ms → ExprHeaded depth x ms
expr_head _ _ _ _ (number depth n t q) = record { head = t; others = []; is = refl; place = number_place t.span.at n; begins = rw q refl }
expr_head _ _ _ _ (constant depth a which t q o) = record { head = t; others = []; is = refl; place = constant_place t.span.at which; begins = rw q (ap is_primary (constant_form a which o)) }
expr_head _ _ _ _ (place depth x ms g) = by_form depth x ms p.Name refl (place_head depth x ms g)
expr_head _ _ _ _ (call depth x ms g) = let h = call_head depth x ms g in by_form depth x ms h.form h.primary h.headed
expr_head _ _ _ _ (group depth left right x ms q g r) = record { head = left; others = ms ++ mark (suc depth) right ∷ []; is = refl; place = group_place left.span.at x; begins = rw q refl }
expr_head _ _ _ _ (unary depth t a op x ms q o g) = record { head = t; others = ms; is = refl; place = unary_place t.span.at op x; begins = rw q (ap is_primary (unary_form a op o)) }
expr_head _ _ _ _ (alone depth level x ms g) = expr_head depth (level + 1) x ms g
expr_head _ _ _ _ (chain depth level first l ls head ms ns g d) = chain_head depth level first (l ∷ ls) head ms ns (expr_head depth (level + 1) first (mark depth head ∷ ms) g)

pub at_most : (depth level : ℕ) (x : Expr) (ms : List Marked) → ExprSpells depth level x ms → level ≤ 11
at_most _ _ _ _ (number depth n t q) = omega arith
at_most _ _ _ _ (constant depth a which t q o) = omega arith
at_most _ _ _ _ (place depth x ms g) = omega arith
at_most _ _ _ _ (call depth x ms g) = omega arith
at_most _ _ _ _ (group depth left right x ms q g r) = omega arith
at_most _ _ _ _ (unary depth t a op x ms q o g) = omega arith
at_most _ _ _ _ (alone depth level x ms g) = let h = at_most depth (level + 1) x ms g in omega arith
at_most _ _ _ _ (chain depth level first l ls head ms ns g d) = let h = at_most depth (level + 1) first (mark depth head ∷ ms) g in omega arith

pub primary_by_head : ByHead primary_of
primary_by_head = by_head primary_of p.Other (λ t. primary_kind t.kind) refl (λ t ts. refl)

pub begins_by : ByHead begins_expr
begins_by = by_head begins_expr false (λ t. is_primary (primary_kind t.kind)) refl (λ t ts. refl)
