-- What an expression may begin with, and that it ends before a word or a mark that goes on none: so an expression and such a sign behind it have
-- a law (`law_expr_bind`, `law_expr_made`). Each token that can begin an expression does begin one, made of smallest parts (`expr_opens`), as
-- the law of parts that may be too deep asks; and each spelling begins with such a token (`expr_first`).
use Rattle.std.proofs.Common.{◌≡◌, ℕ, zero, suc, ◌+◌, ◌<◌, ◌≤◌, Bool, true, false, List, [], ◌∷◌, ◌++◌, Option, Some, None, refl, sym, ap, ◌∙◌, subst, arith}
use Rattle.ac_tree.specs.declared.expr.Expr.{Expr}
use Rattle.ac_tree.specs.declared.expr.Expr.TheVariants as e
use Rattle.ac_tree.specs.declared.expr.Constant.{Constant}
use Rattle.ac_tree.specs.declared.expr.UnaryOp.{UnaryOp}
use Rattle.ac_lexer.specs.declared.token.Word.{Word}
use Rattle.ac_lexer.specs.declared.token.Word.TheVariants as w
use Rattle.ac_lexer.specs.declared.token.Mark.{Mark}
use Rattle.ac_lexer.specs.declared.token.Mark.TheVariants as m
use Rattle.ac_lexer.specs.declared.token.Kind.{Kind}
use Rattle.ac_lexer.specs.declared.token.Kind.TheVariants as k
use Rattle.ac_lexer.specs.declared.token.Token.{Token}
use Rattle.ac_expressions.specs.declared.forms.Primary.TheVariants as p
use Rattle.reading_laws.specs.Marks.{Marked, mark, tokens, IsWord, IsMark}
use Rattle.ac_expressions.specs.Spelling.{unary_of, constant_of, ExprSpells, number, constant, place, call, group, unary, alone, variable, CallSpells, send, recv, read, write}
use Rattle.reading_laws.specs.Letters.{Sign, is_kind, starts_with}
use Rattle.reading_laws.specs.inner.Tokens.{kind_of}
use Rattle.reading_laws.specs.Readers.{is_there}
use Rattle.ac_expressions.specs.Reads.{primary_word, primary_mark, primary_kind, is_primary, begins_expr}
use Rattle.reading_laws.proofs.Parts.{Part, Law, Opens, First, law_bind, bind, made_of}
use Rattle.reading_laws.proofs.Letters.{filler, is_case, sign_part}
use Rattle.ac_expressions.proofs.ExpressionHeads.{binding, binding_kind, Ends, expr_head}
use Rattle.ac_expressions.proofs.ChainLaws.{fill_up, expr_named, expr_had}
use Rattle.reading_laws.proofs.Openings.{begins_bound, begins_made, started}

-- ---- what follows an expression

pub starts_ends : (w : Sign) → binding_kind (kind_of w) ≡ 0 → (rest : List Token) → starts_with w rest ≡ true → binding rest < 1
starts_ends w h rest s = let z = started w rest s in omega (arith, ap binding z.is, ap binding_kind z.kind, h)

-- what begins with a word or a mark that goes on no expression
pub ends_bound : {Y : Type 0} (d : ℕ) (w : Sign) → binding_kind (kind_of w) ≡ 0 → (l : ℕ → Part Y) (y : Y) (ms : List Marked) (rest : List Token) → (bind (sign_part d w) l).spells y ms
    → binding (tokens ms ++ rest) < 1
ends_bound d w h l y ms rest s = starts_ends w h (tokens ms ++ rest) (begins_bound d w l y ms rest s)

pub ends_made : {Y : Type 0} (d : ℕ) (w : Sign) → binding_kind (kind_of w) ≡ 0 → (l : ℕ → Y) (y : Y) (ms : List Marked) (rest : List Token) → (made_of (sign_part d w) l).spells y ms
    → binding (tokens ms ++ rest) < 1
ends_made d w h l y ms rest s = starts_ends w h (tokens ms ++ rest) (begins_made d w l y ms rest s)

-- an expression and a word or a mark behind it
pub law_expr_bind : {Y : Type 0} {H : Y → List Token → Type 0} (L depth room : ℕ) → depth + room ≡ suc L → Law L Expr (expr_named depth room) (Ends 1) → (d : ℕ) (w : Sign)
    → binding_kind (kind_of w) ≡ 0 → (l : Expr → ℕ → Part Y)
    → ((x : Expr) → depth ≤ L → Law L Y (bind (sign_part d w) (l x)) H) → Law L Y (bind (expr_named depth room) (λ x. bind (sign_part d w) (l x))) H
law_expr_bind L depth room now el d w z l n =
    law_bind el (λ x a m h. let lt : 0 < room = expr_had room a (x, m) h in n x (omega (arith, now, lt))) (λ x y c rest s h. ends_bound d w z (l x) y c rest s)

pub law_expr_made : {Y : Type 0} {H : Y → List Token → Type 0} (L depth room : ℕ) → depth + room ≡ suc L → Law L Expr (expr_named depth room) (Ends 1) → (d : ℕ) (w : Sign)
    → binding_kind (kind_of w) ≡ 0 → (l : Expr → ℕ → Y)
    → ((x : Expr) → depth ≤ L → Law L Y (made_of (sign_part d w) (l x)) H) → Law L Y (bind (expr_named depth room) (λ x. made_of (sign_part d w) (l x))) H
law_expr_made L depth room now el d w z l n =
    law_bind el (λ x a m h. let lt : 0 < room = expr_had room a (x, m) h in n x (omega (arith, now, lt))) (λ x y c rest s h. ends_made d w z (l x) y c rest s)

-- ---- what a token begins

pub lower : (depth up level : ℕ) → level + up ≡ 11 → (x : Expr) (ms : List Marked) → ExprSpells depth 11 x ms → ExprSpells depth level x ms
lower depth zero level q x ms g = let z : 11 ≡ level = omega (arith, q) in subst (λ (l : ℕ). ExprSpells depth l x ms) z g
lower depth (suc up) level q x ms g = alone depth level x ms (lower depth up (level + 1) (omega (arith, q)) x ms g)

abbrev open_paren : Token
open_paren = filler (k.Mark m.OpenParen)

abbrev close_paren : Token
close_paren = filler (k.Mark m.CloseParen)

abbrev a_comma : Token
a_comma = filler (k.Mark m.Comma)

abbrev a_name : Token
a_name = filler (k.Name (120 ∷ []))

open_constant : (depth : ℕ) (t : Token) (a : Word) → IsWord a t → (o : Option Constant) → constant_of a ≡ o → is_there o ≡ true → Opens Expr (ExprSpells depth 11) depth t
open_constant depth t a q (Some which) o h = record { own = depth; deep = omega arith; value = e.Const t.span.at which; others = []; spells = constant depth a which t q o }
open_constant depth t a q None o h = cc

open_unary : (depth : ℕ) (t : Token) (a : Mark) → IsMark a t → (o : Option UnaryOp) → unary_of a ≡ o → is_there o ≡ true → Opens Expr (ExprSpells depth 11) depth t
open_unary depth t a q (Some op) o h = let v = fill_up (suc depth) 0 11 refl in
    record { own = depth; deep = omega arith; value = e.Unary t.span.at op v.value; others = v.marks; spells = unary depth t a op v.value v.marks q o v.spells }
open_unary depth t a q None o h = cc

-- an operation's word
-- each of the four words goes on with an operation of the name `x` and smallest expressions; another word is none
pub operation_opens : (depth : ℕ) (t : Token) (a : Word) → IsWord a t → primary_word a ≡ p.Operation → Opens Expr (CallSpells depth) depth t
operation_opens depth t w.Send q h =
    let v = fill_up (suc depth) 10 1 refl in
    record {
      own = depth;
      deep = omega arith;
      value = e.Send t.span.at (120 ∷ []) v.value;
      others = mark depth open_paren ∷ mark (suc depth) a_name ∷ mark (suc depth) a_comma ∷ (v.marks ++ mark (suc depth) close_paren ∷ []);
      spells = send depth t open_paren a_name a_comma close_paren (120 ∷ []) v.value v.marks q refl refl refl v.spells refl;
    }
operation_opens depth t w.Recv q h =
    record {
      own = depth;
      deep = omega arith;
      value = e.Recv t.span.at (120 ∷ []) (e.Name 0 (120 ∷ []));
      others = mark depth open_paren ∷ mark (suc depth) a_name ∷ mark (suc depth) a_comma ∷ mark (suc depth) (filler (k.Mark m.And)) ∷ mark (suc depth) a_name ∷ mark (suc depth) close_paren ∷ [];
      spells = recv depth t open_paren a_name a_comma (filler (k.Mark m.And)) close_paren (120 ∷ []) (e.Name 0 (120 ∷ [])) (mark (suc depth) a_name ∷ []) q refl refl refl refl
          (variable (suc depth) a_name (120 ∷ []) refl) refl;
    }
operation_opens depth t w.Read q h =
    let v = fill_up (suc depth) 10 1 refl in
    record {
      own = depth;
      deep = omega arith;
      value = e.Read t.span.at (120 ∷ []) v.value v.value (120 ∷ []);
      others = mark depth open_paren ∷ mark (suc depth) a_name ∷ mark (suc depth) a_comma
          ∷ (v.marks ++ mark (suc depth) a_comma ∷ (v.marks ++ mark (suc depth) a_comma ∷ mark (suc depth) a_name ∷ mark (suc depth) close_paren ∷ []));
      spells = read depth t open_paren a_name a_comma a_comma a_comma a_name close_paren (120 ∷ []) (120 ∷ []) v.value v.value v.marks v.marks q refl refl refl v.spells refl v.spells refl refl refl;
    }
operation_opens depth t w.Write q h =
    let v = fill_up (suc depth) 10 1 refl in
    record {
      own = depth;
      deep = omega arith;
      value = e.Write t.span.at (120 ∷ []) v.value v.value (120 ∷ []);
      others = mark depth open_paren ∷ mark (suc depth) a_name ∷ mark (suc depth) a_comma
          ∷ (v.marks ++ mark (suc depth) a_comma ∷ (v.marks ++ mark (suc depth) a_comma ∷ mark (suc depth) a_name ∷ mark (suc depth) close_paren ∷ []));
      spells = write depth t open_paren a_name a_comma a_comma a_comma a_name close_paren (120 ∷ []) (120 ∷ []) v.value v.value v.marks v.marks q refl refl refl v.spells refl v.spells refl refl refl;
    }
operation_opens depth t a q h = cc

by_call : (depth : ℕ) (t : Token) → Opens Expr (CallSpells depth) depth t → Opens Expr (ExprSpells depth 11) depth t
by_call depth t o = record { own = o.own; deep = o.deep; value = o.value; others = o.others; spells = call depth o.value (mark o.own t ∷ o.others) o.spells }

open_word : (depth : ℕ) (t : Token) (a : Word) → IsWord a t → is_primary (primary_word a) ≡ true → Opens Expr (ExprSpells depth 11) depth t
open_word depth t w.Send q h = by_call depth t (operation_opens depth t w.Send q refl)
open_word depth t w.Recv q h = by_call depth t (operation_opens depth t w.Recv q refl)
open_word depth t w.Read q h = by_call depth t (operation_opens depth t w.Read q refl)
open_word depth t w.Write q h = by_call depth t (operation_opens depth t w.Write q refl)
open_word depth t w.Ok q h = open_constant depth t w.Ok q (constant_of w.Ok) refl refl
open_word depth t w.Cancelled q h = open_constant depth t w.Cancelled q (constant_of w.Cancelled) refl refl
open_word depth t w.Fault q h = open_constant depth t w.Fault q (constant_of w.Fault) refl refl
open_word depth t a q h = cc

open_mark : (depth : ℕ) (t : Token) (a : Mark) → IsMark a t → is_primary (primary_mark a) ≡ true → Opens Expr (ExprSpells depth 11) depth t
open_mark depth t m.OpenParen q h =
    let v = fill_up (suc depth) 10 1 refl in record {
      own = depth;
      deep = omega arith;
      value = e.Group t.span.at v.value;
      others = v.marks ++ mark (suc depth) close_paren ∷ [];
      spells = group depth t close_paren v.value v.marks q v.spells refl;
    }
open_mark depth t m.Minus q h = open_unary depth t m.Minus q (unary_of m.Minus) refl refl
open_mark depth t m.Not q h = open_unary depth t m.Not q (unary_of m.Not) refl refl
open_mark depth t m.Tilde q h = open_unary depth t m.Tilde q (unary_of m.Tilde) refl refl
open_mark depth t a q h = cc

open_kind : (depth : ℕ) (t : Token) (kind : Kind) → t.kind ≡ kind → is_primary (primary_kind kind) ≡ true → Opens Expr (ExprSpells depth 11) depth t
open_kind depth t (k.Name name) q h = record {
  own = depth;
  deep = omega arith;
  value = e.Name t.span.at name;
  others = [];
  spells = place depth (e.Name t.span.at name) (mark depth t ∷ []) (variable depth t name q);
}
open_kind depth t (k.Number n) q h = record { own = depth; deep = omega arith; value = e.Number t.span.at n; others = []; spells = number depth n t q }
open_kind depth t (k.Text text) q h = cc
open_kind depth t (k.Word a) q h = open_word depth t a q h
open_kind depth t (k.Mark a) q h = open_mark depth t a q h

pub unary_opens : (depth : ℕ) (t : Token) (ts : List Token) → begins_expr (t ∷ ts) ≡ true → Opens Expr (ExprSpells depth 11) depth t
unary_opens depth t ts h = open_kind depth t t.kind refl h

pub expr_opens : (depth : ℕ) (t : Token) (ts : List Token) → begins_expr (t ∷ ts) ≡ true → Opens Expr (ExprSpells depth 1) depth t
expr_opens depth t ts h = let o = unary_opens depth t ts h in record {
  own = o.own;
  deep = o.deep;
  value = o.value;
  others = o.others;
  spells = lower depth 10 1 refl o.value (mark o.own t ∷ o.others) o.spells;
}

pub expr_first : (depth level : ℕ) (x : Expr) (ms : List Marked) → ExprSpells depth level x ms → First depth begins_expr ms
expr_first depth level x ms g = let h = expr_head depth level x ms g in record { own = depth; deep = omega arith; token = h.head; others = h.others; is = h.is; begun = λ rest. h.begins }

-- a sign that begins no expression
kind_case : (w : Sign) → is_primary (primary_kind (kind_of w)) ≡ false → (kind : Kind) → is_primary (primary_kind kind) ≡ true → (b : Bool) → is_kind w kind ≡ b → b ≡ false
kind_case w n kind h true q = let z : kind ≡ kind_of w = is_case w kind q in let no : true ≡ false = sym h ∙ ap (λ (kind : Kind). is_primary (primary_kind kind)) z ∙ n in cc
kind_case w n kind h false q = refl

pub begins_not : (w : Sign) → is_primary (primary_kind (kind_of w)) ≡ false → (rest : List Token) → begins_expr rest ≡ true → starts_with w rest ≡ false
begins_not w n [] h = refl
begins_not w n (t ∷ ts) h = kind_case w n t.kind h (is_kind w t.kind) refl

pub expr_begins : (depth level : ℕ) (x : Expr) (ms : List Marked) (rest : List Token) → ExprSpells depth level x ms → begins_expr (tokens ms ++ rest) ≡ true
expr_begins depth level x ms rest g = let f = expr_first depth level x ms g in ap (λ (ms : List Marked). begins_expr (tokens ms ++ rest)) f.is ∙ f.begun (tokens f.others ++ rest)

pub starts_begins_not : (w : Sign) → is_primary (primary_kind (kind_of w)) ≡ false → (rest : List Token) → starts_with w rest ≡ true → begins_expr rest ≡ false
starts_begins_not w n rest s = let z = started w rest s in ap begins_expr z.is ∙ ap (λ (kind : Kind). is_primary (primary_kind kind)) z.kind ∙ n
