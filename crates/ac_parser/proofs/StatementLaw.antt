-- The law of statements (`stmt_law`), by induction on the room: at 0 the next token is too deep; else the first token selects the form
-- (`law_select`), whose law asks for that of statements one deeper. For the first case, each token that can begin a statement is shown to begin
-- one, made of smallest parts (`stmt_opens`).
use Rattle.std.proofs.Common.{◌≡◌, ℕ, zero, suc, ◌+◌, true, false, List, [], ◌∷◌, ◌++◌, Some, None, refl, ap, ◌∙◌, arith}
use Rattle.ac_tree.specs.declared.expr.Expr.{Expr}
use Rattle.ac_tree.specs.declared.expr.Expr.TheVariants as e
use Rattle.ac_tree.specs.declared.stmt.Stmt.{Stmt}
use Rattle.ac_tree.specs.declared.stmt.Stmt.TheVariants as s
use Rattle.ac_lexer.specs.declared.token.Word.{Word}
use Rattle.ac_lexer.specs.declared.token.Word.TheVariants as w
use Rattle.ac_lexer.specs.declared.token.Mark.{Mark}
use Rattle.ac_lexer.specs.declared.token.Mark.TheVariants as m
use Rattle.ac_lexer.specs.declared.token.Kind.{Kind}
use Rattle.ac_lexer.specs.declared.token.Kind.TheVariants as k
use Rattle.ac_lexer.specs.declared.token.Token.{Token}
use Rattle.ac_parser.specs.declared.forms.Opening.{Opening}
use Rattle.ac_parser.specs.declared.forms.Opening.TheVariants as f
use Rattle.reading_laws.specs.Marks.{Marked, mark, tokens, IsWord, IsMark}
use Rattle.ac_expressions.specs.Spelling.{CallSpells, no_more}
use Rattle.ac_parser.specs.SpellingOfStatements.{SimpleSpells, StmtSpells, empty, block, if_alone, while, for, break, continue, return, do_plain, async, cancel, yield, print, assign, braces, no_entry}
use Rattle.ac_parser.specs.SpellingOfStatements.{no_init, no_test, no_next}
use Rattle.reading_laws.specs.Letters.{sign, same_mark, starts_with}
use Rattle.reading_laws.specs.Readers.{look}
use Rattle.ac_expressions.specs.Reads.{place_of}
use Rattle.ac_parser.specs.inner.ReadsStatements.{opening_word, opening_mark, opening_kind, opening_of, is_opening, begins_stmt, stmt_at}
use Rattle.reading_laws.proofs.Marking.{tokens_split}
use Rattle.reading_laws.proofs.Parts.{Law, Any, Opens, seq, first, second, law_same, law_before, law_then, law_either, law_select, law_look, bind, made_of, either}
use Rattle.reading_laws.proofs.Letters.{filler, starts_by, law_name}
use Rattle.ac_expressions.proofs.ChainLaws.{fill_up}
use Rattle.reading_laws.proofs.Openings.{begins_bound, no_bound}
use Rattle.ac_expressions.proofs.Openings.{operation_opens}
use Rattle.ac_expressions.proofs.CallLaws.{call_part, deep_closed}
use Rattle.ac_parser.proofs.DeclLaws.{simple_opens, a_semicolon, an_x}
use Rattle.ac_parser.proofs.StatementHeads.{stmt_first, opening_by, stmt_by_head}
use Rattle.ac_parser.proofs.StatementLaws.{call_stmt_part, called, assign_not, empty_law, call_stmt_law, assign_law, operation_stmt_law, print_law, word_law, return_law, cancel_law}
use Rattle.ac_parser.proofs.CompoundLaws.{fill_stmt, stmt_named, NoElse, do_part, block_stmt_law, do_law, labelled_law, while_law, for_law, async_law}
use Rattle.ac_parser.proofs.BranchLaws.{if_law}
use Rattle.ac_parser.proofs.AllStatements.{label_or_assign, named_stmt_part, opening_part, stmt_part, stmt_reads, is_stmt, stmt_is}
use Rattle.ac_parser.proofs.StatementTurns.{opening_form, greedy}

-- ---- what each first token begins

abbrev paren : Token
paren = filler (k.Mark m.OpenParen)

abbrev close : Token
close = filler (k.Mark m.CloseParen)

abbrev brace : Token
brace = filler (k.Mark m.OpenBrace)

abbrev end_brace : Token
end_brace = filler (k.Mark m.CloseBrace)

abbrev finish : Token
finish = filler (k.Word w.Finish)

by_operation : (depth : ℕ) (t : Token) → Opens Expr (CallSpells depth) depth t → Opens Stmt (StmtSpells depth) depth t
by_operation depth t o = record {
  own = o.own;
  deep = o.deep;
  value = s.Call (place_of o.value) o.value;
  others = o.others ++ mark depth a_semicolon ∷ [];
  spells = called depth o.value (mark o.own t ∷ o.others) o.spells a_semicolon refl;
}

by_simple : (depth : ℕ) (t : Token) → Opens Stmt (SimpleSpells depth) depth t → Opens Stmt (StmtSpells depth) depth t
by_simple depth t o = record {
  own = o.own;
  deep = o.deep;
  value = o.value;
  others = o.others ++ mark depth a_semicolon ∷ [];
  spells = assign depth o.value a_semicolon (mark o.own t ∷ o.others) o.spells refl;
}

-- for each word that begins a statement, the smallest statement that it begins; another word begins none
open_word : (depth : ℕ) (t : Token) (a : Word) → IsWord a t → is_opening (opening_word a) ≡ true → Opens Stmt (StmtSpells depth) depth t
open_word depth t w.Send q h = by_operation depth t (operation_opens depth t w.Send q refl)
open_word depth t w.Recv q h = by_operation depth t (operation_opens depth t w.Recv q refl)
open_word depth t w.Read q h = by_operation depth t (operation_opens depth t w.Read q refl)
open_word depth t w.Write q h = by_operation depth t (operation_opens depth t w.Write q refl)
open_word depth t w.Printf q h = record {
  own = depth;
  deep = omega arith;
  value = s.Print t.span.at [] [];
  others = mark depth paren ∷ mark (suc depth) (filler (k.Text [])) ∷ ([] ++ mark (suc depth) close ∷ mark depth a_semicolon ∷ []);
  spells = print depth t paren (filler (k.Text [])) close a_semicolon [] [] [] q refl refl (no_more (suc depth)) refl refl;
}
open_word depth t w.If q h =
    let v = fill_up (suc depth) 10 1 refl in
    let y = fill_stmt (suc depth) in
    record {
      own = depth;
      deep = omega arith;
      value = s.If t.span.at v.value y.value None;
      others = mark depth paren ∷ (v.marks ++ mark (suc depth) close ∷ y.marks);
      spells = if_alone depth t paren close v.value y.value v.marks y.marks q refl v.spells refl y.spells;
    }
open_word depth t w.While q h =
    let v = fill_up (suc depth) 10 1 refl in
    let y = fill_stmt (suc depth) in
    record {
      own = depth;
      deep = omega arith;
      value = s.While t.span.at v.value y.value;
      others = mark depth paren ∷ (v.marks ++ mark (suc depth) close ∷ y.marks);
      spells = while depth t paren close v.value y.value v.marks y.marks q refl v.spells refl y.spells;
    }
open_word depth t w.For q h =
    let y = fill_stmt (suc depth) in
    record {
      own = depth;
      deep = omega arith;
      value = s.For t.span.at None None None y.value;
      others = mark depth paren ∷ ([] ++ mark (suc depth) a_semicolon ∷ ([] ++ mark (suc depth) a_semicolon ∷ ([] ++ mark (suc depth) close ∷ y.marks)));
      spells = for depth t paren a_semicolon a_semicolon close None None None y.value [] [] [] y.marks q refl (no_init (suc (suc depth))) refl (no_test (suc depth)) refl
          (no_next (suc (suc depth))) refl y.spells;
    }
open_word depth t w.Break q h = record { own = depth; deep = omega arith; value = s.Break t.span.at; others = mark depth a_semicolon ∷ []; spells = break depth t a_semicolon q refl }
open_word depth t w.Continue q h = record { own = depth; deep = omega arith; value = s.Continue t.span.at; others = mark depth a_semicolon ∷ []; spells = continue depth t a_semicolon q refl }
open_word depth t w.Return q h = record {
  own = depth;
  deep = omega arith;
  value = s.Return t.span.at None;
  others = [] ++ mark depth a_semicolon ∷ [];
  spells = return depth t a_semicolon None [] q (no_test depth) refl;
}
open_word depth t w.Do q h = record {
  own = depth;
  deep = omega arith;
  value = s.Do t.span.at None [];
  others = (mark depth brace ∷ ([] ++ mark depth end_brace ∷ [])) ++ mark depth finish ∷ mark depth a_semicolon ∷ [];
  spells = do_plain depth 0 t finish a_semicolon [] (mark depth brace ∷ ([] ++ mark depth end_brace ∷ [])) q (braces depth brace end_brace [] [] refl (no_entry (suc depth)) refl) refl refl;
}
open_word depth t w.Async q h = let y = fill_stmt (suc depth) in record {
  own = depth;
  deep = omega arith;
  value = s.Async t.span.at y.value;
  others = y.marks;
  spells = async depth t y.value y.marks q y.spells;
}
open_word depth t w.Cancel q h = record {
  own = depth;
  deep = omega arith;
  value = s.Cancel t.span.at (120 ∷ []);
  others = mark depth an_x ∷ mark depth a_semicolon ∷ [];
  spells = cancel depth t an_x a_semicolon (120 ∷ []) q refl refl;
}
open_word depth t w.Yield q h = record { own = depth; deep = omega arith; value = s.Yield t.span.at; others = mark depth a_semicolon ∷ []; spells = yield depth t a_semicolon q refl }
open_word depth t a q h = cc

open_mark : (depth : ℕ) (t : Token) (a : Mark) → IsMark a t → is_opening (opening_mark a) ≡ true → Opens Stmt (StmtSpells depth) depth t
open_mark depth t m.OpenBrace q h = record {
  own = depth;
  deep = omega arith;
  value = s.Block t.span.at [];
  others = [] ++ mark depth end_brace ∷ [];
  spells = block depth t.span.at [] (mark depth t ∷ ([] ++ mark depth end_brace ∷ [])) (braces depth t end_brace [] [] q (no_entry (suc depth)) refl);
}
open_mark depth t m.Semicolon q h = record { own = depth; deep = omega arith; value = s.Empty t.span.at; others = []; spells = empty depth t q }
open_mark depth t a q h = cc

open_kind : (depth : ℕ) (t : Token) (kind : Kind) → t.kind ≡ kind → is_opening (opening_kind kind) ≡ true → Opens Stmt (StmtSpells depth) depth t
open_kind depth t (k.Name name) q h = by_simple depth t (simple_opens depth t [] (rw q refl))
open_kind depth t (k.Word a) q h = open_word depth t a q h
open_kind depth t (k.Mark a) q h = open_mark depth t a q h
open_kind depth t (k.Number n) q h = cc
open_kind depth t (k.Text n) q h = cc

stmt_opens : (depth : ℕ) (t : Token) (ts : List Token) → begins_stmt (t ∷ ts) ≡ true → Opens Stmt (StmtSpells depth) depth t
stmt_opens depth t ts h = open_kind depth t t.kind refl h

-- ---- the law

label_not : (depth room at : ℕ) (name : List ℕ) (x : Stmt) (ms : List Marked) (rest : List Token) → (label_or_assign depth room at name).spells x ms
    → starts_with (sign m.OpenParen) (tokens ms ++ rest) ≡ false
unfolding either same_mark
label_not depth room at name _ _ rest (first x ms g) = no_bound (sign m.OpenParen) depth (sign m.Colon) refl (λ _. do_part depth room (λ _. at) (Some name)) x ms rest g
label_not depth room at name _ _ rest (second x ms g) = assign_not (sign m.OpenParen) refl refl depth room at name x ms rest g

call_first : (depth room at : ℕ) (name : List ℕ) (x : Expr) (a c : List Marked) (rest : List Token) → (call_part depth room at name).spells x a
    → starts_with (sign m.OpenParen) (tokens (a ++ c) ++ rest) ≡ true
call_first depth room at name x a c rest g = ap (starts_with (sign m.OpenParen)) (tokens_split a c rest)
    ∙ begins_bound depth (sign m.OpenParen) (λ _. made_of (deep_closed (suc depth) room) (λ xs. e.Call at name xs)) x a (tokens c ++ rest) g

call_starts : (depth room at : ℕ) (name : List ℕ) (x : Stmt) (ms : List Marked) (rest : List Token) → (call_stmt_part depth room at name).spells x ms
    → starts_with (sign m.OpenParen) (tokens ms ++ rest) ≡ true
unfolding bind
call_starts depth room at name _ _ rest (seq x _ a c g last) = call_first depth room at name x a c rest g

module _ (L depth room : ℕ) (now : depth + suc room ≡ suc L) (sl : Law L Stmt (stmt_named (suc depth) room) NoElse) where
  label_law : (at : ℕ) (name : List ℕ) → Law L Stmt (label_or_assign depth room at name) Any
  unfolding same_mark
  label_law at name = law_either (starts_with (sign m.Colon)) (starts_by (sign m.Colon)) (labelled_law L depth room now sl at name) (assign_law L depth room now at name)
      (λ x ms rest g h. begins_bound depth (sign m.Colon) (λ _. do_part depth room (λ _. at) (Some name)) x ms rest g)
      (λ x ms rest g h. assign_not (sign m.Colon) refl refl depth room at name x ms rest g)

  named_law : Law L Stmt (named_stmt_part depth room) Any
  named_law = law_then (law_name L depth (omega (arith, now))) (λ n. law_either (starts_with (sign m.OpenParen)) (starts_by (sign m.OpenParen)) (call_stmt_law L depth room now n.0 n.1)
      (label_law n.0 n.1)
      (λ x ms rest g h. call_starts depth room n.0 n.1 x ms rest g) (λ x ms rest g h. label_not depth room n.0 n.1 x ms rest g))

  opening_law : (form : Opening) → Law L Stmt (opening_part depth room form) NoElse
  opening_law f.Block = law_before (block_stmt_law L depth room now sl) (λ x rest h. tt)
  opening_law f.Empty = law_before (empty_law L depth room now) (λ x rest h. tt)
  opening_law f.Name = law_before named_law (λ x rest h. tt)
  opening_law f.Operation = law_before (operation_stmt_law L depth room now) (λ x rest h. tt)
  opening_law f.Print = law_before (print_law L depth room now) (λ x rest h. tt)
  opening_law f.If = if_law L depth room now sl (greedy room)
  opening_law f.While = while_law L depth room now sl
  opening_law f.For = for_law L depth room now sl
  opening_law f.Break = law_before (word_law L depth room now w.Break s.Break) (λ x rest h. tt)
  opening_law f.Continue = law_before (word_law L depth room now w.Continue s.Continue) (λ x rest h. tt)
  opening_law f.Return = law_before (return_law L depth room now) (λ x rest h. tt)
  opening_law f.Do = law_before (do_law L depth room now sl (λ at. at) None) (λ x rest h. tt)
  opening_law f.Async = async_law L depth room now sl
  opening_law f.Cancel = law_before (cancel_law L depth room now) (λ x rest h. tt)
  opening_law f.Yield = law_before (word_law L depth room now w.Yield s.Yield) (λ x rest h. tt)
  opening_law f.Other = law_before (empty_law L depth room now) (λ x rest h. tt)

  whole_stmt : Law L Stmt (stmt_named depth (suc room)) NoElse
  whole_stmt = law_same (stmt_part depth room) (stmt_named depth (suc room)) (stmt_reads depth room) (is_stmt depth room) (stmt_is depth room)
      (law_select opening_of is_opening (opening_part depth room) f.Empty refl opening_by (λ form q. opening_law form) (λ form x ms rest q g h. opening_form depth room form x ms rest q g))

zero_reads : (a : List Token) → stmt_at zero a ≡ look (begins_stmt a) a
unfolding stmt_at
zero_reads a = refl

pub stmt_law : (L room depth : ℕ) → depth + room ≡ suc L → Law L Stmt (stmt_named depth room) NoElse
stmt_law L zero depth now =
    law_same (record { read = λ a. look (begins_stmt a) a; spells = StmtSpells depth; filled = fill_stmt depth }) (stmt_named depth zero) zero_reads (λ x ms g. g) (λ x ms g. g)
    (law_look L depth begins_stmt (StmtSpells depth) (fill_stmt depth) (omega (arith, now)) refl stmt_by_head (stmt_opens depth) (stmt_first depth))
stmt_law L (suc room) depth now = whole_stmt L depth room now (stmt_law L room (suc depth) (omega (arith, now)))
