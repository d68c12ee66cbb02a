-- A program that tokens spell has the shape of a program (`spelled_shape`).
-- By induction on the spelling, expressions first, then statements and items: each case of the grammar is one of the shape.
use Rattle.std.proofs.Common.{ℕ, suc, ◌+◌, List, [], ◌∷◌, Option, Some, None}
use Rattle.ac_tree.specs.declared.expr.Expr.{Expr}
use Rattle.ac_tree.specs.declared.expr.Link.{Link}
use Rattle.ac_tree.specs.declared.stmt.Stmt.{Stmt}
use Rattle.ac_tree.specs.declared.item.Item.{Item}
use Rattle.ac_tree.specs.declared.item.Program.{Program}
use Rattle.ac_tree.specs.Shape as shape
use Rattle.ac_tree.specs.Shape.{IsExpr, AreLinks, IsPlace, IsCall, AreExprs, IsValue, IsDeclaration, IsAssignment, IsFirst, IsNext, IsStmt, AreEntries, IsItem, AreItems, HasShape}
use Rattle.ac_lexer.specs.declared.token.Token.{Token}
use Rattle.reading_laws.specs.Marks.{Marked}
use Rattle.ac_expressions.specs.Spelling.{link, ExprSpells, number, constant, place, call, group, unary, alone, chain, LinksSpell, no_link, one_link, PlaceSpells, variable, element, CallSpells}
use Rattle.ac_expressions.specs.Spelling.{function_call, send, recv, read, write, ArgsSpell, no_args, some_args, MoreSpell, no_more, one_more}
use Rattle.ac_parser.specs.SpellingOfStatements.{ValueSpells, no_value, some_value, TestSpells, no_test, some_test, DeclSpells, int_decl, array_decl, SimpleSpells, simple, InitSpells, no_init}
use Rattle.ac_parser.specs.SpellingOfStatements.{simple_init, int_init, NextSpells, no_next, simple_next, StmtSpells, block, empty, assign, call_stmt, print, if_alone, if_else, while, for, break}
use Rattle.ac_parser.specs.SpellingOfStatements.{continue, return, do_plain, do_labelled, async, cancel, yield, BlockSpells, braces, EntriesSpell, no_entry, decl_entry, stmt_entry}
use Rattle.ac_parser.specs.SpellingOfItems.{ItemSpells, global}
use Rattle.ac_parser.specs.SpellingOfItems.{global_array, function, async_function, channel, file, core, ItemsSpell, no_item, one_item, ProgramSpells}

-- ---- expressions

mutual
  expr_shaped : (depth level : ℕ) (x : Expr) (ms : List Marked) → ExprSpells depth level x ms → IsExpr x
  expr_shaped _ _ _ _ (number depth n t q) = shape.number t.span.at n
  expr_shaped _ _ _ _ (constant depth word which t q c) = shape.constant t.span.at which
  expr_shaped _ _ _ _ (place depth x ms g) = shape.place x (place_shaped depth x ms g)
  expr_shaped _ _ _ _ (call depth x ms g) = shape.call x (call_shaped depth x ms g)
  expr_shaped _ _ _ _ (group depth l r x ms q g v) = shape.group l.span.at x (expr_shaped (suc depth) 1 x ms g)
  expr_shaped _ _ _ _ (unary depth t sign op x ms q u g) = shape.unary t.span.at op x (expr_shaped (suc depth) 11 x ms g)
  expr_shaped _ _ _ _ (alone depth level x ms g) = expr_shaped depth (level + 1) x ms g
  expr_shaped _ _ _ _ (chain depth level first l ls head ms ns g gs) =
      shape.chain head.span.at level first l ls (expr_shaped depth (level + 1) first _ g) (links_shaped depth level (l ∷ ls) ns gs)

  links_shaped : (depth level : ℕ) (ls : List Link) (ms : List Marked) → LinksSpell depth level ls ms → AreLinks ls
  links_shaped _ _ _ _ (no_link depth level) = shape.no_link
  links_shaped _ _ _ _ (one_link depth level t sign op x ls ms ns q o g gs) =
      shape.one_link (link op x) ls (expr_shaped depth (level + 1) x ms g) (links_shaped depth level ls ns gs)

  place_shaped : (depth : ℕ) (x : Expr) (ms : List Marked) → PlaceSpells depth x ms → IsPlace x
  place_shaped _ _ _ (variable depth t name q) = shape.variable t.span.at name
  place_shaped _ _ _ (element depth t l r name x ms q i g v) = shape.element t.span.at name x (expr_shaped (suc depth) 1 x ms g)

  call_shaped : (depth : ℕ) (x : Expr) (ms : List Marked) → CallSpells depth x ms → IsCall x
  call_shaped _ _ _ (function_call depth t l r name args ms q i g v) = shape.function_call t.span.at name args (args_shaped (suc depth) args ms g)
  call_shaped _ _ _ (send depth t l n c r port x ms q i v j g z) = shape.send t.span.at port x (expr_shaped (suc depth) 1 x ms g)
  call_shaped _ _ _ (recv depth t l n c a r port x ms q i v j d g z) = shape.recv t.span.at port x (place_shaped (suc depth) x ms g)
  call_shaped _ _ _ (read depth t l n c s e o r source array from len ms ns q i v j g k h z y b) =
      shape.read t.span.at source from len array (expr_shaped (suc depth) 1 from ms g) (expr_shaped (suc depth) 1 len ns h)
  call_shaped _ _ _ (write depth t l n c s e o r source array from len ms ns q i v j g k h z y b) =
      shape.write t.span.at source from len array (expr_shaped (suc depth) 1 from ms g) (expr_shaped (suc depth) 1 len ns h)

  args_shaped : (depth : ℕ) (xs : List Expr) (ms : List Marked) → ArgsSpell depth xs ms → AreExprs xs
  args_shaped _ _ _ (no_args depth) = shape.no_expr
  args_shaped _ _ _ (some_args depth x xs ms ns g gs) = shape.one_expr x xs (expr_shaped depth 1 x ms g) (more_shaped depth xs ns gs)

  more_shaped : (depth : ℕ) (xs : List Expr) (ms : List Marked) → MoreSpell depth xs ms → AreExprs xs
  more_shaped _ _ _ (no_more depth) = shape.no_expr
  more_shaped _ _ _ (one_more depth c x xs ms ns q g gs) = shape.one_expr x xs (expr_shaped depth 1 x ms g) (more_shaped depth xs ns gs)

-- ---- statements

value_shaped : (depth : ℕ) (x : Option Expr) (ms : List Marked) → ValueSpells depth x ms → IsValue x
value_shaped _ _ _ (no_value depth) = shape.no_value
value_shaped _ _ _ (some_value depth e x ms q g) = shape.some_value x (expr_shaped depth 1 x ms g)

test_shaped : (depth : ℕ) (x : Option Expr) (ms : List Marked) → TestSpells depth x ms → IsValue x
test_shaped _ _ _ (no_test depth) = shape.no_value
test_shaped _ _ _ (some_test depth x ms g) = shape.some_value x (expr_shaped depth 1 x ms g)

decl_shaped : (depth : ℕ) (x : Stmt) (ms : List Marked) → DeclSpells depth x ms → IsDeclaration x
decl_shaped _ _ _ (int_decl depth h n s name value ms q r g v) = shape.int h.span.at name value (value_shaped depth value ms g)
decl_shaped _ _ _ (array_decl depth h n l z r s name size q v i j k d) = shape.array h.span.at name size

simple_shaped : (depth : ℕ) (x : Stmt) (ms : List Marked) → SimpleSpells depth x ms → IsAssignment x
simple_shaped _ _ _ (simple depth h e x y ms ns g q d) = shape.assign h.span.at x y (place_shaped depth x _ g) (expr_shaped depth 1 y ns d)

init_shaped : (depth : ℕ) (x : Option Stmt) (ms : List Marked) → InitSpells depth x ms → IsFirst x
init_shaped _ _ _ (no_init depth) = shape.no_first
init_shaped _ _ _ (simple_init depth x ms g) = shape.first_assigns x (simple_shaped depth x ms g)
init_shaped _ _ _ (int_init depth h n e name x ms q r i g) = shape.first_declares h.span.at name x (expr_shaped depth 1 x ms g)

next_shaped : (depth : ℕ) (x : Option Stmt) (ms : List Marked) → NextSpells depth x ms → IsNext x
next_shaped _ _ _ (no_next depth) = shape.no_next
next_shaped _ _ _ (simple_next depth x ms g) = shape.next_assigns x (simple_shaped depth x ms g)

mutual
  stmt_shaped : (depth : ℕ) (x : Stmt) (ms : List Marked) → StmtSpells depth x ms → IsStmt x
  stmt_shaped _ _ _ (block depth at body ms g) = shape.block at body (block_shaped depth at body ms g)
  stmt_shaped _ _ _ (empty depth t q) = shape.empty t.span.at
  stmt_shaped _ _ _ (assign depth x s ms g q) = shape.assignment x (simple_shaped depth x ms g)
  stmt_shaped _ _ _ (call_stmt depth h s x ms g q) = shape.call_stmt h.span.at x (call_shaped depth x _ g)
  stmt_shaped _ _ _ (print depth h l t r s format args ms q i v g j z) = shape.print h.span.at format args (more_shaped (suc depth) args ms g)
  stmt_shaped _ _ _ (if_alone depth h l r x y ms ns q i g j d) =
      shape.if_alone h.span.at x y (expr_shaped (suc depth) 1 x ms g) (stmt_shaped (suc depth) y ns d)
  stmt_shaped _ _ _ (if_else depth h l r o x y z ms ns os q i g j d e k b) =
      shape.if_else h.span.at x y z (expr_shaped (suc depth) 1 x ms g) (stmt_shaped (suc depth) y ns d) (stmt_shaped (suc depth) z os b)
  stmt_shaped _ _ _ (while depth h l r x y ms ns q i g j d) =
      shape.while h.span.at x y (expr_shaped (suc depth) 1 x ms g) (stmt_shaped (suc depth) y ns d)
  stmt_shaped _ _ _ (for depth h l u v r init test next y is ms ns os q i g j d k e z b) =
      shape.for h.span.at init test next y (init_shaped (suc (suc depth)) init is g) (test_shaped (suc depth) test ms d)
      (next_shaped (suc (suc depth)) next ns e) (stmt_shaped (suc depth) y os b)
  stmt_shaped _ _ _ (break depth t s q r) = shape.break t.span.at
  stmt_shaped _ _ _ (continue depth t s q r) = shape.continue t.span.at
  stmt_shaped _ _ _ (return depth t s value ms q g r) = shape.return t.span.at value (test_shaped depth value ms g)
  stmt_shaped _ _ _ (do_plain depth inner h e s body ms q g r v) = shape.do_finish h.span.at None body (block_shaped depth inner body ms g)
  stmt_shaped _ _ _ (do_labelled depth inner n c h e s label body ms q i j g r v) =
      shape.do_finish n.span.at (Some label) body (block_shaped depth inner body ms g)
  stmt_shaped _ _ _ (async depth t y ms q g) = shape.async t.span.at y (stmt_shaped (suc depth) y ms g)
  stmt_shaped _ _ _ (cancel depth t n s label q r v) = shape.cancel t.span.at label
  stmt_shaped _ _ _ (yield depth t s q r) = shape.yield t.span.at

  block_shaped : (depth at : ℕ) (body : List Stmt) (ms : List Marked) → BlockSpells depth at body ms → AreEntries body
  block_shaped _ _ _ _ (braces depth l r body ms q g v) = entries_shaped (suc depth) body ms g

  entries_shaped : (depth : ℕ) (xs : List Stmt) (ms : List Marked) → EntriesSpell depth xs ms → AreEntries xs
  entries_shaped _ _ _ (no_entry depth) = shape.no_entry
  entries_shaped _ _ _ (decl_entry depth x xs ms ns g gs) = shape.declares x xs (decl_shaped depth x ms g) (entries_shaped depth xs ns gs)
  entries_shaped _ _ _ (stmt_entry depth x xs ms ns g gs) = shape.does x xs (stmt_shaped depth x ms g) (entries_shaped depth xs ns gs)

-- ---- items

item_shaped : (x : Item) (ms : List Marked) → ItemSpells x ms → IsItem x
item_shaped _ _ (global h n s name value ms q r g v) = tt
item_shaped _ _ (global_array h n l z r s name size q v i j k d) = tt
item_shaped _ _ (function h n l r gives name params at body ps bs q v i g j d) = block_shaped 1 at body bs d
item_shaped _ _ (async_function h o n l r gives name params at body ps bs q k v i g j d) = block_shaped 1 at body bs d
item_shaped _ _ (channel h n l a c b d m r s name from to cap q i v j g z k y e w) = tt
item_shaped _ _ (file h n l t r s name path q i v g j z) = tt
item_shaped _ _ (core h n l e r s name entry q i v g j z) = tt

items_shaped : (xs : List Item) (ms : List Marked) → ItemsSpell xs ms → AreItems xs
items_shaped _ _ no_item = tt
items_shaped _ _ (one_item x xs ms ns g gs) = (item_shaped x ms g, items_shaped xs ns gs)

-- ---- programs

pub spelled_shape : (p : Program) (ms : List Marked) → ProgramSpells p ms → HasShape p
spelled_shape p ms g = items_shaped p.items ms g
