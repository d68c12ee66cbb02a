-- A program weighs at most as many tokens as spell it (`spelled_weight`), so few tokens make a small program (`is_small`).
-- By induction on the spelling, expressions first, then statements and items: what the form weighs (WeightForms of ac_tree) is compared with the
-- number of tokens that its case of the grammar writes.
use Rattle.std.proofs.Common.{◌≡◌, ℕ, suc, ◌+◌, ◌≤◌, List, [], ◌∷◌, ◌++◌, length, Option, Some, None, ap, length-append, arith}
use Rattle.ac_tree.specs.declared.expr.Expr.{Expr}
use Rattle.ac_tree.specs.declared.expr.Link.{Link}
use Rattle.ac_tree.specs.declared.stmt.Stmt.{Stmt}
use Rattle.ac_tree.specs.declared.item.Item.{Item}
use Rattle.ac_tree.specs.declared.item.Param.{Param}
use Rattle.ac_tree.specs.declared.item.Program.{Program}
use Rattle.ac_tree.specs.Weight.{expr_weight, links_weight, exprs_weight, value_weight, stmt_weight, some_weight, body_weight, param_weight, params_weight, item_weight, items_weight, IsSmall}
use Rattle.ac_tree.proofs.WeightForms as f
use Rattle.ac_lexer.specs.declared.token.Token.{Token}
use Rattle.reading_laws.specs.Marks.{Marked, mark, tokens}
use Rattle.ac_expressions.specs.Spelling.{ExprSpells, number, constant, place, call, group, unary, alone, chain, LinksSpell, no_link, one_link, PlaceSpells, variable, element, CallSpells}
use Rattle.ac_expressions.specs.Spelling.{function_call, send, recv, read, write, ArgsSpell, no_args, some_args, MoreSpell, no_more, one_more}
use Rattle.ac_parser.specs.SpellingOfStatements.{ValueSpells, no_value, some_value, TestSpells, no_test, some_test, DeclSpells, int_decl, array_decl, SimpleSpells, simple, InitSpells, no_init}
use Rattle.ac_parser.specs.SpellingOfStatements.{simple_init, int_init, NextSpells, no_next, simple_next, StmtSpells, block, empty, assign, call_stmt, print, if_alone, if_else, while, for, break}
use Rattle.ac_parser.specs.SpellingOfStatements.{continue, return, do_plain, do_labelled, async, cancel, yield, BlockSpells, braces, EntriesSpell, no_entry, decl_entry, stmt_entry}
use Rattle.ac_parser.specs.SpellingOfItems.{no_brackets, brackets, ParamSpells, param, MoreParamsSpell, no_param, one_param, ParamsSpell, no_params, void_params, some_params, ItemSpells, global}
use Rattle.ac_parser.specs.SpellingOfItems.{global_array, function, async_function, channel, file, core, ItemsSpell, no_item, one_item, ProgramSpells}
use Rattle.ac_parser.specs.Places.{IsTree}

-- ---- expressions

mutual
  expr_light : (depth level : ℕ) (x : Expr) (ms : List Marked) → ExprSpells depth level x ms → expr_weight x ≤ length ms
  expr_light _ _ _ _ (number depth n t q) = omega (arith, f.number_weighs t.span.at n)
  expr_light _ _ _ _ (constant depth word which t q c) = omega (arith, f.const_weighs t.span.at which)
  expr_light _ _ _ _ (place depth x ms g) = place_light depth x ms g
  expr_light _ _ _ _ (call depth x ms g) = call_light depth x ms g
  expr_light _ _ _ _ (group depth l r x ms q g v) = omega (arith, f.group_weighs l.span.at x, expr_light (suc depth) 1 x ms g, length-append ms (mark (suc depth) r ∷ []))
  expr_light _ _ _ _ (unary depth t sign op x ms q u g) = omega (arith, f.unary_weighs t.span.at op x, expr_light (suc depth) 11 x ms g)
  expr_light _ _ _ _ (alone depth level x ms g) = expr_light depth (level + 1) x ms g
  expr_light _ _ _ _ (chain depth level first l ls head ms ns g gs) =
      omega (arith, f.chain_weighs head.span.at level first (l ∷ ls), expr_light depth (level + 1) first (mark depth head ∷ ms) g, links_light depth level (l ∷ ls) ns gs, length-append ms ns)

  links_light : (depth level : ℕ) (ls : List Link) (ms : List Marked) → LinksSpell depth level ls ms → links_weight ls ≤ length ms
  links_light _ _ _ _ (no_link depth level) = omega arith
  links_light _ _ _ _ (one_link depth level t sign op x ls ms ns q o g gs) = omega (arith, expr_light depth (level + 1) x ms g, links_light depth level ls ns gs, length-append ms ns)

  place_light : (depth : ℕ) (x : Expr) (ms : List Marked) → PlaceSpells depth x ms → expr_weight x ≤ length ms
  place_light _ _ _ (variable depth t name q) = omega (arith, f.name_weighs t.span.at name)
  place_light _ _ _ (element depth t l r name x ms q i g v) = omega (arith, f.index_weighs t.span.at name x, expr_light (suc depth) 1 x ms g, length-append ms (mark (suc depth) r ∷ []))

  call_light : (depth : ℕ) (x : Expr) (ms : List Marked) → CallSpells depth x ms → expr_weight x ≤ length ms
  call_light _ _ _ (function_call depth t l r name args ms q i g v) = omega (arith, f.call_weighs t.span.at name args, args_light (suc depth) args ms g, length-append ms (mark (suc depth) r ∷ []))
  call_light _ _ _ (send depth t l n c r port x ms q i v j g z) = omega (arith, f.send_weighs t.span.at port x, expr_light (suc depth) 1 x ms g, length-append ms (mark (suc depth) r ∷ []))
  call_light _ _ _ (recv depth t l n c a r port x ms q i v j d g z) = omega (arith, f.recv_weighs t.span.at port x, place_light (suc depth) x ms g, length-append ms (mark (suc depth) r ∷ []))
  call_light _ _ _ (read depth t l n c s e o r source array from len ms ns q i v j g k h z y b) =
      let a = length-append ms (mark (suc depth) s ∷ (ns ++ mark (suc depth) e ∷ mark (suc depth) o ∷ mark (suc depth) r ∷ [])) in
      let d = length-append ns (mark (suc depth) e ∷ mark (suc depth) o ∷ mark (suc depth) r ∷ []) in
      omega (arith, f.read_weighs t.span.at source from len array, expr_light (suc depth) 1 from ms g, expr_light (suc depth) 1 len ns h, a, d)
  call_light _ _ _ (write depth t l n c s e o r source array from len ms ns q i v j g k h z y b) =
      let a = length-append ms (mark (suc depth) s ∷ (ns ++ mark (suc depth) e ∷ mark (suc depth) o ∷ mark (suc depth) r ∷ [])) in
      let d = length-append ns (mark (suc depth) e ∷ mark (suc depth) o ∷ mark (suc depth) r ∷ []) in
      omega (arith, f.write_weighs t.span.at source from len array, expr_light (suc depth) 1 from ms g, expr_light (suc depth) 1 len ns h, a, d)

  args_light : (depth : ℕ) (xs : List Expr) (ms : List Marked) → ArgsSpell depth xs ms → exprs_weight xs ≤ length ms
  args_light _ _ _ (no_args depth) = omega arith
  args_light _ _ _ (some_args depth x xs ms ns g gs) = omega (arith, expr_light depth 1 x ms g, more_light depth xs ns gs, length-append ms ns)

  more_light : (depth : ℕ) (xs : List Expr) (ms : List Marked) → MoreSpell depth xs ms → exprs_weight xs ≤ length ms
  more_light _ _ _ (no_more depth) = omega arith
  more_light _ _ _ (one_more depth c x xs ms ns q g gs) = omega (arith, expr_light depth 1 x ms g, more_light depth xs ns gs, length-append ms ns)

-- ---- statements

value_light : (depth : ℕ) (x : Option Expr) (ms : List Marked) → ValueSpells depth x ms → value_weight x ≤ length ms
value_light _ _ _ (no_value depth) = omega arith
value_light _ _ _ (some_value depth e x ms q g) = omega (arith, expr_light depth 1 x ms g)

test_light : (depth : ℕ) (x : Option Expr) (ms : List Marked) → TestSpells depth x ms → value_weight x ≤ length ms
test_light _ _ _ (no_test depth) = omega arith
test_light _ _ _ (some_test depth x ms g) = expr_light depth 1 x ms g

decl_light : (depth : ℕ) (x : Stmt) (ms : List Marked) → DeclSpells depth x ms → stmt_weight x ≤ length ms
decl_light _ _ _ (int_decl depth h n s name value ms q r g v) = omega (arith, f.int_weighs h.span.at name value, value_light depth value ms g, length-append ms (mark depth s ∷ []))
decl_light _ _ _ (array_decl depth h n l z r s name size q v i j k d) = omega (arith, f.array_weighs h.span.at name size)

simple_light : (depth : ℕ) (x : Stmt) (ms : List Marked) → SimpleSpells depth x ms → stmt_weight x ≤ length ms
simple_light _ _ _ (simple depth h e x y ms ns g q d) =
    omega (arith, f.assign_weighs h.span.at x y, place_light depth x (mark depth h ∷ ms) g, expr_light depth 1 y ns d, length-append ms (mark depth e ∷ ns))

init_light : (depth : ℕ) (x : Option Stmt) (ms : List Marked) → InitSpells depth x ms → some_weight x ≤ length ms
init_light _ _ _ (no_init depth) = omega arith
init_light _ _ _ (simple_init depth x ms g) = simple_light depth x ms g
init_light _ _ _ (int_init depth h n e name x ms q r i g) = omega (arith, f.int_weighs h.span.at name (Some x), expr_light depth 1 x ms g)

next_light : (depth : ℕ) (x : Option Stmt) (ms : List Marked) → NextSpells depth x ms → some_weight x ≤ length ms
next_light _ _ _ (no_next depth) = omega arith
next_light _ _ _ (simple_next depth x ms g) = simple_light depth x ms g

mutual
  -- each form: what it weighs, what its parts weigh by induction, and the lengths of the lists that its tokens are put together of
  stmt_light : (depth : ℕ) (x : Stmt) (ms : List Marked) → StmtSpells depth x ms → stmt_weight x ≤ length ms
  stmt_light _ _ _ (block depth at body ms g) = omega (arith, f.block_weighs at body, block_light depth at body ms g)
  stmt_light _ _ _ (empty depth t q) = omega (arith, f.empty_weighs t.span.at)
  stmt_light _ _ _ (assign depth x s ms g q) = omega (arith, simple_light depth x ms g, length-append ms (mark depth s ∷ []))
  stmt_light _ _ _ (call_stmt depth h s x ms g q) = omega (arith, f.call_stmt_weighs h.span.at x, call_light depth x (mark depth h ∷ ms) g, length-append ms (mark depth s ∷ []))
  stmt_light _ _ _ (print depth h l t r s format args ms q i v g j z) =
      omega (arith, f.print_weighs h.span.at format args, more_light (suc depth) args ms g, length-append ms (mark (suc depth) r ∷ mark depth s ∷ []))
  stmt_light _ _ _ (if_alone depth h l r x y ms ns q i g j d) =
      omega (arith, f.if_weighs h.span.at x y None, expr_light (suc depth) 1 x ms g, stmt_light (suc depth) y ns d, length-append ms (mark (suc depth) r ∷ ns))
  stmt_light _ _ _ (if_else depth h l r o x y z ms ns os q i g j d e k b) =
      let a = length-append ms (mark (suc depth) r ∷ (ns ++ mark depth o ∷ os)) in
      let c = length-append ns (mark depth o ∷ os) in
      omega (arith, f.if_weighs h.span.at x y (Some z), expr_light (suc depth) 1 x ms g, stmt_light (suc depth) y ns d, stmt_light (suc depth) z os b, a, c)
  stmt_light _ _ _ (while depth h l r x y ms ns q i g j d) =
      omega (arith, f.while_weighs h.span.at x y, expr_light (suc depth) 1 x ms g, stmt_light (suc depth) y ns d, length-append ms (mark (suc depth) r ∷ ns))
  stmt_light _ _ _ (for depth h l u v r init test next y is ms ns os q i g j d k e z b) =
      let a = length-append is (mark (suc depth) u ∷ (ms ++ mark (suc depth) v ∷ (ns ++ mark (suc depth) r ∷ os))) in
      let c = length-append ms (mark (suc depth) v ∷ (ns ++ mark (suc depth) r ∷ os)) in
      let w = length-append ns (mark (suc depth) r ∷ os) in
      omega (
        arith,
        f.for_weighs h.span.at init test next y,
        init_light (suc (suc depth)) init is g,
        test_light (suc depth) test ms d,
        next_light (suc (suc depth)) next ns e,
        stmt_light (suc depth) y os b,
        a,
        c,
        w,
      )
  stmt_light _ _ _ (break depth t s q r) = omega (arith, f.break_weighs t.span.at)
  stmt_light _ _ _ (continue depth t s q r) = omega (arith, f.continue_weighs t.span.at)
  stmt_light _ _ _ (return depth t s value ms q g r) = omega (arith, f.return_weighs t.span.at value, test_light depth value ms g, length-append ms (mark depth s ∷ []))
  stmt_light _ _ _ (do_plain depth inner h e s body ms q g r v) =
      omega (arith, f.do_weighs h.span.at None body, block_light depth inner body ms g, length-append ms (mark depth e ∷ mark depth s ∷ []))
  stmt_light _ _ _ (do_labelled depth inner n c h e s label body ms q i j g r v) =
      omega (arith, f.do_weighs n.span.at (Some label) body, block_light depth inner body ms g, length-append ms (mark depth e ∷ mark depth s ∷ []))
  stmt_light _ _ _ (async depth t y ms q g) = omega (arith, f.async_weighs t.span.at y, stmt_light (suc depth) y ms g)
  stmt_light _ _ _ (cancel depth t n s label q r v) = omega (arith, f.cancel_weighs t.span.at label)
  stmt_light _ _ _ (yield depth t s q r) = omega (arith, f.yield_weighs t.span.at)

  block_light : (depth at : ℕ) (body : List Stmt) (ms : List Marked) → BlockSpells depth at body ms → 2 + body_weight body ≤ length ms
  block_light _ _ _ _ (braces depth l r body ms q g v) = omega (arith, entries_light (suc depth) body ms g, length-append ms (mark depth r ∷ []))

  entries_light : (depth : ℕ) (xs : List Stmt) (ms : List Marked) → EntriesSpell depth xs ms → body_weight xs ≤ length ms
  entries_light _ _ _ (no_entry depth) = omega arith
  entries_light _ _ _ (decl_entry depth x xs ms ns g gs) = omega (arith, decl_light depth x ms g, entries_light depth xs ns gs, length-append ms ns)
  entries_light _ _ _ (stmt_entry depth x xs ms ns g gs) = omega (arith, stmt_light depth x ms g, entries_light depth xs ns gs, length-append ms ns)

-- ---- items

param_light : (x : Param) (ms : List Marked) → ParamSpells x ms → param_weight x.is_array ≤ length ms
param_light _ _ (param h n name _ _ q r no_brackets) = omega arith
param_light _ _ (param h n name _ _ q r (brackets l v i j)) = omega arith

more_params_light : (xs : List Param) (ms : List Marked) → MoreParamsSpell xs ms → params_weight xs ≤ length ms
more_params_light _ _ no_param = omega arith
more_params_light _ _ (one_param c x xs ms ns q g gs) = omega (arith, param_light x ms g, more_params_light xs ns gs, length-append ms ns)

params_light : (xs : List Param) (ms : List Marked) → ParamsSpell xs ms → params_weight xs ≤ length ms
params_light _ _ no_params = omega arith
params_light _ _ (void_params t q) = omega arith
params_light _ _ (some_params x xs ms ns g gs) = omega (arith, param_light x ms g, more_params_light xs ns gs, length-append ms ns)

item_light : (x : Item) (ms : List Marked) → ItemSpells x ms → item_weight x ≤ length ms
item_light _ _ (global h n s name value ms q r g v) = omega (arith, length-append ms (mark 0 s ∷ []))
item_light _ _ (global_array h n l z r s name size q v i j k d) = omega arith
item_light _ _ (function h n l r gives name params at body ps bs q v i g j d) =
    omega (arith, params_light params ps g, block_light 1 at body bs d, length-append ps (mark 1 r ∷ bs))
item_light _ _ (async_function h o n l r gives name params at body ps bs q k v i g j d) =
    omega (arith, params_light params ps g, block_light 1 at body bs d, length-append ps (mark 1 r ∷ bs))
item_light _ _ (channel h n l a c b d m r s name from to cap q i v j g z k y e w) = omega arith
item_light _ _ (file h n l t r s name path q i v g j z) = omega arith
item_light _ _ (core h n l e r s name entry q i v g j z) = omega arith

items_light : (xs : List Item) (ms : List Marked) → ItemsSpell xs ms → items_weight xs ≤ length ms
items_light _ _ no_item = omega arith
items_light _ _ (one_item x xs ms ns g gs) = omega (arith, item_light x ms g, items_light xs ns gs, length-append ms ns)

-- ---- programs

token_each : (ms : List Marked) → length (tokens ms) ≡ length ms
token_each [] = omega arith
token_each (m ∷ ms) = omega (arith, token_each ms)

pub spelled_weight : (p : Program) (ms : List Marked) → ProgramSpells p ms → items_weight p.items ≤ length (tokens ms)
spelled_weight p ms g = omega (arith, items_light p.items ms g, token_each ms)

-- what is spelled by few tokens is small
pub is_small : (ts : List Token) (p : Program) → IsTree ts p → length ts ≤ 1048576 → IsSmall p
is_small ts p tree few = omega (arith, spelled_weight p tree.marks tree.spells, ap length tree.split, few)
