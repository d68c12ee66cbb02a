-- The grammar of statements. A statement has the depth of its first token.
use Rattle.std.specs.Prelude.{◌≡◌, ℕ, ℤ, suc, Bool, true, false, List, [], ◌∷◌, ◌++◌, Option, Some, None}
use Rattle.ac_tree.specs.declared.expr.Expr.{Expr}
use Rattle.ac_tree.specs.declared.stmt.Stmt.{Stmt, fold-Stmt}
use Rattle.ac_tree.specs.declared.stmt.Stmt.TheVariants as s
use Rattle.ac_tree.specs.declared.stmt.Stmt.TheOpen.{Stmt-F}
use Rattle.ac_lexer.specs.declared.token.Word.TheVariants as w
use Rattle.ac_lexer.specs.declared.token.Mark.TheVariants as m
use Rattle.ac_lexer.specs.declared.token.Token.{Token}
use Rattle.reading_laws.specs.Marks.{Marked, mark, IsWord, IsMark, IsName, IsNumber, IsText}
use Rattle.ac_expressions.specs.Spelling.{ExprSpells, PlaceSpells, CallSpells, MoreSpell}

-- Whether a statement ends in an `if` without an `else`, given which of its parts do.
abbrev pub ends_step : Stmt-F Bool → Bool
ends_step (Stmt-F.If at test body None) = true
ends_step (Stmt-F.If at test body (Some other)) = other
ends_step (Stmt-F.While at test body) = body
ends_step (Stmt-F.For at init test next body) = body
ends_step (Stmt-F.Async at body) = body
ends_step _ = false

-- the statement ends in an `if` without an `else`
abbrev pub ends_open : Stmt → Bool
ends_open = fold-Stmt Bool ends_step

-- `[ = expr ]`
pub data ValueSpells : ℕ → Option Expr → List Marked → Type 0 where
  no_value : (depth : ℕ) → ValueSpells depth None []
  some_value : (depth : ℕ) (equals : Token) (x : Expr) (ms : List Marked) → IsMark m.Assign equals → ExprSpells depth 1 x ms
      → ValueSpells depth (Some x) (mark depth equals ∷ ms)

-- `[ expr ]`
pub data TestSpells : ℕ → Option Expr → List Marked → Type 0 where
  no_test : (depth : ℕ) → TestSpells depth None []
  some_test : (depth : ℕ) (x : Expr) (ms : List Marked) → ExprSpells depth 1 x ms → TestSpells depth (Some x) ms

-- `int NAME [ = expr ] ;` or `int NAME [ NUMBER ] ;`
pub data DeclSpells : ℕ → Stmt → List Marked → Type 0 where
  int_decl : (depth : ℕ) (head named semicolon : Token) (name : List ℕ) (value : Option Expr) (ms : List Marked) → IsWord w.Int head
      → IsName name named → ValueSpells depth value ms → IsMark m.Semicolon semicolon
      → DeclSpells depth (s.Int head.span.at name value) (mark depth head ∷ mark depth named ∷ (ms ++ mark depth semicolon ∷ []))
  array_decl : (depth : ℕ) (head named left sized right semicolon : Token) (name : List ℕ) (size : ℤ)
      → IsWord w.Int head → IsName name named → IsMark m.OpenBracket left → IsNumber size sized → IsMark m.CloseBracket right
      → IsMark m.Semicolon semicolon
      → DeclSpells depth (s.Array head.span.at name size)
      (mark depth head ∷ mark depth named ∷ mark depth left ∷ mark (suc depth) sized ∷ mark (suc depth) right ∷ mark depth semicolon ∷ [])

-- `place = expr`
pub data SimpleSpells : ℕ → Stmt → List Marked → Type 0 where
  simple : (depth : ℕ) (head equals : Token) (x y : Expr) (ms ns : List Marked) → PlaceSpells depth x (mark depth head ∷ ms)
      → IsMark m.Assign equals → ExprSpells depth 1 y ns
      → SimpleSpells depth (s.Assign head.span.at x y) (mark depth head ∷ (ms ++ mark depth equals ∷ ns))

-- the first part of a `for`: `[ place = expr | int NAME = expr ]`
pub data InitSpells : ℕ → Option Stmt → List Marked → Type 0 where
  no_init : (depth : ℕ) → InitSpells depth None []
  simple_init : (depth : ℕ) (x : Stmt) (ms : List Marked) → SimpleSpells depth x ms → InitSpells depth (Some x) ms
  int_init : (depth : ℕ) (head named equals : Token) (name : List ℕ) (x : Expr) (ms : List Marked) → IsWord w.Int head → IsName name named
      → IsMark m.Assign equals → ExprSpells depth 1 x ms
      → InitSpells depth (Some (s.Int head.span.at name (Some x))) (mark depth head ∷ mark depth named ∷ mark depth equals ∷ ms)

-- the third part: `[ place = expr ]`
pub data NextSpells : ℕ → Option Stmt → List Marked → Type 0 where
  no_next : (depth : ℕ) → NextSpells depth None []
  simple_next : (depth : ℕ) (x : Stmt) (ms : List Marked) → SimpleSpells depth x ms → NextSpells depth (Some x) ms

mutual
  pub data StmtSpells : ℕ → Stmt → List Marked → Type 0 where
    -- `{ .. }`
    block : (depth at : ℕ) (body : List Stmt) (ms : List Marked) → BlockSpells depth at body ms → StmtSpells depth (s.Block at body) ms
    empty : (depth : ℕ) (t : Token) → IsMark m.Semicolon t → StmtSpells depth (s.Empty t.span.at) (mark depth t ∷ [])
    -- `place = expr ;`
    assign : (depth : ℕ) (x : Stmt) (semicolon : Token) (ms : List Marked) → SimpleSpells depth x ms → IsMark m.Semicolon semicolon
        → StmtSpells depth x (ms ++ mark depth semicolon ∷ [])
    -- `call ;`
    call_stmt : (depth : ℕ) (head semicolon : Token) (x : Expr) (ms : List Marked) → CallSpells depth x (mark depth head ∷ ms)
        → IsMark m.Semicolon semicolon
        → StmtSpells depth (s.Call head.span.at x) (mark depth head ∷ (ms ++ mark depth semicolon ∷ []))
    -- `printf ( TEXT { , expr } ) ;`
    print : (depth : ℕ) (head left text right semicolon : Token) (format : List ℕ) (args : List Expr) (ms : List Marked)
        → IsWord w.Printf head → IsMark m.OpenParen left → IsText format text → MoreSpell (suc depth) args ms → IsMark m.CloseParen right
        → IsMark m.Semicolon semicolon
        → StmtSpells depth (s.Print head.span.at format args)
        (mark depth head ∷ mark depth left ∷ mark (suc depth) text ∷ (ms ++ mark (suc depth) right ∷ mark depth semicolon ∷ []))
    -- `if ( expr ) stmt`
    if_alone : (depth : ℕ) (head left right : Token) (x : Expr) (y : Stmt) (ms ns : List Marked) → IsWord w.If head
        → IsMark m.OpenParen left → ExprSpells (suc depth) 1 x ms → IsMark m.CloseParen right → StmtSpells (suc depth) y ns
        → StmtSpells depth (s.If head.span.at x y None) (mark depth head ∷ mark depth left ∷ (ms ++ mark (suc depth) right ∷ ns))
    -- `if ( expr ) stmt else stmt`
    if_else : (depth : ℕ) (head left right other : Token) (x : Expr) (y z : Stmt) (ms ns os : List Marked)
        → IsWord w.If head → IsMark m.OpenParen left → ExprSpells (suc depth) 1 x ms → IsMark m.CloseParen right
        → StmtSpells (suc depth) y ns → ends_open y ≡ false → IsWord w.Else other → StmtSpells (suc depth) z os
        → StmtSpells depth (s.If head.span.at x y (Some z))
        (mark depth head ∷ mark depth left ∷ (ms ++ mark (suc depth) right ∷ (ns ++ mark depth other ∷ os)))
    -- `while ( expr ) stmt`
    while : (depth : ℕ) (head left right : Token) (x : Expr) (y : Stmt) (ms ns : List Marked) → IsWord w.While head
        → IsMark m.OpenParen left → ExprSpells (suc depth) 1 x ms → IsMark m.CloseParen right → StmtSpells (suc depth) y ns
        → StmtSpells depth (s.While head.span.at x y) (mark depth head ∷ mark depth left ∷ (ms ++ mark (suc depth) right ∷ ns))
    -- `for ( init ; test ; next ) stmt`
    for : (depth : ℕ) (head left first second right : Token) (init : Option Stmt) (test : Option Expr) (next : Option Stmt) (y : Stmt)
        (is ms ns os : List Marked)
        → IsWord w.For head → IsMark m.OpenParen left → InitSpells (suc (suc depth)) init is → IsMark m.Semicolon first
        → TestSpells (suc depth) test ms → IsMark m.Semicolon second → NextSpells (suc (suc depth)) next ns
        → IsMark m.CloseParen right → StmtSpells (suc depth) y os
        → StmtSpells depth (s.For head.span.at init test next y)
        (mark depth head ∷ mark depth left ∷ (is ++ mark (suc depth) first
        ∷ (ms ++ mark (suc depth) second ∷ (ns ++ mark (suc depth) right ∷ os))))
    break : (depth : ℕ) (t semicolon : Token) → IsWord w.Break t → IsMark m.Semicolon semicolon
        → StmtSpells depth (s.Break t.span.at) (mark depth t ∷ mark depth semicolon ∷ [])
    continue : (depth : ℕ) (t semicolon : Token) → IsWord w.Continue t → IsMark m.Semicolon semicolon
        → StmtSpells depth (s.Continue t.span.at) (mark depth t ∷ mark depth semicolon ∷ [])
    -- `return [ expr ] ;`
    return : (depth : ℕ) (t semicolon : Token) (value : Option Expr) (ms : List Marked) → IsWord w.Return t → TestSpells depth value ms
        → IsMark m.Semicolon semicolon
        → StmtSpells depth (s.Return t.span.at value) (mark depth t ∷ (ms ++ mark depth semicolon ∷ []))
    -- `do block finish ;`
    do_plain : (depth inner : ℕ) (head finish semicolon : Token) (body : List Stmt) (ms : List Marked) → IsWord w.Do head
        → BlockSpells depth inner body ms → IsWord w.Finish finish → IsMark m.Semicolon semicolon
        → StmtSpells depth (s.Do head.span.at None body) (mark depth head ∷ (ms ++ mark depth finish ∷ mark depth semicolon ∷ []))
    -- `NAME : do block finish ;`
    do_labelled : (depth inner : ℕ) (named colon head finish semicolon : Token) (label : List ℕ) (body : List Stmt) (ms : List Marked)
        → IsName label named → IsMark m.Colon colon → IsWord w.Do head → BlockSpells depth inner body ms → IsWord w.Finish finish
        → IsMark m.Semicolon semicolon
        → StmtSpells depth (s.Do named.span.at (Some label) body)
        (mark depth named ∷ mark depth colon ∷ mark depth head ∷ (ms ++ mark depth finish ∷ mark depth semicolon ∷ []))
    async : (depth : ℕ) (t : Token) (y : Stmt) (ms : List Marked) → IsWord w.Async t → StmtSpells (suc depth) y ms
        → StmtSpells depth (s.Async t.span.at y) (mark depth t ∷ ms)
    cancel : (depth : ℕ) (t named semicolon : Token) (label : List ℕ) → IsWord w.Cancel t → IsName label named
        → IsMark m.Semicolon semicolon
        → StmtSpells depth (s.Cancel t.span.at label) (mark depth t ∷ mark depth named ∷ mark depth semicolon ∷ [])
    yield : (depth : ℕ) (t semicolon : Token) → IsWord w.Yield t → IsMark m.Semicolon semicolon
        → StmtSpells depth (s.Yield t.span.at) (mark depth t ∷ mark depth semicolon ∷ [])

  -- `{ { decl | stmt } }` at a place: its braces have the given depth, and what stands between them is one deeper
  pub data BlockSpells : ℕ → ℕ → List Stmt → List Marked → Type 0 where
    braces : (depth : ℕ) (left right : Token) (body : List Stmt) (ms : List Marked) → IsMark m.OpenBrace left
        → EntriesSpell (suc depth) body ms → IsMark m.CloseBrace right
        → BlockSpells depth left.span.at body (mark depth left ∷ (ms ++ mark depth right ∷ []))

  pub data EntriesSpell : ℕ → List Stmt → List Marked → Type 0 where
    no_entry : (depth : ℕ) → EntriesSpell depth [] []
    decl_entry : (depth : ℕ) (x : Stmt) (xs : List Stmt) (ms ns : List Marked) → DeclSpells depth x ms → EntriesSpell depth xs ns
        → EntriesSpell depth (x ∷ xs) (ms ++ ns)
    stmt_entry : (depth : ℕ) (x : Stmt) (xs : List Stmt) (ms ns : List Marked) → StmtSpells depth x ms → EntriesSpell depth xs ns
        → EntriesSpell depth (x ∷ xs) (ms ++ ns)
