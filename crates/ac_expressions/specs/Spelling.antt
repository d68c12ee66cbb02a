-- The grammar of expressions: which tokens spell a tree, each token with its depth.
--
-- The depth of a token is the sum of three numbers:
--   the number of statements that contain it, where the body block of a function counts as a statement, and so does each declaration in a
--   body and each first or third part of a `for`; a `do` statement counts once, and its block is no statement of its own;
--   the number of `(` and `[` that are open before it;
--   the number of unary operators whose operand contains it.
-- So a `(` has the depth of what stands around it, and what stands between it and its `)` is one deeper. The `)` is one deeper too, since
-- its `(` is still open before it. The same holds of `[` and `]`.
--
-- Each relation is given the depth of the first token of its part, and says from it how deep the others are. How deep a token may be is no
-- matter of the grammar. A node's place is the first byte of its first token.
use Rattle.std.specs.Prelude.{◌≡◌, ℕ, ℤ, ◌+◌, suc, List, [], ◌∷◌, ◌++◌, Option, Some, None}
use Rattle.ac_tree.specs.declared.expr.Expr.{Expr}
use Rattle.ac_tree.specs.declared.expr.Expr.TheVariants as e
use Rattle.ac_tree.specs.declared.expr.Link.{Link}
use Rattle.ac_tree.specs.declared.expr.Constant.{Constant}
use Rattle.ac_tree.specs.declared.expr.Constant.TheVariants as c
use Rattle.ac_tree.specs.declared.expr.UnaryOp.{UnaryOp}
use Rattle.ac_tree.specs.declared.expr.UnaryOp.TheVariants as u
use Rattle.ac_tree.specs.declared.expr.BinaryOp.{BinaryOp}
use Rattle.ac_tree.specs.declared.expr.BinaryOp.TheVariants as b
use Rattle.ac_lexer.specs.declared.token.Word.{Word}
use Rattle.ac_lexer.specs.declared.token.Word.TheVariants as w
use Rattle.ac_lexer.specs.declared.token.Mark.{Mark}
use Rattle.ac_lexer.specs.declared.token.Mark.TheVariants as m
use Rattle.ac_lexer.specs.declared.token.Token.{Token}
use Rattle.reading_laws.specs.Marks.{Marked, mark, IsWord, IsMark, IsName, IsNumber}

-- the level of a binary operator, and what it does
abbrev pub operator_of : Mark → Option (ℕ × BinaryOp)
operator_of m.OrOr = Some (1, b.Or)
operator_of m.AndAnd = Some (2, b.And)
operator_of m.Bar = Some (3, b.BitOr)
operator_of m.Caret = Some (4, b.BitXor)
operator_of m.And = Some (5, b.BitAnd)
operator_of m.EqEq = Some (6, b.Eq)
operator_of m.NotEq = Some (6, b.Ne)
operator_of m.Less = Some (7, b.Less)
operator_of m.LessEq = Some (7, b.LessEq)
operator_of m.More = Some (7, b.More)
operator_of m.MoreEq = Some (7, b.MoreEq)
operator_of m.Shl = Some (8, b.Shl)
operator_of m.Shr = Some (8, b.Shr)
operator_of m.Plus = Some (9, b.Add)
operator_of m.Minus = Some (9, b.Sub)
operator_of m.Star = Some (10, b.Mul)
operator_of m.Slash = Some (10, b.Div)
operator_of m.Percent = Some (10, b.Rem)
operator_of _ = None

-- the unary operators
abbrev pub unary_of : Mark → Option UnaryOp
unary_of m.Minus = Some u.Neg
unary_of m.Not = Some u.Not
unary_of m.Tilde = Some u.Flip
unary_of _ = None

-- the named results
abbrev pub constant_of : Word → Option Constant
constant_of w.Ok = Some c.Ok
constant_of w.Cancelled = Some c.Cancelled
constant_of w.Fault = Some c.Fault
constant_of _ = None

abbrev pub link : BinaryOp → Expr → Link
link op operand = record { op = op; operand = operand }

mutual
  -- An expression of a level, 1 to 11. A primary, and a unary operator with its operand, are of level 11. A chain is two or more
  -- expressions of the next level, grouped to the left, with operators of its level between them; one alone is of this level too.
  pub data ExprSpells : ℕ → ℕ → Expr → List Marked → Type 0 where
    number : (depth : ℕ) (n : ℤ) (t : Token) → IsNumber n t → ExprSpells depth 11 (e.Number t.span.at n) (mark depth t ∷ [])
    constant : (depth : ℕ) (word : Word) (which : Constant) (t : Token) → IsWord word t → constant_of word ≡ Some which
        → ExprSpells depth 11 (e.Const t.span.at which) (mark depth t ∷ [])
    place : (depth : ℕ) (x : Expr) (ms : List Marked) → PlaceSpells depth x ms → ExprSpells depth 11 x ms
    call : (depth : ℕ) (x : Expr) (ms : List Marked) → CallSpells depth x ms → ExprSpells depth 11 x ms
    -- `( expr )`
    group : (depth : ℕ) (left right : Token) (x : Expr) (ms : List Marked) → IsMark m.OpenParen left → ExprSpells (suc depth) 1 x ms
        → IsMark m.CloseParen right
        → ExprSpells depth 11 (e.Group left.span.at x) (mark depth left ∷ (ms ++ mark (suc depth) right ∷ []))
    unary : (depth : ℕ) (t : Token) (sign : Mark) (op : UnaryOp) (x : Expr) (ms : List Marked) → IsMark sign t → unary_of sign ≡ Some op
        → ExprSpells (suc depth) 11 x ms
        → ExprSpells depth 11 (e.Unary t.span.at op x) (mark depth t ∷ ms)
    alone : (depth level : ℕ) (x : Expr) (ms : List Marked) → ExprSpells depth (level + 1) x ms → ExprSpells depth level x ms
    chain : (depth level : ℕ) (first : Expr) (l : Link) (ls : List Link) (head : Token) (ms ns : List Marked)
        → ExprSpells depth (level + 1) first (mark depth head ∷ ms) → LinksSpell depth level (l ∷ ls) ns
        → ExprSpells depth level (e.Chain head.span.at level first (l ∷ ls)) (mark depth head ∷ (ms ++ ns))

  -- the operators of a chain, each with its right operand
  pub data LinksSpell : ℕ → ℕ → List Link → List Marked → Type 0 where
    no_link : (depth level : ℕ) → LinksSpell depth level [] []
    one_link : (depth level : ℕ) (t : Token) (sign : Mark) (op : BinaryOp) (x : Expr) (ls : List Link) (ms ns : List Marked)
        → IsMark sign t → operator_of sign ≡ Some (level, op) → ExprSpells depth (level + 1) x ms → LinksSpell depth level ls ns
        → LinksSpell depth level (link op x ∷ ls) (mark depth t ∷ (ms ++ ns))

  -- `NAME` or `NAME [ expr ]`
  pub data PlaceSpells : ℕ → Expr → List Marked → Type 0 where
    variable : (depth : ℕ) (t : Token) (name : List ℕ) → IsName name t → PlaceSpells depth (e.Name t.span.at name) (mark depth t ∷ [])
    element : (depth : ℕ) (t left right : Token) (name : List ℕ) (x : Expr) (ms : List Marked) → IsName name t → IsMark m.OpenBracket left
        → ExprSpells (suc depth) 1 x ms → IsMark m.CloseBracket right
        → PlaceSpells depth (e.Index t.span.at name x) (mark depth t ∷ mark depth left ∷ (ms ++ mark (suc depth) right ∷ []))

  -- a call of a function, or an operation
  pub data CallSpells : ℕ → Expr → List Marked → Type 0 where
    -- `NAME ( args )`
    function_call : (depth : ℕ) (t left right : Token) (name : List ℕ) (args : List Expr) (ms : List Marked) → IsName name t
        → IsMark m.OpenParen left → ArgsSpell (suc depth) args ms → IsMark m.CloseParen right
        → CallSpells depth (e.Call t.span.at name args) (mark depth t ∷ mark depth left ∷ (ms ++ mark (suc depth) right ∷ []))
    -- `Send ( NAME , expr )`
    send : (depth : ℕ) (t left named comma right : Token) (channel : List ℕ) (x : Expr) (ms : List Marked)
        → IsWord w.Send t → IsMark m.OpenParen left → IsName channel named → IsMark m.Comma comma → ExprSpells (suc depth) 1 x ms
        → IsMark m.CloseParen right
        → CallSpells depth (e.Send t.span.at channel x)
        (mark depth t ∷ mark depth left ∷ mark (suc depth) named ∷ mark (suc depth) comma ∷ (ms ++ mark (suc depth) right ∷ []))
    -- `Recv ( NAME , & place )`
    recv : (depth : ℕ) (t left named comma reference right : Token) (channel : List ℕ) (x : Expr) (ms : List Marked)
        → IsWord w.Recv t → IsMark m.OpenParen left → IsName channel named → IsMark m.Comma comma → IsMark m.And reference
        → PlaceSpells (suc depth) x ms → IsMark m.CloseParen right
        → CallSpells depth (e.Recv t.span.at channel x)
        (mark depth t ∷ mark depth left ∷ mark (suc depth) named ∷ mark (suc depth) comma ∷ mark (suc depth) reference
        ∷ (ms ++ mark (suc depth) right ∷ []))
    -- `Read ( NAME , expr , expr , NAME )`
    read : (depth : ℕ) (t left named comma second third into right : Token) (file array : List ℕ) (from len : Expr) (ms ns : List Marked)
        → IsWord w.Read t → IsMark m.OpenParen left → IsName file named → IsMark m.Comma comma → ExprSpells (suc depth) 1 from ms
        → IsMark m.Comma second → ExprSpells (suc depth) 1 len ns → IsMark m.Comma third
        → IsName array into → IsMark m.CloseParen right
        → CallSpells depth (e.Read t.span.at file from len array)
        (mark depth t ∷ mark depth left ∷ mark (suc depth) named ∷ mark (suc depth) comma
        ∷ (ms ++ mark (suc depth) second ∷ (ns ++ mark (suc depth) third ∷ mark (suc depth) into ∷ mark (suc depth) right ∷ [])))
    -- `Write ( NAME , expr , expr , NAME )`
    write : (depth : ℕ) (t left named comma second third into right : Token) (file array : List ℕ) (from len : Expr) (ms ns : List Marked)
        → IsWord w.Write t → IsMark m.OpenParen left → IsName file named → IsMark m.Comma comma → ExprSpells (suc depth) 1 from ms
        → IsMark m.Comma second → ExprSpells (suc depth) 1 len ns → IsMark m.Comma third
        → IsName array into → IsMark m.CloseParen right
        → CallSpells depth (e.Write t.span.at file from len array)
        (mark depth t ∷ mark depth left ∷ mark (suc depth) named ∷ mark (suc depth) comma
        ∷ (ms ++ mark (suc depth) second ∷ (ns ++ mark (suc depth) third ∷ mark (suc depth) into ∷ mark (suc depth) right ∷ [])))

  -- `[ expr { , expr } ]`
  pub data ArgsSpell : ℕ → List Expr → List Marked → Type 0 where
    no_args : (depth : ℕ) → ArgsSpell depth [] []
    some_args : (depth : ℕ) (x : Expr) (xs : List Expr) (ms ns : List Marked) → ExprSpells depth 1 x ms → MoreSpell depth xs ns
        → ArgsSpell depth (x ∷ xs) (ms ++ ns)

  -- `{ , expr }`
  pub data MoreSpell : ℕ → List Expr → List Marked → Type 0 where
    no_more : (depth : ℕ) → MoreSpell depth [] []
    one_more : (depth : ℕ) (comma : Token) (x : Expr) (xs : List Expr) (ms ns : List Marked) → IsMark m.Comma comma
        → ExprSpells depth 1 x ms → MoreSpell depth xs ns
        → MoreSpell depth (x ∷ xs) (mark depth comma ∷ (ms ++ ns))
