-- What a tree is like that some text spells: a chain has a link, what a value is put into is a place, what stands alone is a call or an
-- operation, and a declaration stands directly in a body or first in a `for`. The types of the tree allow more.
use Rattle.std.specs.Prelude.{ℕ, ℤ, List, [], ◌∷◌, Option, Some, None}
use Rattle.ac_tree.specs.declared.expr.Constant.{Constant}
use Rattle.ac_tree.specs.declared.expr.UnaryOp.{UnaryOp}
use Rattle.ac_tree.specs.declared.expr.Expr.{Expr}
use Rattle.ac_tree.specs.declared.expr.Expr.TheVariants as e
use Rattle.ac_tree.specs.declared.expr.Link.{Link}
use Rattle.ac_tree.specs.declared.stmt.Stmt.{Stmt}
use Rattle.ac_tree.specs.declared.stmt.Stmt.TheVariants as s
use Rattle.ac_tree.specs.declared.item.Item.{Item}
use Rattle.ac_tree.specs.declared.item.Item.TheVariants as i
use Rattle.ac_tree.specs.declared.item.Function.{Function}
use Rattle.ac_tree.specs.declared.item.Program.{Program}

-- ---- expressions

mutual
  pub data IsExpr : Expr → Type 0 where
    number : (at : ℕ) (value : ℤ) → IsExpr (e.Number at value)
    constant : (at : ℕ) (which : Constant) → IsExpr (e.Const at which)
    place : (x : Expr) → IsPlace x → IsExpr x
    call : (x : Expr) → IsCall x → IsExpr x
    group : (at : ℕ) (inner : Expr) → IsExpr inner → IsExpr (e.Group at inner)
    unary : (at : ℕ) (op : UnaryOp) (inner : Expr) → IsExpr inner → IsExpr (e.Unary at op inner)
    chain : (at level : ℕ) (first : Expr) (link : Link) (rest : List Link) → IsExpr first → AreLinks (link ∷ rest)
        → IsExpr (e.Chain at level first (link ∷ rest))

  pub data AreLinks : List Link → Type 0 where
    no_link : AreLinks []
    one_link : (link : Link) (rest : List Link) → IsExpr link.operand → AreLinks rest → AreLinks (link ∷ rest)

  -- a variable or an element of an array
  pub data IsPlace : Expr → Type 0 where
    variable : (at : ℕ) (name : List ℕ) → IsPlace (e.Name at name)
    element : (at : ℕ) (name : List ℕ) (index : Expr) → IsExpr index → IsPlace (e.Index at name index)

  -- a call of a function, or an operation
  pub data IsCall : Expr → Type 0 where
    function_call : (at : ℕ) (name : List ℕ) (args : List Expr) → AreExprs args → IsCall (e.Call at name args)
    send : (at : ℕ) (channel : List ℕ) (value : Expr) → IsExpr value → IsCall (e.Send at channel value)
    recv : (at : ℕ) (channel : List ℕ) (place : Expr) → IsPlace place → IsCall (e.Recv at channel place)
    read : (at : ℕ) (file : List ℕ) (from len : Expr) (array : List ℕ) → IsExpr from → IsExpr len → IsCall (e.Read at file from len array)
    write : (at : ℕ) (file : List ℕ) (from len : Expr) (array : List ℕ) → IsExpr from → IsExpr len
        → IsCall (e.Write at file from len array)

  pub data AreExprs : List Expr → Type 0 where
    no_expr : AreExprs []
    one_expr : (x : Expr) (xs : List Expr) → IsExpr x → AreExprs xs → AreExprs (x ∷ xs)

-- an expression that may be left out
pub data IsValue : Option Expr → Type 0 where
  no_value : IsValue None
  some_value : (x : Expr) → IsExpr x → IsValue (Some x)

-- ---- statements

pub data IsDeclaration : Stmt → Type 0 where
  int : (at : ℕ) (name : List ℕ) (value : Option Expr) → IsValue value → IsDeclaration (s.Int at name value)
  array : (at : ℕ) (name : List ℕ) (size : ℤ) → IsDeclaration (s.Array at name size)

pub data IsAssignment : Stmt → Type 0 where
  assign : (at : ℕ) (place value : Expr) → IsPlace place → IsExpr value → IsAssignment (s.Assign at place value)

-- the first part of a `for`: an assignment, or an int with its value
pub data IsFirst : Option Stmt → Type 0 where
  no_first : IsFirst None
  first_assigns : (x : Stmt) → IsAssignment x → IsFirst (Some x)
  first_declares : (at : ℕ) (name : List ℕ) (value : Expr) → IsExpr value → IsFirst (Some (s.Int at name (Some value)))

-- and its third part
pub data IsNext : Option Stmt → Type 0 where
  no_next : IsNext None
  next_assigns : (x : Stmt) → IsAssignment x → IsNext (Some x)

mutual
  -- a statement, which declares nothing where it stands
  pub data IsStmt : Stmt → Type 0 where
    block : (at : ℕ) (body : List Stmt) → AreEntries body → IsStmt (s.Block at body)
    empty : (at : ℕ) → IsStmt (s.Empty at)
    assignment : (x : Stmt) → IsAssignment x → IsStmt x
    call_stmt : (at : ℕ) (call : Expr) → IsCall call → IsStmt (s.Call at call)
    print : (at : ℕ) (format : List ℕ) (args : List Expr) → AreExprs args → IsStmt (s.Print at format args)
    if_alone : (at : ℕ) (test : Expr) (body : Stmt) → IsExpr test → IsStmt body → IsStmt (s.If at test body None)
    if_else : (at : ℕ) (test : Expr) (body other : Stmt) → IsExpr test → IsStmt body → IsStmt other
        → IsStmt (s.If at test body (Some other))
    while : (at : ℕ) (test : Expr) (body : Stmt) → IsExpr test → IsStmt body → IsStmt (s.While at test body)
    for : (at : ℕ) (init : Option Stmt) (test : Option Expr) (next : Option Stmt) (body : Stmt) → IsFirst init → IsValue test
        → IsNext next → IsStmt body → IsStmt (s.For at init test next body)
    break : (at : ℕ) → IsStmt (s.Break at)
    continue : (at : ℕ) → IsStmt (s.Continue at)
    return : (at : ℕ) (value : Option Expr) → IsValue value → IsStmt (s.Return at value)
    do_finish : (at : ℕ) (label : Option (List ℕ)) (body : List Stmt) → AreEntries body → IsStmt (s.Do at label body)
    async : (at : ℕ) (body : Stmt) → IsStmt body → IsStmt (s.Async at body)
    cancel : (at : ℕ) (label : List ℕ) → IsStmt (s.Cancel at label)
    yield : (at : ℕ) → IsStmt (s.Yield at)

  -- what stands directly in a body
  pub data AreEntries : List Stmt → Type 0 where
    no_entry : AreEntries []
    declares : (x : Stmt) (xs : List Stmt) → IsDeclaration x → AreEntries xs → AreEntries (x ∷ xs)
    does : (x : Stmt) (xs : List Stmt) → IsStmt x → AreEntries xs → AreEntries (x ∷ xs)

-- ---- programs

abbrev pub IsItem : Item → Type 0
IsItem (i.Function f) = AreEntries f.body
IsItem _ = Unit {0}

abbrev pub AreItems : List Item → Type 0
AreItems [] = Unit {0}
AreItems (x ∷ xs) = IsItem x × AreItems xs

abbrev pub HasShape : Program → Type 0
HasShape p = AreItems p.items
