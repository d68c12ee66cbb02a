-- What each form of a program weighs: one equation for each form of expression and of statement, by which other proofs rewrite a weight.
-- Each is the law of folds at that form, where the step of the weight computes. A chain needs an induction on its links besides, and `if`
-- and `for` a case for each part that may be left out.
use Rattle.std.proofs.Common.{◌≡◌, ℕ, ◌+◌, List, [], ◌∷◌, Option, Some, None, refl, ap, ◌∙◌}
use Rattle.std.specs.Prelude.{ℤ, map}
use Rattle.ac_tree.specs.declared.expr.Expr.{Expr}
use Rattle.ac_tree.specs.declared.expr.Expr.TheVariants as e
use Rattle.ac_tree.specs.declared.expr.Link.{Link, fold-Link}
use Rattle.ac_tree.specs.declared.expr.Constant.{Constant}
use Rattle.ac_tree.specs.declared.expr.UnaryOp.{UnaryOp}
use Rattle.ac_tree.specs.declared.stmt.Stmt.{Stmt}
use Rattle.ac_tree.specs.declared.stmt.Stmt.TheVariants as s
use Rattle.ac_tree.specs.Weight.{total, expr_weigh, link_weigh, expr_weight, links_weight, exprs_weight, value_weight, label_weight, stmt_weigh, stmt_weight, some_weight, body_weight}
use Rattle.ac_tree.proofs.Folds.{expr_folds, link_folds, stmt_folds}

-- ---- expressions

pub number_weighs : (at : ℕ) (value : ℤ) → expr_weight (e.Number at value) ≡ 1
number_weighs at value = expr_folds expr_weigh link_weigh _ (e.rolls-Number at value)

pub const_weighs : (at : ℕ) (which : Constant) → expr_weight (e.Const at which) ≡ 1
const_weighs at which = expr_folds expr_weigh link_weigh _ (e.rolls-Const at which)

pub name_weighs : (at : ℕ) (name : List ℕ) → expr_weight (e.Name at name) ≡ 1
name_weighs at name = expr_folds expr_weigh link_weigh _ (e.rolls-Name at name)

pub index_weighs : (at : ℕ) (name : List ℕ) (index : Expr) → expr_weight (e.Index at name index) ≡ 3 + expr_weight index
index_weighs at name index = expr_folds expr_weigh link_weigh _ (e.rolls-Index at name index)

pub group_weighs : (at : ℕ) (inner : Expr) → expr_weight (e.Group at inner) ≡ 2 + expr_weight inner
group_weighs at inner = expr_folds expr_weigh link_weigh _ (e.rolls-Group at inner)

pub unary_weighs : (at : ℕ) (op : UnaryOp) (inner : Expr) → expr_weight (e.Unary at op inner) ≡ 1 + expr_weight inner
unary_weighs at op inner = expr_folds expr_weigh link_weigh _ (e.rolls-Unary at op inner)

pub send_weighs : (at : ℕ) (channel : List ℕ) (value : Expr) → expr_weight (e.Send at channel value) ≡ 5 + expr_weight value
send_weighs at channel value = expr_folds expr_weigh link_weigh _ (e.rolls-Send at channel value)

pub recv_weighs : (at : ℕ) (channel : List ℕ) (place : Expr) → expr_weight (e.Recv at channel place) ≡ 6 + expr_weight place
recv_weighs at channel place = expr_folds expr_weigh link_weigh _ (e.rolls-Recv at channel place)

pub read_weighs : (at : ℕ) (file : List ℕ) (from len : Expr) (array : List ℕ) → expr_weight (e.Read at file from len array) ≡ 8 + (expr_weight from + expr_weight len)
read_weighs at file from len array = expr_folds expr_weigh link_weigh _ (e.rolls-Read at file from len array)

pub write_weighs : (at : ℕ) (file : List ℕ) (from len : Expr) (array : List ℕ) → expr_weight (e.Write at file from len array) ≡ 8 + (expr_weight from + expr_weight len)
write_weighs at file from len array = expr_folds expr_weigh link_weigh _ (e.rolls-Write at file from len array)

pub call_weighs : (at : ℕ) (name : List ℕ) (args : List Expr) → expr_weight (e.Call at name args) ≡ 3 + exprs_weight args
call_weighs at name args = expr_folds expr_weigh link_weigh _ (e.rolls-Call at name args)

link_is : (l : Link) → fold-Link ℕ ℕ expr_weigh link_weigh l ≡ 1 + expr_weight l.operand
link_is l = link_folds expr_weigh link_weigh l

links_total : (ls : List Link) → total (map (fold-Link ℕ ℕ expr_weigh link_weigh) ls) ≡ links_weight ls
links_total [] = refl
links_total (l ∷ ls) = ap (λ n. n + total (map (fold-Link ℕ ℕ expr_weigh link_weigh) ls)) (link_is l) ∙ ap (λ n. (1 + expr_weight l.operand) + n) (links_total ls)

pub chain_weighs : (at level : ℕ) (first : Expr) (rest : List Link) → expr_weight (e.Chain at level first rest) ≡ expr_weight first + links_weight rest
chain_weighs at level first rest =
    expr_folds expr_weigh link_weigh _ (e.rolls-Chain at level first rest) ∙ ap (λ n. expr_weight first + n) (links_total rest)

-- ---- statements

pub empty_weighs : (at : ℕ) → stmt_weight (s.Empty at) ≡ 1
empty_weighs at = stmt_folds stmt_weigh _ (s.rolls-Empty at)

pub int_weighs : (at : ℕ) (name : List ℕ) (value : Option Expr) → stmt_weight (s.Int at name value) ≡ 3 + value_weight value
int_weighs at name value = stmt_folds stmt_weigh _ (s.rolls-Int at name value)

pub array_weighs : (at : ℕ) (name : List ℕ) (size : ℤ) → stmt_weight (s.Array at name size) ≡ 6
array_weighs at name size = stmt_folds stmt_weigh _ (s.rolls-Array at name size)

pub assign_weighs : (at : ℕ) (place value : Expr) → stmt_weight (s.Assign at place value) ≡ 1 + (expr_weight place + expr_weight value)
assign_weighs at place value = stmt_folds stmt_weigh _ (s.rolls-Assign at place value)

pub call_stmt_weighs : (at : ℕ) (call : Expr) → stmt_weight (s.Call at call) ≡ 1 + expr_weight call
call_stmt_weighs at call = stmt_folds stmt_weigh _ (s.rolls-Call at call)

pub print_weighs : (at : ℕ) (format : List ℕ) (args : List Expr) → stmt_weight (s.Print at format args) ≡ 5 + exprs_weight args
print_weighs at format args = stmt_folds stmt_weigh _ (s.rolls-Print at format args)

pub while_weighs : (at : ℕ) (test : Expr) (body : Stmt) → stmt_weight (s.While at test body) ≡ 3 + (expr_weight test + stmt_weight body)
while_weighs at test body = stmt_folds stmt_weigh _ (s.rolls-While at test body)

pub break_weighs : (at : ℕ) → stmt_weight (s.Break at) ≡ 2
break_weighs at = stmt_folds stmt_weigh _ (s.rolls-Break at)

pub continue_weighs : (at : ℕ) → stmt_weight (s.Continue at) ≡ 2
continue_weighs at = stmt_folds stmt_weigh _ (s.rolls-Continue at)

pub return_weighs : (at : ℕ) (value : Option Expr) → stmt_weight (s.Return at value) ≡ 2 + value_weight value
return_weighs at value = stmt_folds stmt_weigh _ (s.rolls-Return at value)

pub async_weighs : (at : ℕ) (body : Stmt) → stmt_weight (s.Async at body) ≡ 1 + stmt_weight body
async_weighs at body = stmt_folds stmt_weigh _ (s.rolls-Async at body)

pub cancel_weighs : (at : ℕ) (label : List ℕ) → stmt_weight (s.Cancel at label) ≡ 3
cancel_weighs at label = stmt_folds stmt_weigh _ (s.rolls-Cancel at label)

pub yield_weighs : (at : ℕ) → stmt_weight (s.Yield at) ≡ 2
yield_weighs at = stmt_folds stmt_weigh _ (s.rolls-Yield at)

pub block_weighs : (at : ℕ) (body : List Stmt) → stmt_weight (s.Block at body) ≡ 2 + body_weight body
block_weighs at body = stmt_folds stmt_weigh _ (s.rolls-Block at body)

pub do_weighs : (at : ℕ) (label : Option (List ℕ)) (body : List Stmt) → stmt_weight (s.Do at label body) ≡ 5 + (label_weight label + body_weight body)
do_weighs at label body = stmt_folds stmt_weigh _ (s.rolls-Do at label body)

pub if_weighs : (at : ℕ) (test : Expr) (body : Stmt) (other : Option Stmt) → stmt_weight (s.If at test body other) ≡ 3 + (expr_weight test + (stmt_weight body + some_weight other))
if_weighs at test body None = stmt_folds stmt_weigh _ (s.rolls-If at test body None)
if_weighs at test body (Some x) = stmt_folds stmt_weigh _ (s.rolls-If at test body (Some x))

pub for_weighs : (at : ℕ) (init : Option Stmt) (test : Option Expr) (next : Option Stmt) (body : Stmt) →
    stmt_weight (s.For at init test next body) ≡ 5 + (some_weight init + (value_weight test + (some_weight next + stmt_weight body)))
for_weighs at None test None body = stmt_folds stmt_weigh _ (s.rolls-For at None test None body)
for_weighs at None test (Some y) body = stmt_folds stmt_weigh _ (s.rolls-For at None test (Some y) body)
for_weighs at (Some x) test None body = stmt_folds stmt_weigh _ (s.rolls-For at (Some x) test None body)
for_weighs at (Some x) test (Some y) body = stmt_folds stmt_weigh _ (s.rolls-For at (Some x) test (Some y) body)
