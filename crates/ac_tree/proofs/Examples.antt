-- What small programs weigh, and which shape they have. A weight is that of the tokens of the text that stands above it, but for those that
-- it leaves out, and is had by rewriting with WeightForms. That a tree has no shape is shown by a test that each shape passes, which is
-- itself a fold: `1 = 1;` fails it, since what it puts a value into is no place.
use Rattle.std.proofs.Common.{◌≡◌, refl, ◌∙◌, ℕ, zero, suc, ◌<◌, ◌≤◌, pos, List, [], ◌∷◌, map, codes, None, Some, Bool, true, false, arith}
use Rattle.std.specs.Prelude.{replicate}
use Rattle.ac_tree.specs.declared.expr.Expr.{Expr, fold-Expr}
use Rattle.ac_tree.specs.declared.expr.Expr.TheOpen.{Expr-F, Link-F}
use Rattle.ac_tree.specs.declared.expr.Expr.TheVariants as e
use Rattle.ac_tree.specs.declared.expr.Constant.TheVariants as c
use Rattle.ac_tree.specs.declared.expr.Link.{Link}
use Rattle.ac_tree.specs.declared.expr.BinaryOp.{BinaryOp}
use Rattle.ac_tree.specs.declared.expr.BinaryOp.TheVariants as b
use Rattle.ac_tree.specs.declared.expr.UnaryOp.TheVariants as u
use Rattle.ac_tree.specs.declared.stmt.Stmt.{Stmt}
use Rattle.ac_tree.specs.declared.stmt.Stmt.TheFolds.{fold-Stmt}
use Rattle.ac_tree.specs.declared.stmt.Stmt.TheVariants as s
use Rattle.ac_tree.specs.declared.stmt.Stmt.TheOpen.{Stmt-F}
use Rattle.ac_tree.specs.declared.item.Item.{Item}
use Rattle.ac_tree.specs.declared.item.Item.TheVariants as i
use Rattle.ac_tree.specs.declared.item.Param.{Param}
use Rattle.ac_tree.specs.declared.item.Program.{Program}
use Rattle.ac_tree.specs.Shape.{IsExpr, number, place, chain, AreLinks, no_link, one_link, IsPlace, variable, element, function_call, no_expr, one_expr, some_value, int}
use Rattle.ac_tree.specs.Shape.{IsAssignment, assign, IsFirst, first_declares, IsNext, next_assigns, IsStmt, assignment, call_stmt, AreEntries, no_entry, declares, does}
use Rattle.ac_tree.specs.Shape.{IsDeclaration, array, block, empty as empty_stmt, print, if_alone, if_else, while, for, break, continue, return, do_finish, async, cancel, yield, IsItem}
use Rattle.ac_tree.specs.Shape.{AreItems, HasShape}
use Rattle.ac_tree.specs.Weight.{total, total_some, expr_weigh, link_weigh, expr_weight, exprs_weight, value_weight, label_weight, stmt_weigh, stmt_weight, body_weight}
use Rattle.ac_tree.specs.Weight.{param_weight, params_weight, item_weight, items_weight, IsSmall}
use Rattle.ac_tree.proofs.Folds.{expr_folds, stmt_folds}
use Rattle.ac_tree.proofs.WeightForms.{number_weighs, const_weighs, name_weighs, index_weighs, group_weighs, unary_weighs, send_weighs, recv_weighs, read_weighs, write_weighs, call_weighs}
use Rattle.ac_tree.proofs.WeightForms.{chain_weighs}
use Rattle.ac_tree.proofs.WeightForms.{empty_weighs, int_weighs, array_weighs, assign_weighs, call_stmt_weighs, print_weighs, while_weighs, break_weighs, continue_weighs, return_weighs}
use Rattle.ac_tree.proofs.WeightForms.{async_weighs, cancel_weighs, yield_weighs, block_weighs, do_weighs, if_weighs, for_weighs}

-- ---- expressions

abbrev pub x : Expr
x = e.Name 0 (codes "x")

abbrev pub one : Expr
one = e.Number 0 (pos 1)

abbrev pub link : BinaryOp → Expr → Link
link op operand = record { op = op; operand = operand }

-- 1
pub a_number : expr_weight one ≡ 1
a_number = number_weighs 0 (pos 1)

-- OK
pub a_constant : expr_weight (e.Const 0 c.Ok) ≡ 1
a_constant = const_weighs 0 c.Ok

-- x [ 1 ]
pub an_element : expr_weight (e.Index 0 (codes "x") one) ≡ 4
an_element = simp (index_weighs, number_weighs)

-- - ( 1 )
pub a_sign_and_parentheses : expr_weight (e.Unary 0 u.Neg (e.Group 1 one)) ≡ 4
a_sign_and_parentheses = simp (unary_weighs, group_weighs, number_weighs)

-- 1 + x * 1
pub a_chain : expr_weight (e.Chain 0 9 one (link b.Add (e.Chain 0 10 x (link b.Mul one ∷ [])) ∷ [])) ≡ 5
a_chain = simp (chain_weighs, number_weighs, name_weighs)

-- f ( 1 , x ), of which the comma does not count
pub a_call : expr_weight (e.Call 0 (codes "f") (one ∷ x ∷ [])) ≡ 5
a_call = simp (call_weighs, number_weighs, name_weighs)

-- send ( c , 1 )
pub a_send : expr_weight (e.Send 0 (codes "c") one) ≡ 6
a_send = simp (send_weighs, number_weighs)

-- recv ( c , & x )
pub a_recv : expr_weight (e.Recv 0 (codes "c") x) ≡ 7
a_recv = simp (recv_weighs, name_weighs)

-- read ( f , 1 , x , h )
pub a_read : expr_weight (e.Read 0 (codes "f") one x (codes "h")) ≡ 10
a_read = simp (read_weighs, number_weighs, name_weighs)

pub a_write : expr_weight (e.Write 0 (codes "f") one x (codes "h")) ≡ 10
a_write = simp (write_weighs, number_weighs, name_weighs)

-- two expressions in a row, without the comma
pub two_expressions : exprs_weight (one ∷ e.Index 0 (codes "x") one ∷ []) ≡ 5
two_expressions = simp (number_weighs, index_weighs)

-- by the weights of the parts: f ( .. , .. ) and read ( f , .. , .. , h ), whose parts weigh 1 and 4; and `+` before a part that weighs 4
pub by_the_parts : expr_weigh (Expr-F.Call 0 (codes "f") (1 ∷ 4 ∷ [])) ∷ expr_weigh (Expr-F.Read 0 (codes "f") 1 4 (codes "h")) ∷ link_weigh (record { op = b.Add; operand = 4 }) ∷ [] ≡ 8 ∷ 13 ∷ 5 ∷ []
by_the_parts = refl

-- ---- statements

-- what may be left out weighs nothing then: a statement, an expression, and a label with its colon
pub left_out : total_some None ∷ total_some (Some 4) ∷ value_weight None ∷ value_weight (Some one) ∷ label_weight None ∷ label_weight (Some (codes "l")) ∷ [] ≡ 0 ∷ 4 ∷ 0 ∷ 1 ∷ 0 ∷ 2 ∷ []
left_out = rw (number_weighs 0 (pos 1)) refl

-- by the weights of the parts: do : l { .. .. } finish ; and { .. .. }, whose parts weigh 1 and 2
pub stmt_by_the_parts : stmt_weigh (Stmt-F.Do 0 (Some (codes "l")) (1 ∷ 2 ∷ [])) ∷ stmt_weigh (Stmt-F.Block 0 (1 ∷ 2 ∷ [])) ∷ [] ≡ 10 ∷ 5 ∷ []
stmt_by_the_parts = refl

abbrev pub empty : Stmt
empty = s.Empty 0

-- { ; }
pub a_block : stmt_weight (s.Block 0 (empty ∷ [])) ≡ 3
a_block = simp (block_weighs, empty_weighs)

-- ; break ;
pub a_body : body_weight (empty ∷ s.Break 0 ∷ []) ≡ 3
a_body = simp (empty_weighs, break_weighs)

-- int x ; and int x = 1 ; of which the `=` does not count
pub an_int : stmt_weight (s.Int 0 (codes "x") None) ≡ 3
an_int = simp (int_weighs)

pub an_int_with_a_value : stmt_weight (s.Int 0 (codes "x") (Some one)) ≡ 4
an_int_with_a_value = simp (int_weighs, number_weighs)

-- int x [ 3 ] ;
pub an_array : stmt_weight (s.Array 0 (codes "x") (pos 3)) ≡ 6
an_array = array_weighs 0 (codes "x") (pos 3)

-- x = 1, of which the semicolon does not count
pub an_assignment : stmt_weight (s.Assign 0 x one) ≡ 3
an_assignment = simp (assign_weighs, name_weighs, number_weighs)

-- f ( ) ;
pub a_called_function : stmt_weight (s.Call 0 (e.Call 0 (codes "f") [])) ≡ 4
a_called_function = simp (call_stmt_weighs, call_weighs)

-- printf ( "%d" , 1 ) ; of which the comma does not count
pub a_print : stmt_weight (s.Print 0 (codes "%d") (one ∷ [])) ≡ 6
a_print = simp (print_weighs, number_weighs)

-- if ( x ) ; and if ( x ) ; else ; of which the `else` does not count
pub an_if : stmt_weight (s.If 0 x empty None) ≡ 5
an_if = simp (if_weighs, name_weighs, empty_weighs)

pub an_if_with_an_else : stmt_weight (s.If 0 x empty (Some empty)) ≡ 6
an_if_with_an_else = simp (if_weighs, name_weighs, empty_weighs)

-- while ( x ) ;
pub a_while : stmt_weight (s.While 0 x empty) ≡ 5
a_while = simp (while_weighs, name_weighs, empty_weighs)

-- for ( ; ; ) ; and for ( x = 1 ; x ; x = 1 ) ;
pub a_for_without_parts : stmt_weight (s.For 0 None None None empty) ≡ 6
a_for_without_parts = simp (for_weighs, empty_weighs)

pub a_for : stmt_weight (s.For 0 (Some (s.Assign 0 x one)) (Some x) (Some (s.Assign 0 x one)) empty) ≡ 13
a_for = simp (for_weighs, assign_weighs, name_weighs, number_weighs, empty_weighs)

-- break ; continue ; yield ; return ; return 1 ; cancel l ;
pub two_tokens : stmt_weight (s.Break 0) ∷ stmt_weight (s.Continue 0) ∷ stmt_weight (s.Yield 0) ∷ stmt_weight (s.Return 0 None) ∷ [] ≡ 2 ∷ 2 ∷ 2 ∷ 2 ∷ []
two_tokens = simp (break_weighs, continue_weighs, yield_weighs, return_weighs)

pub three_tokens : stmt_weight (s.Return 0 (Some one)) ∷ stmt_weight (s.Cancel 0 (codes "l")) ∷ [] ≡ 3 ∷ 3 ∷ []
three_tokens = simp (return_weighs, number_weighs, cancel_weighs)

-- do { async ; } finish ; and do : l { } finish ;
pub a_do : stmt_weight (s.Do 0 None (s.Async 0 empty ∷ [])) ≡ 7
a_do = simp (do_weighs, async_weighs, empty_weighs)

pub a_do_with_a_label : stmt_weight (s.Do 0 (Some (codes "l")) []) ≡ 7
a_do_with_a_label = simp (do_weighs)

-- ---- items

-- int x , int x [ ] as parameters
abbrev pub param : Bool → Param
param is_array = record { at = 0; name = codes "x"; is_array = is_array }

pub each_param : param_weight false ∷ param_weight true ∷ [] ≡ 2 ∷ 4 ∷ []
each_param = refl

pub two_params : params_weight (param false ∷ param true ∷ []) ≡ 6
two_params = refl

-- int x ; and int x [ 3 ] ;
pub two_globals : items_weight (i.Global 0 (codes "x") None (pos 0) ∷ i.Global 0 (codes "h") (Some (pos 3)) (pos 0) ∷ []) ≡ 9
two_globals = refl

-- core a ( f ) ;
pub a_core : item_weight (i.Core 0 (codes "a") (codes "f")) ≡ 6
a_core = refl

-- channel c ( a , b , 1 ) ; and file f ( "f" ) ; and core a ( f ) ;
pub declared : items_weight (i.Channel 0 (codes "c") (codes "a") (codes "b") (pos 1) ∷ i.File 0 (codes "f") (codes "f") ∷ i.Core 0 (codes "a") (codes "f") ∷ []) ≡ 22
declared = refl

-- core a ( f ) ; async void f ( ) { ; } of which the `async` does not count
abbrev pub function : List Stmt → Item
function body = i.Function (record { at = 0; is_async = true; gives_int = false; name = codes "f"; params = []; body = body })

pub a_program : items_weight (i.Core 0 (codes "a") (codes "f") ∷ function (empty ∷ []) ∷ []) ≡ 13
a_program = simp (empty_weighs)

-- ---- small programs

abbrev pub program : List Item → Program
program items = record { items = items }

pub the_empty_program_is_small : IsSmall (program [])
the_empty_program_is_small = omega arith

-- a function weighs 6 and its body: 1,048,570 empty statements are small, and more are not
weight_of : (n : ℕ) → total (map stmt_weight (replicate n empty)) ≡ n
weight_of zero = refl
weight_of (suc n) = rw (empty_weighs 0) (let h : total (map stmt_weight (replicate n empty)) ≡ n = weight_of n in omega arith)

pub as_many_are_small : (n : ℕ) → n ≤ 1048570 → IsSmall (program (function (replicate n empty) ∷ []))
as_many_are_small n le = let h : total (map stmt_weight (replicate n empty)) ≡ n = weight_of n in omega arith

pub one_more_is_not : (n : ℕ) → 1048570 < n → IsSmall (program (function (replicate n empty) ∷ [])) → ⊥
one_more_is_not n lt small = let h : total (map stmt_weight (replicate n empty)) ≡ n = weight_of n in omega arith

-- ---- shapes

-- whether an expression is a name or an element, by its form
abbrev place_step : Expr-F Bool (Unit {0}) → Bool
place_step (Expr-F.Name at name) = true
place_step (Expr-F.Index at name index) = true
place_step _ = false

abbrev no_step : Link-F Bool (Unit {0}) → Unit {0}
no_step link = tt

abbrev is_place : Expr → Bool
is_place = fold-Expr Bool (Unit {0}) place_step no_step

place_told : (y : Expr) → IsPlace y → is_place y ≡ true
place_told _ (variable at name) = expr_folds place_step no_step _ (e.rolls-Name at name)
place_told _ (element at name index h) = expr_folds place_step no_step _ (e.rolls-Index at name index)

number_told : is_place one ≡ false
number_told = expr_folds place_step no_step _ (e.rolls-Number 0 (pos 1))

pub a_name_is_a_place : IsPlace x
a_name_is_a_place = variable 0 (codes "x")

pub a_number_is_none : IsPlace one → ⊥
a_number_is_none h = let a = place_told one h in let b = number_told in cc (a, b)

-- x = 1;
pub its_shape : IsAssignment (s.Assign 0 x one)
its_shape = assign 0 x one a_name_is_a_place (number 0 (pos 1))

-- f(1);
pub a_call_stands_alone : IsStmt (s.Call 0 (e.Call 0 (codes "f") (one ∷ [])))
a_call_stands_alone = call_stmt 0 _ (function_call 0 (codes "f") (one ∷ []) (one_expr one [] (number 0 (pos 1)) no_expr))

-- int x = 1; x = 1;
pub a_declaration_stands_in_a_body : AreEntries (s.Int 0 (codes "x") (Some one) ∷ s.Assign 11 x one ∷ [])
a_declaration_stands_in_a_body =
    declares _ _ (int 0 (codes "x") (Some one) (some_value one (number 0 (pos 1))))
    (does _ [] (assignment _ (assign 11 x one a_name_is_a_place (number 0 (pos 1)))) no_entry)

-- the first part of a `for` may declare an int with its value, and the third part is an assignment
pub a_first_part : IsFirst (Some (s.Int 0 (codes "x") (Some one)))
a_first_part = first_declares 0 (codes "x") one (number 0 (pos 1))

pub a_third_part : IsNext (Some (s.Assign 0 x one))
a_third_part = next_assigns _ its_shape

-- a chain has a link
pub a_link : AreLinks (link b.Add x ∷ [])
a_link = one_link _ [] (place x a_name_is_a_place) no_link

pub a_sum_has_one : IsExpr (e.Chain 0 9 one (link b.Add x ∷ []))
a_sum_has_one = chain 0 9 one _ [] (number 0 (pos 1)) a_link

-- ---- programs that have a shape, and one that has none

-- core a(f); async void f() { x = 1; }
pub a_function_has_a_shape : HasShape (program (i.Core 0 (codes "a") (codes "f") ∷ function (s.Assign 0 x one ∷ []) ∷ []))
a_function_has_a_shape = (tt, (does _ [] (assignment _ its_shape) no_entry, tt))

-- whether what a statement puts a value into, if it does, is a place
abbrev kept_step : Stmt-F Bool → Bool
kept_step (Stmt-F.Assign at into value) = is_place into
kept_step _ = true

abbrev keeps_places : Stmt → Bool
keeps_places = fold-Stmt Bool kept_step

assigned_told : (x : Stmt) → IsAssignment x → keeps_places x ≡ true
assigned_told _ (assign at into value p h) = stmt_folds kept_step _ (s.rolls-Assign at into value) ∙ place_told into p

declared_told : (x : Stmt) → IsDeclaration x → keeps_places x ≡ true
declared_told _ (int at name value h) = stmt_folds kept_step _ (s.rolls-Int at name value)
declared_told _ (array at name size) = stmt_folds kept_step _ (s.rolls-Array at name size)

kept_told : (x : Stmt) → IsStmt x → keeps_places x ≡ true
kept_told x (assignment _ h) = assigned_told x h
kept_told _ (block at body h) = stmt_folds kept_step _ (s.rolls-Block at body)
kept_told _ (empty_stmt at) = stmt_folds kept_step _ (s.rolls-Empty at)
kept_told _ (call_stmt at call h) = stmt_folds kept_step _ (s.rolls-Call at call)
kept_told _ (print at format args h) = stmt_folds kept_step _ (s.rolls-Print at format args)
kept_told _ (if_alone at test body h hs) = stmt_folds kept_step _ (s.rolls-If at test body None)
kept_told _ (if_else at test body other h hs hos) = stmt_folds kept_step _ (s.rolls-If at test body (Some other))
kept_told _ (while at test body h hs) = stmt_folds kept_step _ (s.rolls-While at test body)
kept_told _ (for at init test next body a b c d) = stmt_folds kept_step _ (s.rolls-For at init test next body)
kept_told _ (break at) = stmt_folds kept_step _ (s.rolls-Break at)
kept_told _ (continue at) = stmt_folds kept_step _ (s.rolls-Continue at)
kept_told _ (return at value h) = stmt_folds kept_step _ (s.rolls-Return at value)
kept_told _ (do_finish at label body h) = stmt_folds kept_step _ (s.rolls-Do at label body)
kept_told _ (async at body h) = stmt_folds kept_step _ (s.rolls-Async at body)
kept_told _ (cancel at label) = stmt_folds kept_step _ (s.rolls-Cancel at label)
kept_told _ (yield at) = stmt_folds kept_step _ (s.rolls-Yield at)

-- 1 = 1;
abbrev pub into_a_number : Stmt
into_a_number = s.Assign 0 one one

into_a_number_told : keeps_places into_a_number ≡ false
into_a_number_told = stmt_folds kept_step _ (s.rolls-Assign 0 one one) ∙ number_told

first_told : (x : Stmt) (xs : List Stmt) → AreEntries (x ∷ xs) → keeps_places x ≡ true
first_told x xs (declares _ _ h hs) = declared_told x h
first_told x xs (does _ _ h hs) = kept_told x h

pub such_a_function_is_none : IsItem (function (into_a_number ∷ [])) → ⊥
such_a_function_is_none h = let a = first_told into_a_number [] h in let b = into_a_number_told in cc (a, b)

-- wherever it stands
pub nor_are_items_with_it : AreItems (i.Core 0 (codes "a") (codes "f") ∷ function (into_a_number ∷ []) ∷ []) → ⊥
nor_are_items_with_it h = such_a_function_is_none h.1.0

pub nor_has_the_program_a_shape : HasShape (program (function (into_a_number ∷ []) ∷ [])) → ⊥
nor_has_the_program_a_shape h = such_a_function_is_none h.0
