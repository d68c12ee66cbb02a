-- Small expressions with the depths of their tokens, by the cases of the grammar; operators and their levels; and what is read of a few tokens.
-- Readers compute. Most are given `number_expr_at` for the reader of what is inside, so that an example is of one reader alone.
use Rattle.std.proofs.Common.{◌≡◌, refl, ℕ, ◌+◌, pos, true, false, List, [], ◌∷◌, ◌++◌, map, codes, Some, None, Ok, Err, arith}
use Rattle.ac_tree.specs.declared.expr.Expr.{Expr}
use Rattle.ac_tree.specs.declared.expr.Expr.TheVariants as e
use Rattle.ac_tree.specs.declared.expr.Constant.TheVariants as c
use Rattle.ac_tree.specs.declared.expr.BinaryOp.TheVariants as b
use Rattle.ac_tree.specs.declared.expr.UnaryOp.TheVariants as u
use Rattle.ac_lexer.specs.declared.token.Word.{Word}
use Rattle.ac_lexer.specs.declared.token.Word.TheVariants as w
use Rattle.ac_lexer.specs.declared.token.Mark.{Mark}
use Rattle.ac_lexer.specs.declared.token.Mark.TheVariants as m
use Rattle.ac_lexer.specs.declared.token.Kind.TheVariants as k
use Rattle.ac_lexer.specs.declared.token.Token.{Token}
use Rattle.ac_lexer.specs.Spelling.{placed}
use Rattle.reading_laws.specs.Marks.{Marked, mark}
use Rattle.reading_laws.specs.Readers.{unexpected, too_deep, halt, many_at}
use Rattle.reading_laws.specs.Letters.{same_word, same_mark}
use Rattle.ac_expressions.specs.declared.cursor.Halt.TheVariants as h
use Rattle.ac_expressions.specs.declared.forms.Primary.TheVariants as p
use Rattle.ac_expressions.specs.declared.forms.Operation.TheVariants as o
use Rattle.ac_expressions.specs.Spelling.{operator_of, unary_of, constant_of, link, ExprSpells, number, group, unary, alone, chain, no_link, one_link, ArgsSpell, some_args, no_more, one_more}
use Rattle.ac_expressions.specs.Operators.{placed_constant, constant_kind, constant_at, placed_unary, unary_kind, unary_sign_at, at_level, operator_kind, operator_at, has_operator}
use Rattle.ac_expressions.specs.Reads.{if_there, primary_word, primary_mark, primary_kind, primary_of, is_primary, begins_expr, operation_word, operation_kind, operation_of, place_of}
use Rattle.ac_expressions.specs.Reads.{link_at, links_at, chain_at, level_at, whole_at, next_arg_at, more_args_at, some_args_at, begins_args, args_at, closed_at, deep_closed_at}
use Rattle.ac_expressions.specs.Reads.{call_at, index_at, named_place_at, place_at, named_at, group_at, signed_at, number_expr_at, constant_expr_at, send_at, recv_rest_at, deep_recv_at, recv_at}
use Rattle.ac_expressions.specs.Reads.{range_at, transfer_of, transfer_at, read_at, write_at, operation_by, operation_at, primary_by, unary_at, expr_at}
use Rattle.ac_expressions.specs.Returned.{Fails, Gives}
use Rattle.ac_expressions.proofs.ExpressionHeads.{number_place, name_place}

-- ---- the grammar itself: `core a(f);`, `1+2*3` and the depths in `-(1)`

-- `*` before `+`
pub a_sum : ExprSpells 0 9 (e.Chain 0 9 (e.Number 0 (pos 1)) (link b.Add (e.Chain 2 10 (e.Number 2 (pos 2)) (link b.Mul (e.Number 4 (pos 3)) ∷ [])) ∷ []))
    (mark 0 (placed (k.Number (pos 1)) 0 1) ∷ mark 0 (placed (k.Mark m.Plus) 1 2) ∷ mark 0 (placed (k.Number (pos 2)) 2 3) ∷ mark 0 (placed (k.Mark m.Star) 3 4)
    ∷ mark 0 (placed (k.Number (pos 3)) 4 5) ∷ [])
a_sum = chain _ _ _ _ _ _ _ _ (alone _ _ _ _ (number _ _ _ refl))
    (one_link _ _ _ _ _ _ _ _ _ refl refl (chain _ _ _ _ _ _ _ _ (number _ _ _ refl) (one_link _ _ _ _ _ _ _ _ _ refl refl (number _ _ _ refl) (no_link _ _))) (no_link _ _))

-- a primary is of each level
pub of_the_first_level : (depth : ℕ) (x : Expr) (ms : List Marked) → ExprSpells depth 11 x ms → ExprSpells depth 1 x ms
of_the_first_level depth x ms d = alone _ 1 _ _ (alone _ 2 _ _ (alone _ 3 _ _ (alone _ 4 _ _ (alone _ 5 _ _ (alone _ 6 _ _ (alone _ 7 _ _ (alone _ 8 _ _ (alone _ 9 _ _ (alone _ 10 _ _ d)))))))))

-- an operand and what parentheses hold are one deeper each, and the closing one is as deep as what it closes
pub depths : ExprSpells 0 11 (e.Unary 0 u.Neg (e.Group 1 (e.Number 2 (pos 1))))
    (mark 0 (placed (k.Mark m.Minus) 0 1) ∷ mark 1 (placed (k.Mark m.OpenParen) 1 2) ∷ mark 2 (placed (k.Number (pos 1)) 2 3) ∷ mark 2 (placed (k.Mark m.CloseParen) 3 4) ∷ [])
depths = unary _ _ _ _ _ _ refl refl (group _ _ _ _ _ refl (of_the_first_level _ _ _ (number _ _ _ refl)) refl)

-- `1,2` as arguments
pub two_arguments : ArgsSpell 1 (e.Number 2 (pos 1) ∷ e.Number 4 (pos 2) ∷ [])
    (mark 1 (placed (k.Number (pos 1)) 2 3) ∷ mark 1 (placed (k.Mark m.Comma) 3 4) ∷ mark 1 (placed (k.Number (pos 2)) 4 5) ∷ [])
two_arguments = some_args _ _ _ _ _ (of_the_first_level _ _ _ (number _ _ _ refl)) (one_more _ _ _ _ _ _ refl (of_the_first_level _ _ _ (number _ _ _ refl)) (no_more _))

pub no_arguments_have_no_tokens : ArgsSpell 1 [] (mark 1 (placed (k.Number (pos 1)) 2 3) ∷ []) → ⊥
no_arguments_have_no_tokens d = elim d [ ]

-- ---- operators, by their levels from the loosest on

pub binary_operators :
    map operator_of (m.OrOr ∷ m.AndAnd ∷ m.Bar ∷ m.Caret ∷ m.And ∷ m.EqEq ∷ m.NotEq ∷ m.Less ∷ m.LessEq ∷ m.More ∷ m.MoreEq ∷ m.Shl ∷ m.Shr ∷ m.Plus ∷ m.Minus ∷ m.Star ∷ m.Slash ∷ m.Percent
    ∷ m.Not ∷ m.Assign ∷ [])
    ≡ Some (1, b.Or) ∷ Some (2, b.And) ∷ Some (3, b.BitOr) ∷ Some (4, b.BitXor) ∷ Some (5, b.BitAnd) ∷ Some (6, b.Eq) ∷ Some (6, b.Ne) ∷ Some (7, b.Less) ∷ Some (7, b.LessEq) ∷ Some (7, b.More)
    ∷ Some (7, b.MoreEq)
    ∷ Some (8, b.Shl) ∷ Some (8, b.Shr) ∷ Some (9, b.Add) ∷ Some (9, b.Sub) ∷ Some (10, b.Mul) ∷ Some (10, b.Div) ∷ Some (10, b.Rem) ∷ None ∷ None ∷ []
binary_operators = refl

pub unary_operators : map unary_of (m.Minus ∷ m.Not ∷ m.Tilde ∷ m.Plus ∷ m.Star ∷ []) ≡ Some u.Neg ∷ Some u.Not ∷ Some u.Flip ∷ None ∷ None ∷ []
unary_operators = refl

pub constants : map constant_of (w.Ok ∷ w.Cancelled ∷ w.Fault ∷ w.Int ∷ []) ≡ Some c.Ok ∷ Some c.Cancelled ∷ Some c.Fault ∷ None ∷ []
constants = refl

-- ---- tokens at their places: a mark, a word, `x` and `1`

abbrev a_mark : Mark → ℕ → Token
a_mark which at = placed (k.Mark which) at (at + 1)

abbrev a_word : Word → ℕ → Token
a_word which at = placed (k.Word which) at (at + 4)

abbrev x : ℕ → Token
x at = placed (k.Name (codes "x")) at (at + 1)

abbrev one : ℕ → Token
one at = placed (k.Number (pos 1)) at (at + 1)

-- and the trees of the last two
abbrev x_tree : ℕ → Expr
x_tree at = e.Name at (codes "x")

abbrev one_tree : ℕ → Expr
one_tree at = e.Number at (pos 1)

-- ---- what the next token begins

pub what_words_begin : map primary_word (w.Send ∷ w.Write ∷ w.Ok ∷ w.If ∷ []) ≡ p.Operation ∷ p.Operation ∷ p.Constant ∷ p.Other ∷ []
what_words_begin = refl

pub what_marks_begin : map primary_mark (m.OpenParen ∷ m.Minus ∷ m.Tilde ∷ m.Plus ∷ m.CloseParen ∷ []) ≡ p.Group ∷ p.Unary ∷ p.Unary ∷ p.Other ∷ p.Other ∷ []
what_marks_begin = refl

pub what_kinds_begin : map primary_kind (k.Name (codes "x") ∷ k.Number (pos 1) ∷ k.Text (codes "x") ∷ k.Word w.Fault ∷ k.Mark m.Not ∷ [])
    ≡ p.Name ∷ p.Number ∷ p.Other ∷ p.Constant ∷ p.Unary ∷ []
what_kinds_begin = refl

pub something_else_or_that : if_there {A = ℕ} (Some 0) p.Unary ∷ if_there {A = ℕ} None p.Unary ∷ [] ≡ p.Unary ∷ p.Other ∷ []
something_else_or_that = refl

pub by_the_first_token : primary_of (one 0 ∷ x 1 ∷ []) ∷ primary_of [] ∷ [] ≡ p.Number ∷ p.Other ∷ []
by_the_first_token = refl

pub all_but_one : map is_primary (p.Name ∷ p.Number ∷ p.Constant ∷ p.Operation ∷ p.Group ∷ p.Unary ∷ p.Other ∷ []) ≡ true ∷ true ∷ true ∷ true ∷ true ∷ true ∷ false ∷ []
all_but_one = refl

pub expressions_begin : begins_expr (x 0 ∷ []) ∷ begins_expr (a_mark m.CloseParen 0 ∷ x 1 ∷ []) ∷ begins_expr [] ∷ [] ≡ true ∷ false ∷ false ∷ []
expressions_begin = refl

pub operations_of_words : map operation_word (w.Send ∷ w.Recv ∷ w.Read ∷ w.Write ∷ []) ≡ o.Send ∷ o.Recv ∷ o.Read ∷ o.Write ∷ []
operations_of_words = refl

pub an_operation_by_its_word : operation_kind (k.Word w.Recv) ∷ operation_of (a_word w.Read 0 ∷ x 4 ∷ []) ∷ [] ≡ o.Recv ∷ o.Read ∷ []
an_operation_by_its_word = refl

-- ---- constants and operators, read

pub constants_with_their_place : placed_constant 3 (Some c.Ok) ∷ placed_constant 3 None ∷ constant_kind 3 (k.Word w.Fault) ∷ constant_kind 3 (k.Name (codes "OK")) ∷ []
    ≡ Some (3, c.Ok) ∷ None ∷ Some (3, c.Fault) ∷ None ∷ []
constants_with_their_place = refl

pub a_constant_is_read : constant_at (a_word w.Cancelled 3 ∷ x 7 ∷ []) ≡ Ok ((3, c.Cancelled), x 7 ∷ [])
a_constant_is_read = refl

pub another_word_is_none : constant_at (a_word w.If 3 ∷ []) ≡ Err (halt unexpected (a_word w.If 3 ∷ []))
another_word_is_none = refl

pub signs_with_their_place : placed_unary 3 (Some u.Not) ∷ placed_unary 3 None ∷ unary_kind 3 (k.Mark m.Minus) ∷ unary_kind 3 (k.Mark m.Plus) ∷ []
    ≡ Some (3, u.Not) ∷ None ∷ Some (3, u.Neg) ∷ None ∷ []
signs_with_their_place = refl

pub a_sign_is_read : unary_sign_at (a_mark m.Tilde 3 ∷ x 4 ∷ []) ≡ Ok ((3, u.Flip), x 4 ∷ [])
a_sign_is_read = refl

-- of its own level alone
pub an_operator_of_a_level : at_level 9 (Some (9, b.Add)) ∷ at_level 10 (Some (9, b.Add)) ∷ at_level 9 None ∷ operator_kind 9 (k.Mark m.Plus) ∷ operator_kind 10 (k.Mark m.Plus) ∷ []
    ≡ Some b.Add ∷ None ∷ None ∷ Some b.Add ∷ None ∷ []
an_operator_of_a_level = refl

pub an_operator_is_read : operator_at 9 (a_mark m.Minus 1 ∷ one 2 ∷ []) ≡ Ok (b.Sub, one 2 ∷ [])
an_operator_is_read = refl

pub an_operator_comes_next : has_operator 9 (a_mark m.Minus 1 ∷ []) ∷ has_operator 10 (a_mark m.Minus 1 ∷ []) ∷ has_operator 9 [] ∷ [] ≡ true ∷ false ∷ false ∷ []
an_operator_comes_next = refl

-- ---- chains of numbers

pub places_of_trees : place_of (one_tree 7) ∷ place_of (x_tree 3) ∷ [] ≡ 7 ∷ 3 ∷ []
places_of_trees = rw (number_place 7 (pos 1), name_place 3 (codes "x")) refl

-- +1
pub a_link_is_read : link_at 9 number_expr_at (a_mark m.Plus 1 ∷ one 2 ∷ []) ≡ Ok (link b.Add (one_tree 2), [])
a_link_is_read = refl

-- +1-1*
pub two_links_are_read : links_at 9 number_expr_at (a_mark m.Plus 1 ∷ one 2 ∷ a_mark m.Minus 3 ∷ one 4 ∷ a_mark m.Star 5 ∷ [])
    ≡ Ok (link b.Add (one_tree 2) ∷ link b.Sub (one_tree 4) ∷ [], a_mark m.Star 5 ∷ [])
unfolding many_at
two_links_are_read = refl

-- of 1+1 the level 10 has the first number alone
pub a_level_further : level_at number_expr_at 10 (one 0 ∷ a_mark m.Plus 1 ∷ one 2 ∷ []) ≡ Ok (one_tree 0, a_mark m.Plus 1 ∷ one 2 ∷ [])
unfolding many_at chain_at
a_level_further = refl

pub a_whole_expression : whole_at number_expr_at (one 0 ∷ a_mark m.Plus 1 ∷ one 2 ∷ a_mark m.CloseParen 3 ∷ [])
    ≡ Ok (e.Chain 0 9 (one_tree 0) (link b.Add (one_tree 2) ∷ []), a_mark m.CloseParen 3 ∷ [])
unfolding many_at chain_at
a_whole_expression = rw (number_place 0 (pos 1)) refl

-- ---- arguments that are numbers

-- ,1
pub one_argument_more : next_arg_at number_expr_at (a_mark m.Comma 1 ∷ one 2 ∷ []) ≡ Ok (one_tree 2, [])
unfolding same_mark
one_argument_more = refl

-- ,1,1)
pub two_arguments_more : more_args_at number_expr_at (a_mark m.Comma 1 ∷ one 2 ∷ a_mark m.Comma 3 ∷ one 4 ∷ a_mark m.CloseParen 5 ∷ [])
    ≡ Ok (one_tree 2 ∷ one_tree 4 ∷ [], a_mark m.CloseParen 5 ∷ [])
unfolding same_mark many_at
two_arguments_more = refl

-- 1,1
pub some_are_read : some_args_at number_expr_at (one 0 ∷ a_mark m.Comma 1 ∷ one 2 ∷ []) ≡ Ok (one_tree 0 ∷ one_tree 2 ∷ [], [])
unfolding same_mark many_at
some_are_read = refl

-- also by a parenthesis that closes none
pub arguments_begin : begins_args (a_mark m.CloseParen 0 ∷ []) ∷ begins_args (one 0 ∷ []) ∷ begins_args (a_mark m.Comma 0 ∷ []) ∷ [] ≡ true ∷ true ∷ false ∷ []
unfolding same_mark
arguments_begin = refl

pub no_arguments : args_at number_expr_at (a_mark m.CloseParen 0 ∷ []) ≡ Ok ([], a_mark m.CloseParen 0 ∷ [])
unfolding same_mark
no_arguments = refl

pub one_argument : args_at number_expr_at (one 0 ∷ a_mark m.CloseParen 1 ∷ []) ≡ Ok (one_tree 0 ∷ [], a_mark m.CloseParen 1 ∷ [])
unfolding same_mark many_at
one_argument = refl

pub closed_arguments : closed_at number_expr_at (one 0 ∷ a_mark m.CloseParen 1 ∷ x 2 ∷ []) ≡ Ok (one_tree 0 ∷ [], x 2 ∷ [])
unfolding same_mark many_at
closed_arguments = refl

-- without room what can begin them is too deep, and a comma is unexpected
pub arguments_with_room : deep_closed_at number_expr_at 1 (a_mark m.CloseParen 0 ∷ []) ≡ Ok ([], [])
unfolding same_mark
arguments_with_room = refl

pub arguments_without_room : deep_closed_at number_expr_at 0 (a_mark m.CloseParen 0 ∷ []) ≡ Err (halt too_deep (a_mark m.CloseParen 0 ∷ []))
unfolding same_mark
arguments_without_room = refl

pub no_arguments_without_room : deep_closed_at number_expr_at 0 (a_mark m.Comma 0 ∷ []) ≡ Err (halt unexpected (a_mark m.Comma 0 ∷ []))
unfolding same_mark
no_arguments_without_room = refl

-- ---- primaries

-- (1), [1]
abbrev in_parentheses : List Token
in_parentheses = a_mark m.OpenParen 1 ∷ one 2 ∷ a_mark m.CloseParen 3 ∷ []

abbrev in_brackets : List Token
in_brackets = a_mark m.OpenBracket 1 ∷ one 2 ∷ a_mark m.CloseBracket 3 ∷ []

pub a_call_behind_its_name : call_at number_expr_at 1 0 (codes "x") in_parentheses ≡ Ok (e.Call 0 (codes "x") (one_tree 2 ∷ []), [])
unfolding same_mark many_at
a_call_behind_its_name = refl

pub an_index_behind_its_name : index_at number_expr_at 0 (codes "x") in_brackets ≡ Ok (e.Index 0 (codes "x") (one_tree 2), [])
unfolding same_mark
an_index_behind_its_name = refl

pub an_index_or_none : named_place_at number_expr_at 0 (codes "x") in_brackets ≡ Ok (e.Index 0 (codes "x") (one_tree 2), [])
unfolding same_mark
an_index_or_none = refl

-- x+
pub none_behind_its_name : named_place_at number_expr_at 0 (codes "x") (a_mark m.Plus 1 ∷ []) ≡ Ok (x_tree 0, a_mark m.Plus 1 ∷ [])
unfolding same_mark
none_behind_its_name = refl

pub a_place_is_read : place_at number_expr_at (x 0 ∷ in_brackets) ≡ Ok (e.Index 0 (codes "x") (one_tree 2), [])
unfolding same_mark
a_place_is_read = refl

pub a_number_is_no_place : place_at number_expr_at (one 0 ∷ []) ≡ Err (halt unexpected (one 0 ∷ []))
a_number_is_no_place = refl

pub by_what_stands_behind : named_at number_expr_at 1 (x 0 ∷ in_parentheses) ≡ Ok (e.Call 0 (codes "x") (one_tree 2 ∷ []), [])
unfolding same_mark many_at
by_what_stands_behind = refl

pub nothing_stands_behind : named_at number_expr_at 1 (x 0 ∷ []) ≡ Ok (x_tree 0, [])
unfolding same_mark
nothing_stands_behind = refl

pub a_group_is_read : group_at number_expr_at in_parentheses ≡ Ok (e.Group 1 (one_tree 2), [])
unfolding same_mark
a_group_is_read = refl

-- -1
pub an_operand_is_read : signed_at number_expr_at (a_mark m.Minus 0 ∷ one 1 ∷ []) ≡ Ok (e.Unary 0 u.Neg (one_tree 1), [])
an_operand_is_read = refl

pub a_number_is_read : number_expr_at (one 4 ∷ x 5 ∷ []) ≡ Ok (one_tree 4, x 5 ∷ [])
a_number_is_read = refl

pub a_constant_alone : constant_expr_at (a_word w.Fault 4 ∷ []) ≡ Ok (e.Const 4 c.Fault, [])
a_constant_alone = refl

-- ---- operations

-- Send(x,1)
abbrev sending : List Token
sending = a_word w.Send 0 ∷ a_mark m.OpenParen 4 ∷ x 5 ∷ a_mark m.Comma 6 ∷ one 7 ∷ a_mark m.CloseParen 8 ∷ []

pub a_send_is_read : send_at number_expr_at 1 sending ≡ Ok (e.Send 0 (codes "x") (one_tree 7), [])
unfolding same_mark same_word
a_send_is_read = refl

-- its channel has no room
pub a_send_without_room : send_at number_expr_at 0 sending ≡ Err (halt too_deep (x 5 ∷ a_mark m.Comma 6 ∷ one 7 ∷ a_mark m.CloseParen 8 ∷ []))
unfolding same_mark same_word
a_send_without_room = refl

-- x,&x)
abbrev rest_of_a_recv : List Token
rest_of_a_recv = x 5 ∷ a_mark m.Comma 6 ∷ a_mark m.And 7 ∷ x 8 ∷ a_mark m.CloseParen 9 ∷ []

pub its_rest_is_read : recv_rest_at number_expr_at 0 rest_of_a_recv ≡ Ok (e.Recv 0 (codes "x") (x_tree 8), [])
unfolding same_mark
its_rest_is_read = refl

pub its_rest_without_room : deep_recv_at number_expr_at 0 0 rest_of_a_recv ≡ Err (halt too_deep rest_of_a_recv)
its_rest_without_room = refl

pub a_recv_is_read : recv_at number_expr_at 1 (a_word w.Recv 0 ∷ a_mark m.OpenParen 4 ∷ rest_of_a_recv) ≡ Ok (e.Recv 0 (codes "x") (x_tree 8), [])
unfolding same_mark same_word
a_recv_is_read = refl

-- 1,1,
abbrev a_range : List Token
a_range = one 7 ∷ a_mark m.Comma 8 ∷ one 9 ∷ a_mark m.Comma 10 ∷ []

pub a_range_is_read : range_at number_expr_at a_range ≡ Ok ((one_tree 7, one_tree 9), [])
unfolding same_mark
a_range_is_read = refl

-- (x,1,1,x)
abbrev a_transfer : List Token
a_transfer = a_mark m.OpenParen 4 ∷ x 5 ∷ a_mark m.Comma 6 ∷ (a_range ++ x 11 ∷ a_mark m.CloseParen 12 ∷ [])

pub a_transfer_is_read : transfer_at number_expr_at 1 a_transfer ≡ Ok (transfer_of (codes "x") (one_tree 7) (one_tree 9) (codes "x"), [])
unfolding same_mark
a_transfer_is_read = refl

pub a_read_is_read : read_at number_expr_at 1 (a_word w.Read 0 ∷ a_transfer) ≡ Ok (e.Read 0 (codes "x") (one_tree 7) (one_tree 9) (codes "x"), [])
unfolding same_mark same_word
a_read_is_read = refl

pub a_write_is_read : write_at number_expr_at 1 (a_word w.Write 0 ∷ a_transfer) ≡ Ok (e.Write 0 (codes "x") (one_tree 7) (one_tree 9) (codes "x"), [])
unfolding same_mark same_word
a_write_is_read = refl

pub an_operation_by_its_kind : operation_by number_expr_at number_expr_at 1 o.Send sending ≡ Ok (e.Send 0 (codes "x") (one_tree 7), [])
unfolding same_mark same_word
an_operation_by_its_kind = refl

-- another kind wants another word
pub not_by_another_kind : operation_by number_expr_at number_expr_at 1 o.Recv sending ≡ Err (halt unexpected sending)
unfolding same_word
not_by_another_kind = refl

pub an_operation_is_read : operation_at number_expr_at number_expr_at 1 sending ≡ Ok (e.Send 0 (codes "x") (one_tree 7), [])
unfolding same_mark same_word
an_operation_is_read = refl

-- ---- whole expressions

pub a_primary_by_its_kind : primary_by number_expr_at number_expr_at 1 p.Unary (a_mark m.Minus 0 ∷ one 1 ∷ []) ≡ Ok (e.Unary 0 u.Neg (one_tree 1), [])
a_primary_by_its_kind = refl

pub no_primary : primary_by number_expr_at number_expr_at 1 p.Other (a_mark m.Comma 0 ∷ []) ≡ Err (halt unexpected (a_mark m.Comma 0 ∷ []))
no_primary = refl

-- -(1), whose tokens have three depths
abbrev three_depths : List Token
three_depths = a_mark m.Minus 0 ∷ in_parentheses

pub with_room_for_three : expr_at 3 three_depths ≡ Ok (e.Unary 0 u.Neg (e.Group 1 (one_tree 2)), [])
unfolding same_mark many_at chain_at unary_at
with_room_for_three = refl

pub with_room_for_two : expr_at 2 three_depths ≡ Err (halt too_deep (one 2 ∷ a_mark m.CloseParen 3 ∷ []))
unfolding same_mark many_at chain_at unary_at
with_room_for_two = refl

-- ---- what a function returns

-- it left a comma
abbrev left : List Token
left = a_mark m.Comma 1 ∷ []

pub it_gives_what_is_read : Gives {X = ℕ} {Y = ℕ} left (λ n. n + 1) (Ok 3) (Ok 4)
it_gives_what_is_read = refl

same_read : (a b : ℕ) → Gives {X = ℕ} {Y = ℕ} left (λ n. n + 1) (Ok a) (Ok b) → b ≡ a + 1
same_read a b e = cc

pub it_gives_nothing_else : Gives {X = ℕ} {Y = ℕ} left (λ n. n + 1) (Ok 3) (Ok 5) → ⊥
it_gives_nothing_else e = let same = same_read 3 5 e in omega (arith, same)

pub it_fails_as_reading_does : Gives {X = ℕ} {Y = ℕ} left (λ n. n + 1) (Err h.Unexpected) (Err (halt unexpected left))
it_fails_as_reading_does = refl

pub it_fails_for_its_cause : Fails {Y = ℕ} left h.TooDeep (Err (halt unexpected left)) → ⊥
it_fails_for_its_cause e = cc e

-- memory may run out at any time
pub it_may_want_memory : Fails {Y = ℕ} left h.Memory (Ok 4)
it_may_want_memory = tt
