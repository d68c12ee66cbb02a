-- Small programs and their trees, by the places of their bytes; texts that are no program, and one that is too deep.
-- A text is read by computing, and what is answered is so by Answered; the parts of the grammar are shown by its cases. Where a tree has a chain or
-- an operation, its place is a fold, which is rewritten.
use Rattle.std.proofs.Common.{◌≡◌, refl, sym, ap, ◌∙◌, subst, ℕ, zero, suc, ℤ, pos, Bool, List, [], ◌∷◌, ◌++◌, ◌+◌, codes, Some, None, true, false, Ok, Err, arith}
use Rattle.std.specs.Prelude.{negsuc}
use Rattle.ac_tree.specs.declared.expr.Expr.TheVariants as e
use Rattle.ac_tree.specs.declared.expr.Constant.TheVariants as c
use Rattle.ac_tree.specs.declared.expr.BinaryOp.TheVariants as b
use Rattle.ac_tree.specs.declared.expr.UnaryOp.TheVariants as u
use Rattle.ac_tree.specs.declared.stmt.Stmt.{Stmt}
use Rattle.ac_tree.specs.declared.stmt.Stmt.TheVariants as s
use Rattle.ac_tree.specs.declared.stmt.Stmt.TheFolds.{fold-roll-Stmt}
use Rattle.ac_tree.specs.declared.stmt.Stmt.TheOpen.{Stmt-F}
use Rattle.ac_tree.specs.declared.item.Item.{Item}
use Rattle.ac_tree.specs.declared.item.Item.TheVariants as i
use Rattle.ac_tree.specs.declared.item.Program.{Program}
use Rattle.ac_lexer.specs.declared.token.Word.TheVariants as w
use Rattle.ac_lexer.specs.declared.token.Mark.{Mark}
use Rattle.ac_lexer.specs.declared.token.Mark.TheVariants as m
use Rattle.ac_lexer.specs.declared.token.Kind.TheVariants as k
use Rattle.ac_lexer.specs.declared.token.Token.{Token}
use Rattle.ac_lexer.specs.Spelling.{placed}
use Rattle.ac_lexer.specs.inner.Reading.{piece_at, name_at, word_of, number_at, mark_of_one, mark_of_two}
use Rattle.ac_lexer.proofs.Lexed.{tokens_in}
use Rattle.ac_lexer.proofs.Examples.{two_tokens}
use Rattle.reading_laws.specs.Marks.{Marked, mark, Low, cut}
use Rattle.ac_expressions.specs.Spelling.{link, number, variable}
use Rattle.ac_parser.specs.declared.faults.SyntaxFault.TheVariants as f
use Rattle.ac_parser.specs.SpellingOfStatements.{ends_step, ends_open, no_value, DeclSpells, int_decl, array_decl, SimpleSpells, simple, InitSpells, no_init, simple_init, int_init}
use Rattle.ac_parser.specs.SpellingOfStatements.{NextSpells, simple_next}
use Rattle.ac_parser.specs.SpellingOfStatements.{BlockSpells, braces, no_entry}
use Rattle.ac_parser.specs.SpellingOfItems.{GlobalValueSpells, zero_value, plain_value, negative_value, BracketsSpell, no_brackets, brackets, param, MoreParamsSpell, no_param, one_param, IsGiven}
use Rattle.ac_parser.specs.SpellingOfItems.{core, no_item, one_item, ProgramSpells}
use Rattle.ac_parser.specs.Places.{limit, place_in, Stuck, IsTree, UnexpectedAt, TooDeepAt, Parses}
use Rattle.reading_laws.specs.Letters.{same_word, same_mark}
use Rattle.reading_laws.specs.Readers.{many_at}
use Rattle.ac_expressions.specs.Reads.{chain_at, unary_at}
use Rattle.ac_parser.specs.inner.ReadsStatements.{stmt_at}
use Rattle.ac_parser.specs.inner.ReadsItems.{item_at, program_at}
use Rattle.ac_parser.proofs.Answered.{parsed_tree, parsed_unexpected, parsed_too_deep}
use Rattle.ac_expressions.proofs.Examples.{of_the_first_level}
use Rattle.ac_expressions.proofs.ExpressionHeads.{number_place, group_place, recv_place, read_place, write_place}

-- ---- the grammar itself: `core a(f);`, `1+2*3` and the depths in `-(1)`

abbrev pub program : List Item → Program
program items = record { items = items }

pub a_core : ProgramSpells (program (i.Core 0 (codes "a") (codes "f") ∷ []))
    (mark 0 (placed (k.Word w.Core) 0 4) ∷ mark 0 (placed (k.Name (codes "a")) 5 6) ∷ mark 0 (placed (k.Mark m.OpenParen) 6 7) ∷ mark 1 (placed (k.Name (codes "f")) 7 8)
    ∷ mark 1 (placed (k.Mark m.CloseParen) 8 9) ∷ mark 0 (placed (k.Mark m.Semicolon) 9 10) ∷ [])
a_core = one_item _ _ _ _ (core _ _ _ _ _ _ _ _ refl refl refl refl refl refl) no_item

-- ---- parts of items

abbrev a_mark : Mark → ℕ → Token
a_mark which at = placed (k.Mark which) at (at + 1)

abbrev int_word : ℕ → Token
int_word at = placed (k.Word w.Int) at (at + 3)

abbrev x_name : ℕ → Token
x_name at = placed (k.Name (codes "x")) at (at + 1)

abbrev a_number : ℕ → ℕ → Token
a_number n at = placed (k.Number (pos n)) at (at + 1)

-- nothing, `=5` and `=-5` behind a name
pub values_of_globals : GlobalValueSpells (pos 0) [] × GlobalValueSpells (pos 5) (mark 0 (a_mark m.Assign 5) ∷ mark 0 (a_number 5 6) ∷ [])
    × GlobalValueSpells (negsuc 4) (mark 0 (a_mark m.Assign 5) ∷ mark 0 (a_mark m.Minus 6) ∷ mark 0 (a_number 5 7) ∷ [])
values_of_globals = (zero_value, plain_value _ _ _ refl refl, negative_value _ _ _ 5 refl refl refl)

without_tokens : (value : ℤ) (ms : List Marked) → GlobalValueSpells value ms → ms ≡ [] → value ≡ pos 0
without_tokens _ _ zero_value e = refl
without_tokens _ _ (plain_value equals digits n p q) e = cc
without_tokens _ _ (negative_value equals minus digits n p q r) e = cc

pub nothing_is_no_other_value : GlobalValueSpells (pos 5) [] → ⊥
nothing_is_no_other_value h = let e = without_tokens (pos 5) [] h refl in cc e

pub brackets_or_none : BracketsSpell false [] × BracketsSpell true (mark 1 (a_mark m.OpenBracket 12) ∷ mark 2 (a_mark m.CloseBracket 13) ∷ [])
brackets_or_none = (no_brackets, brackets _ _ refl refl)

pub no_array_without_brackets : BracketsSpell true [] → ⊥
no_array_without_brackets h = elim h [ ]

-- `,int x[]`
pub a_parameter_more : MoreParamsSpell (record { at = 8; name = codes "x"; is_array = true } ∷ [])
    (mark 1 (a_mark m.Comma 7) ∷ mark 1 (int_word 8) ∷ mark 1 (x_name 12) ∷ mark 1 (a_mark m.OpenBracket 13) ∷ mark 2 (a_mark m.CloseBracket 14) ∷ [])
a_parameter_more = one_param _ _ _ _ _ refl (param _ _ _ _ _ refl refl (brackets _ _ refl refl)) no_param

pub a_comma_alone : MoreParamsSpell [] (mark 1 (a_mark m.Comma 7) ∷ []) → ⊥
a_comma_alone h = elim h [ ]

pub what_is_given : IsGiven true (int_word 0) × IsGiven false (placed (k.Word w.Void) 0 4)
what_is_given = (refl, refl)

pub an_int_is_given : IsGiven false (int_word 0) → ⊥
an_int_is_given e = cc e

-- ---- parts of statements

-- {}
pub no_statements : BlockSpells 1 9 [] (mark 1 (a_mark m.OpenBrace 9) ∷ mark 1 (a_mark m.CloseBrace 10) ∷ [])
no_statements = braces _ _ _ _ _ refl (no_entry _) refl

pub no_braces : (at : ℕ) (body : List Stmt) → BlockSpells 1 at body [] → ⊥
no_braces at body h = elim h [ ]

-- int x; and int x[5];
pub a_declared_int : DeclSpells 2 (s.Int 9 (codes "x") None) (mark 2 (int_word 9) ∷ mark 2 (x_name 13) ∷ mark 2 (a_mark m.Semicolon 14) ∷ [])
a_declared_int = int_decl _ _ _ _ _ _ _ refl refl (no_value _) refl

pub a_declared_array : DeclSpells 2 (s.Array 9 (codes "x") (pos 5))
    (mark 2 (int_word 9) ∷ mark 2 (x_name 13) ∷ mark 2 (a_mark m.OpenBracket 14) ∷ mark 3 (a_number 5 15) ∷ mark 3 (a_mark m.CloseBracket 16) ∷ mark 2 (a_mark m.Semicolon 17) ∷ [])
a_declared_array = array_decl _ _ _ _ _ _ _ _ _ refl refl refl refl refl refl

pub nothing_is_declared : (x : Stmt) → DeclSpells 2 x [] → ⊥
nothing_is_declared x h = elim h [ ]

-- x=1
abbrev set_x : Stmt
set_x = s.Assign 9 (e.Name 9 (codes "x")) (e.Number 11 (pos 1))

abbrev its_tokens : ℕ → List Marked
its_tokens depth = mark depth (x_name 9) ∷ mark depth (a_mark m.Assign 10) ∷ mark depth (a_number 1 11) ∷ []

pub an_assignment : (depth : ℕ) → SimpleSpells depth set_x (its_tokens depth)
an_assignment depth = simple _ _ _ _ _ _ _ (variable _ _ _ refl) refl (of_the_first_level _ _ _ (number _ _ _ refl))

pub nothing_is_assigned : (x : Stmt) → SimpleSpells 3 x [] → ⊥
nothing_is_assigned x h = elim h [ ]

-- the first part of a `for`: none, x=1 and int x=1
pub first_parts : InitSpells 3 None [] × InitSpells 3 (Some set_x) (its_tokens 3)
    × InitSpells 3 (Some (s.Int 9 (codes "x") (Some (e.Number 14 (pos 1))))) (mark 3 (int_word 9) ∷ mark 3 (x_name 12) ∷ mark 3 (a_mark m.Assign 13) ∷ mark 3 (a_number 1 14) ∷ [])
first_parts = (no_init _, simple_init _ _ _ (an_assignment 3), int_init _ _ _ _ _ _ _ refl refl refl (of_the_first_level _ _ _ (number _ _ _ refl)))

pub no_first_part : (x : Stmt) → InitSpells 3 (Some x) [] → ⊥
no_first_part _ (simple_init depth x ms h) = nothing_is_assigned x h

-- and the third
pub a_third_part : NextSpells 3 (Some set_x) (its_tokens 3)
a_third_part = simple_next _ _ _ (an_assignment 3)

pub no_third_part : (x : Stmt) → NextSpells 3 (Some x) [] → ⊥
no_third_part _ (simple_next depth x ms h) = nothing_is_assigned x h

-- by whether the parts end so: if, if with such an else and with another, while, async, and a block
pub forms_that_end_open : ends_step (Stmt-F.If 0 (e.Name 0 (codes "x")) false None) ∷ ends_step (Stmt-F.If 0 (e.Name 0 (codes "x")) false (Some true))
    ∷ ends_step (Stmt-F.If 0 (e.Name 0 (codes "x")) true (Some false)) ∷ ends_step (Stmt-F.While 0 (e.Name 0 (codes "x")) true) ∷ ends_step (Stmt-F.Async 0 true)
    ∷ ends_step (Stmt-F.Block 0 (true ∷ [])) ∷ [] ≡ true ∷ true ∷ false ∷ true ∷ true ∷ false ∷ []
forms_that_end_open = refl

-- if(x); and {}
pub an_if_ends_open : ends_open (s.If 9 (e.Name 12 (codes "x")) (s.Empty 14) None) ≡ true
an_if_ends_open = ap ends_open (sym (s.rolls-If 9 (e.Name 12 (codes "x")) (s.Empty 14) None)) ∙ fold-roll-Stmt Bool ends_step (Stmt-F.If 9 (e.Name 12 (codes "x")) (s.Empty 14) None)

pub a_block_does_not : ends_open (s.Block 9 []) ≡ false
a_block_does_not = ap ends_open (sym (s.rolls-Block 9 [])) ∙ fold-roll-Stmt Bool ends_step (Stmt-F.Block 9 [])

-- ---- how deep a token may be

pub two_hundred_fifty_six : Low limit (mark 256 (placed (k.Mark m.OpenParen) 0 1) ∷ [])
two_hundred_fifty_six = (omega arith, tt)

pub two_hundred_fifty_seven : Low limit (mark 256 (placed (k.Mark m.OpenParen) 0 1) ∷ mark 257 (placed (k.Mark m.OpenParen) 1 2) ∷ []) → ⊥
two_hundred_fifty_seven h = let le = h.1.0 in omega (arith, le)

-- the tokens from the first on that is too deep
pub the_first_too_deep : cut limit (mark 256 (placed (k.Mark m.OpenParen) 0 1) ∷ mark 257 (placed (k.Mark m.OpenParen) 1 2) ∷ mark 258 (placed (k.Mark m.OpenParen) 2 3) ∷ []) []
    ≡ Some (placed (k.Mark m.OpenParen) 1 2 ∷ placed (k.Mark m.OpenParen) 2 3 ∷ [])
the_first_too_deep = refl

pub none_too_deep : cut limit (mark 256 (placed (k.Mark m.OpenParen) 0 1) ∷ []) [] ≡ None
none_too_deep = refl

-- ---- whole texts and their trees

-- the empty text is a program
pub the_empty_program : IsTree (tokens_in []) (program [])
unfolding piece_at name_at word_of number_at mark_of_one mark_of_two program_at item_at many_at stmt_at chain_at unary_at same_word same_mark
the_empty_program = parsed_tree _ _ [] refl

-- the same tokens spell no other tree
pub a_core_alone : IsTree (tokens_in (codes "core a(f);")) (program (i.Core 0 (codes "a") (codes "f") ∷ []))
unfolding piece_at name_at word_of number_at mark_of_one mark_of_two program_at item_at many_at stmt_at chain_at unary_at same_word same_mark
a_core_alone = parsed_tree _ _ [] refl

-- a value, none, and a size
pub globals : IsTree (tokens_in (codes "int x=-5;int y;int h[3];")) (program (i.Global 0 (codes "x") None (negsuc 4) ∷ i.Global 9 (codes "y") None (pos 0)
    ∷ i.Global 15 (codes "h") (Some (pos 3)) (pos 0) ∷ []))
unfolding piece_at name_at word_of number_at mark_of_one mark_of_two program_at item_at many_at stmt_at chain_at unary_at same_word same_mark
globals = parsed_tree _ _ [] refl

pub channel_and_file : IsTree (tokens_in (codes "channel c(a,b,4);file g(\"g.dat\");")) (program (i.Channel 0 (codes "c") (codes "a") (codes "b") (pos 4) ∷ i.File 17 (codes "g") (codes "g.dat") ∷ []))
unfolding piece_at name_at word_of number_at mark_of_one mark_of_two program_at item_at many_at stmt_at chain_at unary_at same_word same_mark
channel_and_file = parsed_tree _ _ [] refl

pub a_function_with_parameters : IsTree (tokens_in (codes "int g(int x,int h[]){return x;}")) (program (i.Function (record {
  at = 0;
  is_async = false;
  gives_int = true;
  name = codes "g";
  params = record { at = 6; name = codes "x"; is_array = false } ∷ record { at = 12; name = codes "h"; is_array = true } ∷ [];
  body = s.Return 21 (Some (e.Name 28 (codes "x"))) ∷ [];
}) ∷ []))
unfolding piece_at name_at word_of number_at mark_of_one mark_of_two program_at item_at many_at stmt_at chain_at unary_at same_word same_mark
a_function_with_parameters = parsed_tree _ _ [] refl

-- `void` stands for no parameters
pub an_async_function : IsTree (tokens_in (codes "async int f(void){}")) (program (i.Function (record { at = 0; is_async = true; gives_int = true; name = codes "f"; params = []; body = [] }) ∷ []))
unfolding piece_at name_at word_of number_at mark_of_one mark_of_two program_at item_at many_at stmt_at chain_at unary_at same_word same_mark
an_async_function = parsed_tree _ _ [] refl

-- ---- statements, in a function's body that begins at the ninth byte

abbrev pub in_body : List ℕ → List ℕ
in_body text = codes "void f(){" ++ text ++ codes "}"

abbrev pub with_body : List Stmt → Program
with_body body = program (i.Function (record { at = 0; is_async = false; gives_int = false; name = codes "f"; params = []; body = body }) ∷ [])

-- a chain has its operands in order
pub to_the_left : IsTree (tokens_in (in_body (codes "x=1-2-3;"))) (with_body (s.Assign 9 (e.Name 9 (codes "x")) (e.Chain 11 9 (e.Number 11 (pos 1)) (link b.Sub (e.Number 13 (pos 2))
    ∷ link b.Sub (e.Number 15 (pos 3)) ∷ [])) ∷ []))
unfolding piece_at name_at word_of number_at mark_of_one mark_of_two program_at item_at many_at stmt_at chain_at unary_at same_word same_mark
to_the_left = parsed_tree _ _ [] (rw (number_place 11 (pos 1)) refl)

pub unary_signs : IsTree (tokens_in (in_body (codes "x=-!~OK;"))) (with_body (s.Assign 9 (e.Name 9 (codes "x")) (e.Unary 11 u.Neg (e.Unary 12 u.Not (e.Unary 13 u.Flip (e.Const 14 c.Ok)))) ∷ []))
unfolding piece_at name_at word_of number_at mark_of_one mark_of_two program_at item_at many_at stmt_at chain_at unary_at same_word same_mark
unary_signs = parsed_tree _ _ [] refl

pub parentheses : IsTree (tokens_in (in_body (codes "x=(1+2)*3;")))
    (with_body (s.Assign 9 (e.Name 9 (codes "x")) (e.Chain 11 10 (e.Group 11 (e.Chain 12 9 (e.Number 12 (pos 1)) (link b.Add (e.Number 14 (pos 2)) ∷ [])))
    (link b.Mul (e.Number 17 (pos 3)) ∷ [])) ∷ []))
unfolding piece_at name_at word_of number_at mark_of_one mark_of_two program_at item_at many_at stmt_at chain_at unary_at same_word same_mark
parentheses = parsed_tree _ _ [] (rw (number_place 12 (pos 1), group_place 11 (e.Chain 12 9 (e.Number 12 (pos 1)) (link b.Add (e.Number 14 (pos 2)) ∷ []))) refl)

-- each level holds the next
pub all_levels : IsTree (tokens_in (in_body (codes "x=1||2&&3|4^5&6==7<8<<9+10*11;")))
    (with_body (s.Assign 9 (e.Name 9 (codes "x")) (e.Chain 11 1 (e.Number 11 (pos 1)) (link b.Or (e.Chain 14 2 (e.Number 14 (pos 2)) (link b.And (e.Chain 17 3 (e.Number 17 (pos 3))
    (link b.BitOr (e.Chain 19 4 (e.Number 19 (pos 4)) (link b.BitXor (e.Chain 21 5 (e.Number 21 (pos 5))
    (link b.BitAnd (e.Chain 23 6 (e.Number 23 (pos 6)) (link b.Eq (e.Chain 26 7 (e.Number 26 (pos 7)) (link b.Less (e.Chain 28 8 (e.Number 28 (pos 8))
    (link b.Shl (e.Chain 31 9 (e.Number 31 (pos 9)) (link b.Add (e.Chain 33 10 (e.Number 33 (pos 10)) (link b.Mul (e.Number 36 (pos 11)) ∷ [])) ∷ [])) ∷ [])) ∷ [])) ∷ []))
    ∷ [])) ∷ [])) ∷ [])) ∷ [])) ∷ [])) ∷ []))
unfolding piece_at name_at word_of number_at mark_of_one mark_of_two program_at item_at many_at stmt_at chain_at unary_at same_word same_mark
all_levels = parsed_tree _ _ [] (simp number_place)

-- an `else` belongs to the nearest `if`
pub the_inner_if : IsTree (tokens_in (in_body (codes "if(1)if(2);else;"))) (with_body (s.If 9 (e.Number 12 (pos 1)) (s.If 14 (e.Number 17 (pos 2)) (s.Empty 19) (Some (s.Empty 24))) None ∷ []))
unfolding piece_at name_at word_of number_at mark_of_one mark_of_two program_at item_at many_at stmt_at chain_at unary_at same_word same_mark
the_inner_if = parsed_tree _ _ [] refl

-- unless a block ends that
pub the_outer_if : IsTree (tokens_in (in_body (codes "if(1){if(2);}else;"))) (with_body (s.If 9 (e.Number 12 (pos 1)) (s.Block 14 (s.If 15 (e.Number 18 (pos 2)) (s.Empty 20) None
    ∷ [])) (Some (s.Empty 26)) ∷ []))
unfolding piece_at name_at word_of number_at mark_of_one mark_of_two program_at item_at many_at stmt_at chain_at unary_at same_word same_mark
the_outer_if = parsed_tree _ _ [] refl

pub a_while : IsTree (tokens_in (in_body (codes "while(1)break;"))) (with_body (s.While 9 (e.Number 15 (pos 1)) (s.Break 17) ∷ []))
unfolding piece_at name_at word_of number_at mark_of_one mark_of_two program_at item_at many_at stmt_at chain_at unary_at same_word same_mark
a_while = parsed_tree _ _ [] refl

pub a_for_without_parts : IsTree (tokens_in (in_body (codes "for(;;)continue;"))) (with_body (s.For 9 None None None (s.Continue 16) ∷ []))
unfolding piece_at name_at word_of number_at mark_of_one mark_of_two program_at item_at many_at stmt_at chain_at unary_at same_word same_mark
a_for_without_parts = parsed_tree _ _ [] refl

pub a_for : IsTree (tokens_in (in_body (codes "for(int i=0;i;i=1){}")))
    (with_body (s.For 9 (Some (s.Int 13 (codes "i") (Some (e.Number 19 (pos 0))))) (Some (e.Name 21 (codes "i")))
    (Some (s.Assign 23 (e.Name 23 (codes "i")) (e.Number 25 (pos 1)))) (s.Block 27 []) ∷ []))
unfolding piece_at name_at word_of number_at mark_of_one mark_of_two program_at item_at many_at stmt_at chain_at unary_at same_word same_mark
a_for = parsed_tree _ _ [] refl

pub a_labelled_block : IsTree (tokens_in (in_body (codes "l:do{async;}finish;cancel l;yield;return;"))) (with_body (s.Do 9 (Some (codes "l")) (s.Async 14 (s.Empty 19) ∷ [])
    ∷ s.Cancel 28 (codes "l") ∷ s.Yield 37 ∷ s.Return 43 None ∷ []))
unfolding piece_at name_at word_of number_at mark_of_one mark_of_two program_at item_at many_at stmt_at chain_at unary_at same_word same_mark
a_labelled_block = parsed_tree _ _ [] refl

pub a_plain_block : IsTree (tokens_in (in_body (codes "do{}finish;"))) (with_body (s.Do 9 None [] ∷ []))
unfolding piece_at name_at word_of number_at mark_of_one mark_of_two program_at item_at many_at stmt_at chain_at unary_at same_word same_mark
a_plain_block = parsed_tree _ _ [] refl

pub an_array : IsTree (tokens_in (in_body (codes "int h[3];h[2]=1;"))) (with_body (s.Array 9 (codes "h") (pos 3)
    ∷ s.Assign 18 (e.Index 18 (codes "h") (e.Number 20 (pos 2))) (e.Number 23 (pos 1)) ∷ []))
unfolding piece_at name_at word_of number_at mark_of_one mark_of_two program_at item_at many_at stmt_at chain_at unary_at same_word same_mark
an_array = parsed_tree _ _ [] refl

pub a_call : IsTree (tokens_in (in_body (codes "g(1,x);"))) (with_body (s.Call 9 (e.Call 9 (codes "g") ((e.Number 11 (pos 1)) ∷ e.Name 13 (codes "x") ∷ [])) ∷ []))
unfolding piece_at name_at word_of number_at mark_of_one mark_of_two program_at item_at many_at stmt_at chain_at unary_at same_word same_mark
a_call = parsed_tree _ _ [] refl

pub a_send : IsTree (tokens_in (in_body (codes "x=Send(c,1);"))) (with_body (s.Assign 9 (e.Name 9 (codes "x")) (e.Send 11 (codes "c") (e.Number 18 (pos 1))) ∷ []))
unfolding piece_at name_at word_of number_at mark_of_one mark_of_two program_at item_at many_at stmt_at chain_at unary_at same_word same_mark
a_send = parsed_tree _ _ [] refl

pub a_recv : IsTree (tokens_in (in_body (codes "Recv(c,&x);"))) (with_body (s.Call 9 (e.Recv 9 (codes "c") (e.Name 17 (codes "x"))) ∷ []))
unfolding piece_at name_at word_of number_at mark_of_one mark_of_two program_at item_at many_at stmt_at chain_at unary_at same_word same_mark
a_recv = parsed_tree _ _ [] (simp recv_place)

pub a_read : IsTree (tokens_in (in_body (codes "Read(f,0,1,h);"))) (with_body (s.Call 9 (e.Read 9 (codes "f") (e.Number 16 (pos 0)) (e.Number 18 (pos 1)) (codes "h")) ∷ []))
unfolding piece_at name_at word_of number_at mark_of_one mark_of_two program_at item_at many_at stmt_at chain_at unary_at same_word same_mark
a_read = parsed_tree _ _ [] (simp read_place)

pub a_write : IsTree (tokens_in (in_body (codes "Write(f,0,1,h);"))) (with_body (s.Call 9 (e.Write 9 (codes "f") (e.Number 17 (pos 0)) (e.Number 19 (pos 1)) (codes "h")) ∷ []))
unfolding piece_at name_at word_of number_at mark_of_one mark_of_two program_at item_at many_at stmt_at chain_at unary_at same_word same_mark
a_write = parsed_tree _ _ [] (simp write_place)

-- ---- texts that are no program, and their first token with which none begins

-- a name where a parenthesis must be
pub no_parenthesis : UnexpectedAt 9 (tokens_in (codes "core a f;")) 7
unfolding piece_at name_at word_of number_at mark_of_one mark_of_two program_at item_at many_at stmt_at chain_at unary_at same_word same_mark
no_parenthesis = parsed_unexpected 9 _ _ 7 refl refl

-- the tokens end too early: the place is the length of the text
pub no_semicolon : UnexpectedAt 9 (tokens_in (codes "core a(f)")) 9
unfolding piece_at name_at word_of number_at mark_of_one mark_of_two program_at item_at many_at stmt_at chain_at unary_at same_word same_mark
no_semicolon = parsed_unexpected 9 _ _ 9 refl refl

-- with no item
pub no_such_item : UnexpectedAt 1 (tokens_in (codes "1")) 0
unfolding piece_at name_at word_of number_at mark_of_one mark_of_two program_at item_at many_at stmt_at chain_at unary_at same_word same_mark
no_such_item = parsed_unexpected 1 _ _ 0 refl refl

-- an `else` without an `if`
pub no_statement : UnexpectedAt 15 (tokens_in (codes "void f(){else;}")) 9
unfolding piece_at name_at word_of number_at mark_of_one mark_of_two program_at item_at many_at stmt_at chain_at unary_at same_word same_mark
no_statement = parsed_unexpected 15 _ _ 9 refl refl

-- a declaration is no statement
pub no_declaration_after_an_if : UnexpectedAt 21 (tokens_in (codes "void f(){if(1)int x;}")) 14
unfolding piece_at name_at word_of number_at mark_of_one mark_of_two program_at item_at many_at stmt_at chain_at unary_at same_word same_mark
no_declaration_after_an_if = parsed_unexpected 21 _ _ 14 refl refl

-- an assignment has no value
pub no_chain_of_places : UnexpectedAt 16 (tokens_in (codes "void f(){x=y=1;}")) 12
unfolding piece_at name_at word_of number_at mark_of_one mark_of_two program_at item_at many_at stmt_at chain_at unary_at same_word same_mark
no_chain_of_places = parsed_unexpected 16 _ _ 12 refl refl

-- ---- answers

pub the_tree_is_answered : Parses 0 [] (Ok (program []))
the_tree_is_answered = the_empty_program

some_items : (x : Item) (xs : List Item) → x ∷ xs ≡ [] → ⊥
some_items x xs e = cc

pub another_tree_is_not : Parses 10 (tokens_in (codes "core a(f);")) (Ok (program [])) → ⊥
another_tree_is_not h = some_items _ _ (ap (λ (p : Program). p.items) (a_core_alone.only (program []) h.marks h.spells (sym h.split)))

pub the_place_is_answered : Parses 9 (tokens_in (codes "core a f;")) (Err (f.Unexpected 7))
the_place_is_answered = no_parenthesis

-- no program begins with a number
pub with_a_number : Stuck [] (a_number 1 0 ∷ [])
unfolding no_such_item
with_a_number = by _ _ no_such_item.split no_such_item.place no_such_item.stuck where
  longer : (t u : Token) (us ts : List Token) → a_number 1 0 ∷ [] ≡ t ∷ (us ++ u ∷ ts) → ⊥
  longer t u [] ts h = cc
  longer t u (v ∷ vs) ts h = cc

  by : (used rest : List Token) → a_number 1 0 ∷ [] ≡ used ++ rest → 0 ≡ place_in 1 rest → Stuck used rest → Stuck [] (a_number 1 0 ∷ [])
  by used [] split place h = absurd (omega (arith, place))
  by [] (t ∷ ts) split place h = subst (Stuck []) (sym split) h
  by (t ∷ ts) (u ∷ us) split place h = absurd (longer t u ts us split)

-- but the empty text is one
pub with_no_token : Stuck [] [] → ⊥
with_no_token h = h (program []) [] no_item refl

-- ---- a text that is too deep

-- so many opening parentheses from a place on
abbrev pub parens : ℕ → ℕ → List Token
parens zero at = []
parens (suc n) at = placed (k.Mark m.OpenParen) at (suc at) ∷ parens n (suc at)

-- void f(){x=((((..: the first parenthesis has the depth 2, so the 256th is the first that is too deep
abbrev pub deep : ℕ → List Token
deep count = tokens_in (codes "void f(){x=") ++ parens count 11

pub too_deep_at_the_256th : TooDeepAt (deep 256) 266
unfolding piece_at name_at word_of number_at mark_of_one mark_of_two program_at item_at many_at stmt_at chain_at unary_at same_word same_mark
too_deep_at_the_256th = parsed_too_deep 267 _ _ 266 refl refl

-- one less is not too deep, but no program ends there
pub not_too_deep_before : UnexpectedAt 266 (deep 255) 266
unfolding piece_at name_at word_of number_at mark_of_one mark_of_two program_at item_at many_at stmt_at chain_at unary_at same_word same_mark
not_too_deep_before = parsed_unexpected 266 _ _ 266 refl refl

-- ---- two.ac

-- core a(f); async void f() { printf("%d\n", 1+2*3); }
abbrev pub two_tree : Program
two_tree = program (i.Core 0 (codes "a") (codes "f")
    ∷ i.Function (record {
      at = 11;
      is_async = true;
      gives_int = false;
      name = codes "f";
      params = [];
      body = s.Print 28 (codes "%d\n") (e.Chain 43 9 (e.Number 43 (pos 1)) (link b.Add (e.Chain 45 10 (e.Number 45 (pos 2)) (link b.Mul (e.Number 47 (pos 3)) ∷ [])) ∷ []) ∷ []) ∷ [];
    })
    ∷ [])

pub two_ac : IsTree two_tokens two_tree
unfolding piece_at name_at word_of number_at mark_of_one mark_of_two program_at item_at many_at stmt_at chain_at unary_at same_word same_mark
two_ac = parsed_tree _ _ [] (rw (number_place 43 (pos 1), number_place 45 (pos 2)) refl)
