-- Small programs and the rules that they break, and the rules on single forms. Each law computes what the definitions say of one program and
-- compares it with what was worked out by hand; beside each that breaks a rule stands one that keeps it.
use Rattle.std.proofs.Common.{◌≡◌, refl, sym, ap, ◌∙◌, subst, ℕ, ℤ, pos, List, [], ◌∷◌, ◌++◌, map, codes, Bool, true, false, Option, Some, None, inl, inr, arith}
use Rattle.std.specs.Prelude.{negsuc, if◌then◌else◌}
use Rattle.ac_tree.specs.declared.expr.Expr.{Expr}
use Rattle.ac_tree.specs.declared.expr.Expr.TheVariants as e
use Rattle.ac_tree.specs.declared.expr.Expr.TheOpen.{Expr-F}
use Rattle.ac_tree.specs.declared.expr.BinaryOp.TheVariants as b
use Rattle.ac_tree.specs.declared.expr.Constant.TheVariants as c
use Rattle.ac_tree.specs.declared.stmt.Stmt.{Stmt}
use Rattle.ac_tree.specs.declared.stmt.Stmt.TheVariants as s
use Rattle.ac_tree.specs.declared.stmt.Stmt.TheOpen.{Stmt-F}
use Rattle.ac_tree.specs.declared.item.Item.{Item}
use Rattle.ac_tree.specs.declared.item.Item.TheVariants as i
use Rattle.ac_tree.specs.declared.item.Function.{Function}
use Rattle.ac_tree.specs.declared.item.Param.{Param}
use Rattle.ac_names.specs.declared.meaning.Meaning.{Meaning}
use Rattle.ac_names.specs.declared.meaning.Meaning.TheVariants as m
use Rattle.ac_names.specs.declared.names.Names.{Names}
use Rattle.ac_names.specs.Statements.{part, part_gives}
use Rattle.ac_names.specs.Items.{no_past, function_names}
use Rattle.ac_reach.specs.declared.reached.Reached.{Reached}
use Rattle.ac_reach.specs.declared.reached.Reached.TheVariants as r
use Rattle.ac_reach.specs.Reached.{AreRows}
use Rattle.ac_reach.proofs.Examples.{one_row}
use Rattle.ac_types.specs.declared.around.Around.{Around}
use Rattle.ac_types.specs.declared.around.Position.{Position}
use Rattle.ac_types.specs.declared.around.Position.TheVariants as p
use Rattle.ac_types.specs.declared.fault.CheckFault.TheVariants as f
use Rattle.ac_types.specs.declared.numbered.Callee.{Callee}
use Rattle.ac_types.specs.declared.numbered.Tables.{Tables}
use Rattle.ac_types.specs.declared.rule.Rule.TheVariants as rule
use Rattle.ac_types.specs.Rules.{rule_number, IsUpTo}
use Rattle.ac_types.specs.Tables.{callee}
use Rattle.ac_types.specs.Nodes.{Node}
use Rattle.ac_types.specs.Around.{is_array_position, is_used, position_of, inside_do, inside_async, inside_loop, is_closed, is_reached_by_another}
use Rattle.ac_types.specs.Formats.{HasHoles, no_more, a_byte, a_percent_sign, a_number, a_letter}
use Rattle.ac_types.specs.Judged.{Tests, lacks_one, value_tests, name_tests, index_tests, call_tests, sends_away, takes_away, channel_tests, file_tests, array_tests, holes}
use Rattle.ac_types.specs.Judged.{is_misplaced, is_miscounted, calls_async, uses_void, once_tests, is_size, is_misprinted, print_tests, leave_tests, return_tests, async_tests}
use Rattle.ac_types.specs.Judged.{body_tests, cancel_tests}
use Rattle.ac_types.specs.Expressions.{plain, number_of, call_node, name_in, ExprPart, ExprTold, told_nodes, expr_nodes, links_step, args_step, expr_gives, expr_step, link_step, expr_told, expr_all}
use Rattle.ac_types.specs.Expressions.{values_all, value_all, one_node, join_nodes}
use Rattle.ac_types.specs.Statements.{Gives, StmtPart, body_gives, some_gives, used, valued, for_gives, gives_step, stmt_all}
use Rattle.ac_types.specs.Items.{signature_of, global_tests, is_capacity, is_same_core, is_no_entry, around_of, params_give, function_gives, item_gives}
use Rattle.ac_types.specs.Items.{items_give, program_gives}
use Rattle.ac_types.specs.Items.{link_tests, path_tests, core_tests, program_tests, function_nodes, program_nodes}
use Rattle.ac_types.specs.Reached.{all_calls, AreReached, IsBrokenRule, BreaksIn, Breaks, IsLeastBroken, BreaksNone}
use Rattle.ac_types.specs.Verdicts.{IsFault}
use Rattle.ac_types.specs.inner.Seen.{first_of}
use Rattle.ac_types.proofs.Formats.{formats_are_printed}
use Rattle.ac_types.proofs.Forms.{ToldNodes, expr_is, stmt_is}
use Rattle.ac_types.proofs.Judging.{program_told}

-- ---- numbers and their order

pub seventeen_rules : map rule_number (rule.DeclaredOnce ∷ rule.NameIsDeclared ∷ rule.ArgumentsMatchParameters ∷ rule.NameFitsItsPlace ∷ rule.AsyncIsCalledInAsync ∷ rule.StandsInAsyncFunction
    ∷ rule.AsyncStandsInDo ∷ rule.CancelStandsInItsDo ∷ rule.JumpStaysInside ∷ rule.EntryIsAsyncWithoutParameters ∷ rule.OnlyItsEndUsesChannel ∷ rule.ValueFitsFunction ∷ rule.ArraySizeIsAllowed
    ∷ rule.ChannelIsAllowed ∷ rule.NumberOfCoresIsAllowed ∷ rule.FormatFitsArguments ∷ rule.FileIsAllowed ∷ [])
    ≡ 1 ∷ 2 ∷ 3 ∷ 4 ∷ 5 ∷ 6 ∷ 7 ∷ 8 ∷ 9 ∷ 10 ∷ 11 ∷ 12 ∷ 13 ∷ 14 ∷ 15 ∷ 16 ∷ 17 ∷ []
seventeen_rules = refl

-- a node comes before a rule, and a pair is up to itself
pub by_node_first : IsUpTo 2 18 3 1
by_node_first = inl (omega arith)

pub up_to_itself : IsUpTo 3 2 3 2
up_to_itself = inr (refl, omega arith)

pub not_the_greater_rule : IsUpTo 3 4 3 2 → ⊥
not_the_greater_rule (inl h) = omega (arith, h)
not_the_greater_rule (inr h) = let le = h.1 in omega (arith, le)

-- ---- where an expression stands, and what is around it

abbrev positions : List Position
positions = p.Statement ∷ p.Value ∷ p.Array ∷ p.Message ∷ []

pub positions_for_arrays : map is_array_position positions ≡ false ∷ false ∷ true ∷ false ∷ []
positions_for_arrays = refl

pub positions_whose_value_is_used : map is_used positions ≡ false ∷ true ∷ true ∷ true ∷ []
positions_whose_value_is_used = refl

pub positions_of_arguments : map position_of (true ∷ false ∷ []) ≡ p.Array ∷ p.Value ∷ []
positions_of_arguments = refl

abbrev in_loop : Around
in_loop = record { is_async = true; gives_int = false; depth = 0; in_do = false; in_loop = true; reached = r.ByNone }

pub a_do_hides_the_loop : inside_do in_loop ≡ record { is_async = true; gives_int = false; depth = 0; in_do = true; in_loop = false; reached = r.ByNone }
a_do_hides_the_loop = refl

pub a_body_hides_the_loop : inside_async in_loop ≡ record { is_async = true; gives_int = false; depth = 1; in_do = false; in_loop = false; reached = r.ByNone }
a_body_hides_the_loop = refl

pub no_return_from_a_do_or_a_body : map is_closed (in_loop ∷ inside_do in_loop ∷ inside_async in_loop ∷ inside_loop (inside_do in_loop) ∷ []) ≡ false ∷ true ∷ true ∷ true ∷ []
no_return_from_a_do_or_a_body = refl

-- the core 1, and no core
pub reached_by_others : map (λ (row : Reached). is_reached_by_another row (Some 1)) (r.ByNone ∷ r.ByOne 0 ∷ r.ByOne 1 ∷ r.BySeveral ∷ []) ≡ false ∷ true ∷ false ∷ true ∷ []
reached_by_others = refl

pub another_than_no_core : map (λ (row : Reached). is_reached_by_another row None) (r.ByNone ∷ r.ByOne 0 ∷ r.BySeveral ∷ []) ≡ false ∷ true ∷ true ∷ []
another_than_no_core = refl

-- ---- formats

pub two_holes : HasHoles (codes "a%d%c%%") 2
two_holes = a_byte _ _ _ (λ h. omega (arith, h)) (a_number _ _ (a_letter _ _ (a_percent_sign _ _ no_more)))

pub no_hole_after_a_percent_sign : HasHoles (codes "%%d") 0
no_hole_after_a_percent_sign = a_percent_sign _ _ (a_byte _ _ _ (λ h. omega (arith, h)) no_more)

pub no_format : HasHoles (codes "%x") 0 → ⊥
no_format h = let e = (formats_are_printed (codes "%x") 0).1 h in cc e

pub no_format_ends_in_a_percent : HasHoles (codes "%d%") 1 → ⊥
no_format_ends_in_a_percent h = let e = (formats_are_printed (codes "%d%") 1).1 h in cc e

pub no_three_holes : HasHoles (codes "%d%c%%") 3 → ⊥
no_three_holes h = let e = (formats_are_printed (codes "%d%c%%") 3).1 h in cc e

pub formats_are_counted : map (λ (text : List ℕ). holes false 0 text) (codes "%d%c%%" ∷ codes "" ∷ codes "%x" ∷ codes "%d%" ∷ []) ≡ Some 2 ∷ Some 0 ∷ None ∷ None ∷ []
formats_are_counted = refl

-- ---- the rules on single forms: the numbers of those that are broken

abbrev broken : Tests → List ℕ
broken [] = []
broken (t ∷ ts) = if t.1 then rule_number t.0 ∷ broken ts else broken ts

abbrev an_int : Option Meaning
an_int = Some (m.Local 0 0)

abbrev an_array : Option Meaning
an_array = Some (m.ArrayParam 0)

pub a_value_is_no_array : map (λ (w : Position). broken (value_tests w)) positions ≡ [] ∷ [] ∷ (4 ∷ []) ∷ [] ∷ []
a_value_is_no_array = refl

pub names_as_values : map (λ (o : Option Meaning). broken (name_tests o p.Value)) (None ∷ an_int ∷ Some (m.Global 0) ∷ an_array ∷ Some (m.Function 0) ∷ [])
    ≡ (2 ∷ []) ∷ [] ∷ [] ∷ (4 ∷ []) ∷ (4 ∷ []) ∷ []
names_as_values = refl

pub names_for_array_parameters : map (λ (o : Option Meaning). broken (name_tests o p.Array)) (None ∷ an_int ∷ an_array ∷ Some (m.GlobalArray 0 4) ∷ Some (m.LocalArray 0 0 4) ∷ [])
    ≡ (2 ∷ []) ∷ (4 ∷ []) ∷ [] ∷ [] ∷ [] ∷ []
names_for_array_parameters = refl

-- what is sent whole may be an int or an array
pub names_as_messages : map (λ (o : Option Meaning). broken (name_tests o p.Message)) (None ∷ an_int ∷ an_array ∷ Some (m.LocalArray 0 0 4) ∷ Some (m.Function 0) ∷ [])
    ≡ (2 ∷ []) ∷ [] ∷ [] ∷ [] ∷ (4 ∷ []) ∷ []
names_as_messages = refl

pub elements_of_arrays : map (λ (o : Option Meaning). broken (index_tests o p.Value)) (None ∷ an_int ∷ an_array ∷ []) ≡ (2 ∷ []) ∷ (4 ∷ []) ∷ [] ∷ []
elements_of_arrays = refl

pub no_element_for_an_array : broken (index_tests an_array p.Array) ≡ 4 ∷ []
no_element_for_an_array = refl

abbrev with : Bool → Bool → ℕ → Option Callee
with is_async gives_int params = Some (record { number = 0; is_async = is_async; gives_int = gives_int; params = params })

abbrev in_plain : Around
in_plain = record { is_async = false; gives_int = false; depth = 0; in_do = false; in_loop = false; reached = r.ByNone }

abbrev call : Option Callee → ℕ → Around → Position → List ℕ
call callee args a w = broken (call_tests (Some (m.Function 0)) callee args a w)

pub calls_by_their_callee : call (with false true 1) 1 in_plain p.Value ∷ call (with false true 1) 0 in_plain p.Value
    ∷ call (with false false 1) 1 in_plain p.Statement
    ∷ call (with false false 1) 1 in_plain p.Value ∷ call (with true false 0) 0 in_plain p.Statement ∷ call (with true false 0) 0 in_loop p.Statement ∷ call (with true false 1) 0 in_plain p.Array ∷ []
    ≡ [] ∷ (3 ∷ []) ∷ [] ∷ (12 ∷ []) ∷ (5 ∷ []) ∷ [] ∷ (3 ∷ 4 ∷ 5 ∷ 12 ∷ []) ∷ []
calls_by_their_callee = refl

-- what is no function has no parameters to be counted
pub calls_of_what_is_none : map (λ (o : Option Meaning). broken (call_tests o None 7 in_plain p.Statement)) (None ∷ an_int ∷ []) ≡ (2 ∷ []) ∷ (4 ∷ []) ∷ []
calls_of_what_is_none = refl

abbrev of_core : ℕ → Around
of_core core = record { is_async = true; gives_int = false; depth = 0; in_do = false; in_loop = false; reached = r.ByOne core }

-- from the core 0 to the core 1
abbrev away : Around → Bool × Bool
away a = (sends_away a.reached (Some (record { from = Some 0; to = Some 1 })), takes_away a.reached (Some (record { from = Some 0; to = Some 1 })))

pub away_from_the_ends : map away (of_core 0 ∷ of_core 1 ∷ in_loop ∷ []) ≡ (false, true) ∷ (true, false) ∷ (false, false) ∷ []
away_from_the_ends = refl

pub operations_on_channels : map (λ (o : Option Meaning). broken (channel_tests o false false in_loop p.Value)) (None ∷ an_int ∷ Some (m.Channel 0) ∷ []) ≡ (2 ∷ []) ∷ (4 ∷ []) ∷ [] ∷ []
operations_on_channels = refl

pub an_operation_of_other_ints : broken (channel_tests (Some (m.Channel 0)) true false in_loop p.Value) ≡ 4 ∷ []
an_operation_of_other_ints = refl

pub an_operation_that_breaks_more : broken (channel_tests (Some (m.Channel 0)) false true in_plain p.Array) ≡ 4 ∷ 6 ∷ 11 ∷ []
an_operation_that_breaks_more = refl

pub operations_on_files : map (λ (o : Option Meaning). broken (file_tests (Some (m.File 0)) o in_loop p.Value)) (None ∷ an_int ∷ an_array ∷ []) ≡ (2 ∷ []) ∷ (4 ∷ []) ∷ [] ∷ []
operations_on_files = refl

pub a_file_that_is_none : map (λ (o : Option Meaning). broken (file_tests o an_array in_plain p.Value)) (None ∷ an_int ∷ Some (m.File 0) ∷ [])
    ≡ (2 ∷ 6 ∷ []) ∷ (4 ∷ 6 ∷ []) ∷ (6 ∷ []) ∷ []
a_file_that_is_none = refl

-- where one of two names is not declared, the other may be anything; what stands where an array is wanted is asked of no name
pub one_of_two_names : lacks_one None None ∷ lacks_one None an_int ∷ lacks_one an_int None ∷ lacks_one an_int an_array ∷ [] ≡ true ∷ true ∷ true ∷ false ∷ []
one_of_two_names = refl

pub a_file_beside_no_array : broken (file_tests None an_int in_loop p.Value) ∷ broken (file_tests an_int None in_loop p.Value) ∷ broken (file_tests an_int an_int in_loop p.Value)
    ∷ broken (file_tests None an_int in_loop p.Array) ∷ [] ≡ (2 ∷ []) ∷ (2 ∷ []) ∷ (4 ∷ []) ∷ (2 ∷ 4 ∷ []) ∷ []
a_file_beside_no_array = refl

pub a_channel_beside_no_core : broken (link_tests None None (Some (m.Function 0)) (pos 1) 0) ∷ broken (link_tests None (Some (m.Function 0)) None (pos 0) 0)
    ∷ broken (link_tests None (Some (m.Core 0)) (Some (m.Function 0)) (pos 1) 0) ∷ [] ≡ (2 ∷ []) ∷ (2 ∷ 14 ∷ []) ∷ (4 ∷ []) ∷ []
a_channel_beside_no_core = refl

pub sizes_of_arrays : map (λ (size : ℤ). broken (array_tests None size)) (negsuc 0 ∷ pos 0 ∷ pos 1 ∷ pos 4096 ∷ pos 4097 ∷ []) ≡ (13 ∷ []) ∷ (13 ∷ []) ∷ [] ∷ [] ∷ (13 ∷ []) ∷ []
sizes_of_arrays = refl

pub capacities_of_channels : map (λ (cap : ℤ). broken (link_tests None (Some (m.Core 0)) (Some (m.Core 1)) cap 63)) (negsuc 0 ∷ pos 0 ∷ pos 1 ∷ pos 64 ∷ pos 65 ∷ [])
    ≡ (14 ∷ []) ∷ (14 ∷ []) ∷ [] ∷ [] ∷ (14 ∷ []) ∷ []
capacities_of_channels = refl

pub channel_65 : broken (link_tests None (Some (m.Core 0)) (Some (m.Core 1)) (pos 1) 64) ≡ 14 ∷ []
channel_65 = refl

pub ends_of_channels : map (λ (o : Option Meaning). broken (link_tests (Some (m.Global 0)) (Some (m.Core 0)) o (pos 1) 0)) (None ∷ an_int ∷ Some (m.Core 0) ∷ Some (m.Core 1) ∷ [])
    ≡ (1 ∷ 2 ∷ []) ∷ (1 ∷ 4 ∷ []) ∷ (1 ∷ 14 ∷ []) ∷ (1 ∷ []) ∷ []
ends_of_channels = refl

pub sixteen_files : broken (path_tests None 15 None) ∷ broken (path_tests None 16 None) ∷ broken (path_tests None 1 (Some (m.File 0))) ∷ broken (path_tests (Some (m.File 0)) 1 None) ∷ []
    ≡ [] ∷ (17 ∷ []) ∷ (17 ∷ []) ∷ (1 ∷ []) ∷ []
sixteen_files = refl

pub entries_of_cores : map (λ (callee : Option Callee). broken (core_tests None (Some (m.Function 0)) callee)) (with true false 0 ∷ with true true 0 ∷ with true false 1 ∷ with false false 0 ∷ [])
    ≡ [] ∷ [] ∷ (10 ∷ []) ∷ (10 ∷ []) ∷ []
entries_of_cores = refl

pub entries_that_are_none : map (λ (o : Option Meaning). broken (core_tests an_int o None)) (None ∷ an_int ∷ []) ≡ (1 ∷ 2 ∷ []) ∷ (1 ∷ 4 ∷ []) ∷ []
entries_that_are_none = refl

pub numbers_of_cores : map (λ (n : ℕ). broken (program_tests n)) (0 ∷ 1 ∷ 16 ∷ 17 ∷ []) ≡ (15 ∷ []) ∷ [] ∷ [] ∷ (15 ∷ []) ∷ []
numbers_of_cores = refl

pub returns_of_a_function : map (λ (gives : Bool). broken (return_tests (record in_plain { gives_int = true }) gives)) (true ∷ false ∷ []) ≡ [] ∷ (12 ∷ []) ∷ []
returns_of_a_function = refl

pub returns_in_a_body : map (λ (gives : Bool). broken (return_tests (inside_async in_loop) gives)) (true ∷ false ∷ []) ≡ (9 ∷ 12 ∷ []) ∷ (9 ∷ []) ∷ []
returns_in_a_body = refl

-- ---- the questions that the rules ask

pub misplaced_names : is_misplaced an_int p.Array ∷ is_misplaced an_array p.Array ∷ is_misplaced an_int p.Value ∷ is_misplaced an_array p.Value ∷ is_misplaced None p.Value ∷ []
    ≡ true ∷ false ∷ false ∷ true ∷ false ∷ []
misplaced_names = refl

pub miscounted_arguments : is_miscounted (with true true 2) 2 ∷ is_miscounted (with true true 2) 1 ∷ is_miscounted None 1 ∷ [] ≡ false ∷ true ∷ false ∷ []
miscounted_arguments = refl

pub async_calls : calls_async (with true false 0) in_plain ∷ calls_async (with true false 0) in_loop ∷ calls_async (with false false 0) in_plain ∷ calls_async None in_plain ∷ []
    ≡ true ∷ false ∷ false ∷ false ∷ []
async_calls = refl

pub void_values : uses_void (with false false 0) p.Value ∷ uses_void (with false false 0) p.Statement ∷ uses_void (with false true 0) p.Value ∷ uses_void None p.Value ∷ []
    ≡ true ∷ false ∷ false ∷ false ∷ []
void_values = refl

pub sizes : map is_size (negsuc 0 ∷ pos 0 ∷ pos 1 ∷ pos 4096 ∷ pos 4097 ∷ []) ≡ false ∷ false ∷ true ∷ true ∷ false ∷ []
sizes = refl

pub capacities : map is_capacity (negsuc 0 ∷ pos 0 ∷ pos 1 ∷ pos 64 ∷ pos 65 ∷ []) ≡ false ∷ false ∷ true ∷ true ∷ false ∷ []
capacities = refl

pub the_same_core : is_same_core (Some (m.Core 1)) (Some (m.Core 1)) ∷ is_same_core (Some (m.Core 1)) (Some (m.Core 2)) ∷ is_same_core (Some (m.Core 1)) None
    ∷ is_same_core (Some (m.File 1)) (Some (m.File 1)) ∷ [] ≡ true ∷ false ∷ false ∷ false ∷ []
the_same_core = refl

pub no_entries : map is_no_entry (None ∷ with true false 0 ∷ with true true 0 ∷ with true false 1 ∷ with false false 0 ∷ []) ≡ false ∷ false ∷ false ∷ true ∷ true ∷ []
no_entries = refl

pub misprinted : is_misprinted None 0 ∷ is_misprinted (Some 2) 2 ∷ is_misprinted (Some 2) 1 ∷ [] ≡ true ∷ false ∷ true ∷ []
misprinted = refl

pub declarations : map broken (once_tests None ∷ once_tests an_int ∷ global_tests None None ∷ global_tests an_int None ∷ global_tests None (Some (pos 0)) ∷ global_tests an_int (Some (pos 4097)) ∷ [])
    ≡ [] ∷ (1 ∷ []) ∷ [] ∷ (1 ∷ []) ∷ (13 ∷ []) ∷ (1 ∷ 13 ∷ []) ∷ []
declarations = refl

pub prints : map broken (print_tests (codes "%d") 1 ∷ print_tests (codes "%d") 0 ∷ print_tests (codes "%") 0 ∷ []) ≡ [] ∷ (16 ∷ []) ∷ (16 ∷ []) ∷ []
prints = refl

-- `break`, `yield` and `async` in a loop, in a plain function, and in a `do`
pub jumps : map (λ (a : Around). broken (leave_tests a)) (in_loop ∷ in_plain ∷ inside_do in_loop ∷ []) ≡ [] ∷ (9 ∷ []) ∷ (9 ∷ []) ∷ []
jumps = refl

pub yields : map (λ (a : Around). broken (async_tests a)) (in_loop ∷ in_plain ∷ inside_do in_loop ∷ []) ≡ [] ∷ (6 ∷ []) ∷ [] ∷ []
yields = refl

pub bodies : map (λ (a : Around). broken (body_tests a)) (in_loop ∷ in_plain ∷ inside_do in_loop ∷ []) ≡ (7 ∷ []) ∷ (6 ∷ 7 ∷ []) ∷ [] ∷ []
bodies = refl

pub cancels : map broken (cancel_tests (Some (m.Label 0 0)) in_loop ∷ cancel_tests None in_loop ∷ cancel_tests None in_plain ∷ []) ≡ [] ∷ (8 ∷ []) ∷ (6 ∷ 8 ∷ []) ∷ []
cancels = refl

-- ---- what the forms give by their parts

abbrev firsts : List Node → List ℕ
firsts nodes = map (λ (n : Node). n.at) nodes

abbrev pub no_tables : Tables
no_tables = record { functions = []; channels = []; widths = []; reached = [] }

abbrev from_slot : ℕ → Names
from_slot slot = record { scopes = []; labels = []; slot = slot }

-- an expression whose node begins at 7, or at 9 where an array has to stand
abbrev seven : ExprPart (List Node) one_node [] join_nodes
seven t scopes a w = plain (if is_array_position w then 9 else 7) [] ∷ []

-- it is no name
abbrev seven_told : ExprTold (List Node) one_node [] join_nodes
seven_told = (None, seven)

pub nodes_in_a_row : join_nodes (one_node (plain 4 [])) (one_node (plain 5 [])) ≡ plain 4 [] ∷ plain 5 [] ∷ []
nodes_in_a_row = refl

pub a_call_tells_its_function : call_node 28 (Some (m.Function 3)) (Some (record { number = 3; is_async = true; gives_int = false; params = 0 })) 0 in_loop p.Statement
    ≡ record { at = 28; tests = call_tests (Some (m.Function 3)) (Some (record { number = 3; is_async = true; gives_int = false; params = 0 })) 0 in_loop p.Statement; calls = Some 3; carries = None }
a_call_tells_its_function = refl

pub numbers_of_callees : number_of None ∷ number_of (with true false 0) ∷ [] ≡ None ∷ Some 0 ∷ []
numbers_of_callees = refl

pub operands_of_a_chain : firsts (links_step (List Node) one_node [] join_nodes (seven ∷ seven ∷ []) no_tables [] in_plain) ≡ 7 ∷ 7 ∷ []
operands_of_a_chain = refl

pub an_operand : firsts (link_step (List Node) one_node [] join_nodes (record { op = b.Add; operand = seven_told }) no_tables [] in_plain p.Value) ≡ 7 ∷ []
an_operand = refl

-- f(.., ..), where f takes an array and an int
abbrev one_array : Tables
one_array = record { functions = record { is_async = false; gives_int = false; params = true ∷ false ∷ [] } ∷ []; channels = []; widths = []; reached = [] }

pub arguments_by_their_parameters : firsts (args_step (List Node) one_node [] join_nodes (Some (m.Function 0)) 0 (seven_told ∷ seven_told ∷ []) one_array [] in_plain) ≡ 9 ∷ 7 ∷ []
arguments_by_their_parameters = refl

-- the node of h[..] comes before that of its index
pub an_element_in_preorder : firsts (expr_gives (List Node) one_node [] join_nodes (Expr-F.Index 3 (codes "h") seven_told) no_tables [] in_plain p.Value) ≡ 3 ∷ 7 ∷ []
an_element_in_preorder = refl

pub names_of_forms : name_in {A = List ℕ} {B = List ℕ} (Expr-F.Name 3 (codes "h")) ∷ name_in {A = List ℕ} {B = List ℕ} (Expr-F.Number 3 (pos 1)) ∷ [] ≡ Some (codes "h") ∷ None ∷ []
names_of_forms = refl

pub told_with_its_name : (expr_step (List Node) one_node [] join_nodes (Expr-F.Name 3 (codes "h"))).0 ∷ (expr_step (List Node) one_node [] join_nodes (Expr-F.Group 3 seven_told)).0 ∷ []
    ≡ Some (codes "h") ∷ None ∷ []
told_with_its_name = refl

pub an_expression_with_its_name : (expr_told (List Node) one_node [] join_nodes (e.Name 5 (codes "h"))).0 ∷ (told_nodes (e.Number 5 (pos 1))).0 ∷ [] ≡ Some (codes "h") ∷ None ∷ []
an_expression_with_its_name = rw (expr_is _ (e.rolls-Name 5 (codes "h")), expr_is _ (e.rolls-Number 5 (pos 1))) refl

pub a_number_has_one_node : firsts (expr_all (List Node) one_node [] join_nodes (e.Number 5 (pos 1)) no_tables [] in_plain p.Value) ≡ 5 ∷ []
a_number_has_one_node = ap (λ (g : ToldNodes). firsts (g.1 no_tables [] in_plain p.Value)) (expr_is _ (e.rolls-Number 5 (pos 1)))

pub values_in_order : firsts (values_all (List Node) one_node [] join_nodes (e.Number 5 (pos 1) ∷ e.Number 8 (pos 1) ∷ []) no_tables [] in_plain) ≡ 5 ∷ 8 ∷ []
values_in_order =
    ap (λ (g : ToldNodes). firsts (g.1 no_tables [] in_plain p.Value ++ (expr_nodes (e.Number 8 (pos 1)) no_tables [] in_plain p.Value ++ []))) (expr_is _ (e.rolls-Number 5 (pos 1)))
    ∙ ap (λ (g : ToldNodes). 5 ∷ firsts (g.1 no_tables [] in_plain p.Value ++ [])) (expr_is _ (e.rolls-Number 8 (pos 1)))

pub a_value_that_may_be_left_out : firsts (value_all (List Node) one_node [] join_nodes None no_tables [] in_plain)
    ∷ firsts (value_all (List Node) one_node [] join_nodes (Some (e.Number 5 (pos 1))) no_tables [] in_plain) ∷ [] ≡ [] ∷ (5 ∷ []) ∷ []
a_value_that_may_be_left_out = ap (λ (g : ToldNodes). [] ∷ firsts (g.1 no_tables [] in_plain p.Value) ∷ []) (expr_is _ (e.rolls-Number 5 (pos 1)))

pub a_value_that_is_used : firsts (used (List Node) one_node [] join_nodes (e.Number 5 (pos 1)) no_tables (from_slot 0) in_plain)
    ∷ firsts (valued (List Node) one_node [] join_nodes (Some (e.Number 5 (pos 1))) no_tables (from_slot 0) in_plain) ∷ [] ≡ (5 ∷ []) ∷ (5 ∷ []) ∷ []
a_value_that_is_used =
    ap (λ (g : ToldNodes). firsts (g.1 no_tables [] in_plain p.Value) ∷ firsts (g.1 no_tables [] in_plain p.Value) ∷ []) (expr_is _ (e.rolls-Number 5 (pos 1)))

-- a statement that takes one slot, and whose node begins at the number of that slot
abbrev slot_told : Gives (List Node)
slot_told t n a = plain n.slot [] ∷ []

abbrev one_slot : StmtPart (List Node)
one_slot = part None 1 slot_told

pub each_after_those_before : firsts (body_gives (List Node) one_node [] join_nodes (one_slot ∷ one_slot ∷ []) no_tables (from_slot 5) in_plain) ≡ 5 ∷ 6 ∷ []
each_after_those_before = refl

pub one_that_may_be_left_out : firsts (some_gives (List Node) one_node [] join_nodes None no_tables (from_slot 5) in_plain)
    ∷ firsts (some_gives (List Node) one_node [] join_nodes (Some one_slot) no_tables (from_slot 5) in_plain) ∷ [] ≡ [] ∷ (5 ∷ []) ∷ []
one_that_may_be_left_out = refl

-- the third part of a `for`, and then its body
pub parts_of_a_for : firsts (for_gives (List Node) one_node [] join_nodes None (Some one_slot) one_slot no_tables (from_slot 5) in_plain) ≡ 5 ∷ 6 ∷ []
parts_of_a_for = refl

-- { .. .. } and async .., which has a frame of its own
pub a_block_and_a_body : firsts (gives_step (List Node) one_node [] join_nodes (Stmt-F.Block 3 (one_slot ∷ one_slot ∷ [])) no_tables (from_slot 5) in_plain)
    ∷ firsts (gives_step (List Node) one_node [] join_nodes (Stmt-F.Async 3 one_slot) no_tables (from_slot 5) in_plain) ∷ [] ≡ (3 ∷ 5 ∷ 6 ∷ []) ∷ (3 ∷ 0 ∷ []) ∷ []
a_block_and_a_body = refl

pub a_yield_has_one_node : firsts (part_gives (stmt_all (List Node) one_node [] join_nodes (s.Yield 4)) no_tables (from_slot 0) in_plain) ≡ 4 ∷ []
a_yield_has_one_node = rw (stmt_is _ (s.rolls-Yield 4)) refl

-- ---- small programs: the first bytes of the nodes that break rules, with the numbers of those rules

abbrev with_fault : ℕ → List ℕ → List (ℕ × List ℕ) → List (ℕ × List ℕ)
with_fault at [] rest = rest
with_fault at (r ∷ rs) rest = (at, r ∷ rs) ∷ rest

abbrev pub faults : List Node → List (ℕ × List ℕ)
faults [] = []
faults (n ∷ ns) = with_fault n.at (broken n.tests) (faults ns)

abbrev pub a_function : ℕ → Bool → Bool → List ℕ → List Param → List Stmt → Item
a_function at is_async gives_int name params body = i.Function (record { at = at; is_async = is_async; gives_int = gives_int; name = name; params = params; body = body })

-- core a(f); async void f() { .. }
abbrev pub one_core : List Stmt → List Item
one_core body = i.Core 0 (codes "a") (codes "f") ∷ a_function 11 true false (codes "f") [] body ∷ []

abbrev in_one_core : List Stmt → List (ℕ × List ℕ)
in_one_core body = faults (program_nodes (one_core body) (r.ByOne 0 ∷ []))

abbrev pub a_number_at : ℕ → Expr
a_number_at at = e.Number at (pos 1)

-- int f(int x, int x[]) {}
abbrev two_parameters : Function
two_parameters = record {
  at = 11;
  is_async = false;
  gives_int = true;
  name = codes "f";
  params = record { at = 17; name = codes "x"; is_array = false } ∷ record { at = 24; name = codes "x"; is_array = true } ∷ [];
  body = [];
}

pub the_second_parameter_again : faults (params_give (List Node) one_node [] join_nodes two_parameters.params (function_names [])) ≡ (24, 1 ∷ []) ∷ []
the_second_parameter_again = refl

pub nodes_of_a_function : firsts (function_gives (List Node) one_node [] join_nodes two_parameters no_tables [] r.ByNone) ∷ firsts (function_nodes two_parameters no_tables [] r.ByNone) ∷ []
    ≡ (17 ∷ 24 ∷ []) ∷ (17 ∷ 24 ∷ []) ∷ []
nodes_of_a_function = refl

pub around_its_body : around_of two_parameters (r.ByOne 2) ≡ record { is_async = false; gives_int = true; depth = 0; in_do = false; in_loop = false; reached = r.ByOne 2 }
around_its_body = refl

pub its_signature : signature_of two_parameters ≡ record { is_async = false; gives_int = true; params = false ∷ true ∷ [] }
its_signature = refl

-- the node of an item, and then those of what stands in it
pub nodes_of_an_item : firsts (item_gives (List Node) one_node [] join_nodes no_past (i.Function two_parameters) no_tables []) ≡ 11 ∷ 17 ∷ 24 ∷ []
nodes_of_an_item = refl

-- int x; int x;
pub a_global_again : faults (items_give (List Node) one_node [] join_nodes no_past (i.Global 0 (codes "x") None (pos 0) ∷ i.Global 7 (codes "x") None (pos 0) ∷ []) no_tables []) ≡ (7, 1 ∷ []) ∷ []
a_global_again = refl

-- the program's own node comes first
pub nodes_of_a_program : firsts (program_gives (List Node) one_node [] join_nodes (i.Global 7 (codes "x") None (pos 0) ∷ []) []) ≡ 0 ∷ 7 ∷ []
nodes_of_a_program = refl

pub the_empty_program : faults (program_nodes [] []) ≡ (0, 15 ∷ []) ∷ []
the_empty_program = refl

-- int x; int x;
pub declared_twice : in_one_core (s.Int 28 (codes "x") None ∷ s.Int 35 (codes "x") None ∷ []) ≡ (35, 1 ∷ []) ∷ []
declared_twice = rw (stmt_is _ (s.rolls-Int 28 (codes "x") None), stmt_is _ (s.rolls-Int 35 (codes "x") None)) refl

-- int x; { int x; }
pub declared_in_two_scopes : in_one_core (s.Int 28 (codes "x") None ∷ s.Block 35 (s.Int 37 (codes "x") None ∷ []) ∷ []) ≡ []
declared_in_two_scopes = rw (stmt_is _ (s.rolls-Int 28 (codes "x") None), stmt_is _ (s.rolls-Block 35 (s.Int 37 (codes "x") None ∷ [])), stmt_is _ (s.rolls-Int 37 (codes "x") None)) refl

-- x = 1;
abbrev undeclared : List Stmt
undeclared = s.Assign 28 (e.Name 28 (codes "x")) (a_number_at 32) ∷ []

pub not_declared : in_one_core undeclared ≡ (28, 2 ∷ []) ∷ []
not_declared = rw (stmt_is _ (s.rolls-Assign 28 (e.Name 28 (codes "x")) (a_number_at 32)), expr_is _ (e.rolls-Name 28 (codes "x")), expr_is _ (e.rolls-Number 32 (pos 1))) refl

-- int x = x;
pub not_declared_before_its_end : in_one_core (s.Int 28 (codes "x") (Some (e.Name 36 (codes "x"))) ∷ []) ≡ (36, 2 ∷ []) ∷ []
not_declared_before_its_end = rw (stmt_is _ (s.rolls-Int 28 (codes "x") (Some (e.Name 36 (codes "x")))), expr_is _ (e.rolls-Name 36 (codes "x"))) refl

-- f = 1;
pub a_function_is_no_variable : in_one_core (s.Assign 28 (e.Name 28 (codes "f")) (a_number_at 32) ∷ []) ≡ (28, 4 ∷ []) ∷ []
a_function_is_no_variable = rw (stmt_is _ (s.rolls-Assign 28 (e.Name 28 (codes "f")) (a_number_at 32)), expr_is _ (e.rolls-Name 28 (codes "f")), expr_is _ (e.rolls-Number 32 (pos 1))) refl

-- f(1);
pub an_argument_too_many : in_one_core (s.Call 28 (e.Call 28 (codes "f") (a_number_at 30 ∷ [])) ∷ []) ≡ (28, 3 ∷ []) ∷ []
an_argument_too_many = rw (
  stmt_is _ (s.rolls-Call 28 (e.Call 28 (codes "f") (a_number_at 30 ∷ []))),
  expr_is _ (e.rolls-Call 28 (codes "f") (a_number_at 30 ∷ [])),
  expr_is _ (e.rolls-Number 30 (pos 1)),
) refl

-- core a(f); async void f() {} void g() { f(); yield; }
pub in_a_plain_function : faults (program_nodes (one_core [] ++ a_function 30 false false (codes "g") [] (s.Call 41 (e.Call 41 (codes "f") []) ∷ s.Yield 46 ∷ []) ∷ []) (r.ByOne 0 ∷ r.ByNone ∷ []))
    ≡ (41, 5 ∷ []) ∷ (46, 6 ∷ []) ∷ []
in_a_plain_function = rw (stmt_is _ (s.rolls-Call 41 (e.Call 41 (codes "f") [])), expr_is _ (e.rolls-Call 41 (codes "f") []), stmt_is _ (s.rolls-Yield 46)) refl

-- async ;
pub a_body_in_no_do : in_one_core (s.Async 28 (s.Empty 34) ∷ []) ≡ (28, 7 ∷ []) ∷ []
a_body_in_no_do = rw (stmt_is _ (s.rolls-Async 28 (s.Empty 34)), stmt_is _ (s.rolls-Empty 34)) refl

-- k: do { async cancel k; cancel m; return; } finish
abbrev body_of_a_do : List Stmt
body_of_a_do = s.Async 36 (s.Cancel 42 (codes "k")) ∷ s.Cancel 52 (codes "m") ∷ s.Return 62 None ∷ []

pub in_a_do : in_one_core (s.Do 31 (Some (codes "k")) body_of_a_do ∷ []) ≡ (52, 8 ∷ []) ∷ (62, 9 ∷ []) ∷ []
in_a_do = rw (
  stmt_is _ (s.rolls-Do 31 (Some (codes "k")) body_of_a_do),
  stmt_is _ (s.rolls-Async 36 (s.Cancel 42 (codes "k"))),
  stmt_is _ (s.rolls-Cancel 42 (codes "k")),
  stmt_is _ (s.rolls-Cancel 52 (codes "m")),
  stmt_is _ (s.rolls-Return 62 None),
) refl

-- while (1) break; break;
pub in_no_loop : in_one_core (s.While 28 (a_number_at 35) (s.Break 38) ∷ s.Break 45 ∷ []) ≡ (45, 9 ∷ []) ∷ []
in_no_loop = rw (stmt_is _ (s.rolls-While 28 (a_number_at 35) (s.Break 38)), expr_is _ (e.rolls-Number 35 (pos 1)), stmt_is _ (s.rolls-Break 38), stmt_is _ (s.rolls-Break 45)) refl

-- while (1) continue; continue;
pub continued_in_no_loop : in_one_core (s.While 28 (a_number_at 35) (s.Continue 38) ∷ s.Continue 48 ∷ []) ≡ (48, 9 ∷ []) ∷ []
continued_in_no_loop = rw (stmt_is _ (s.rolls-While 28 (a_number_at 35) (s.Continue 38)), expr_is _ (e.rolls-Number 35 (pos 1)), stmt_is _ (s.rolls-Continue 38), stmt_is _ (s.rolls-Continue 48)) refl

-- while (1) do { continue; break; } finish; where the `do` is between them and the loop
abbrev out_of_a_do : List Stmt
out_of_a_do = s.Continue 43 ∷ s.Break 53 ∷ []

pub a_do_between : in_one_core (s.While 28 (a_number_at 35) (s.Do 38 None out_of_a_do) ∷ []) ≡ (43, 9 ∷ []) ∷ (53, 9 ∷ []) ∷ []
a_do_between = rw (
  stmt_is _ (s.rolls-While 28 (a_number_at 35) (s.Do 38 None out_of_a_do)),
  expr_is _ (e.rolls-Number 35 (pos 1)),
  stmt_is _ (s.rolls-Do 38 None out_of_a_do),
  stmt_is _ (s.rolls-Continue 43),
  stmt_is _ (s.rolls-Break 53),
) refl

-- a constant and a group for an int, and for an array
pub constants : faults (expr_nodes (e.Const 5 c.Ok) no_tables [] in_plain p.Value) ∷ faults (expr_nodes (e.Const 5 c.Ok) no_tables [] in_plain p.Array) ∷ [] ≡ [] ∷ ((5, 4 ∷ []) ∷ []) ∷ []
constants = ap (λ (g : ToldNodes). faults (g.1 no_tables [] in_plain p.Value) ∷ faults (g.1 no_tables [] in_plain p.Array) ∷ []) (expr_is _ (e.rolls-Const 5 c.Ok))

abbrev a_group : Expr
a_group = e.Group 5 (a_number_at 6)

pub groups : faults (expr_nodes a_group no_tables [] in_plain p.Value) ∷ faults (expr_nodes a_group no_tables [] in_plain p.Array) ∷ [] ≡ [] ∷ ((5, 4 ∷ []) ∷ []) ∷ []
groups =
    ap (λ (g : ToldNodes). faults (g.1 no_tables [] in_plain p.Value) ∷ faults (g.1 no_tables [] in_plain p.Array) ∷ []) (expr_is _ (e.rolls-Group 5 (a_number_at 6)))
    ∙ ap (λ (g : ToldNodes). faults (plain 5 (value_tests p.Value) ∷ g.1 no_tables [] in_plain p.Value) ∷ faults (plain 5 (value_tests p.Array) ∷ g.1 no_tables [] in_plain p.Value) ∷ [])
    (expr_is _ (e.rolls-Number 6 (pos 1)))

-- core a(f); async int f() { return (CANCELLED); } and with `return (f());`
abbrev gives_group : Expr → List Item
gives_group inner = i.Core 0 (codes "a") (codes "f") ∷ a_function 11 true true (codes "f") [] (s.Return 27 (Some (e.Group 34 inner)) ∷ []) ∷ []

pub a_group_of_a_constant : faults (program_nodes (gives_group (e.Const 35 c.Cancelled)) (r.ByOne 0 ∷ [])) ≡ []
a_group_of_a_constant = rw (
  stmt_is _ (s.rolls-Return 27 (Some (e.Group 34 (e.Const 35 c.Cancelled)))),
  expr_is _ (e.rolls-Group 34 (e.Const 35 c.Cancelled)),
  expr_is _
      (e.rolls-Const 35 c.Cancelled),
) refl

pub a_group_of_a_call : faults (program_nodes (gives_group (e.Call 35 (codes "f") [])) (r.ByOne 0 ∷ [])) ≡ []
a_group_of_a_call = rw (
  stmt_is _ (s.rolls-Return 27 (Some (e.Group 34 (e.Call 35 (codes "f") [])))),
  expr_is _ (e.rolls-Group 34 (e.Call 35 (codes "f") [])),
  expr_is _ (e.rolls-Call 35
      (codes "f") []),
) refl

-- for (int i; i; i = 1) i = 1; i = 1; where the first part has a scope of its own
abbrev set_i : ℕ → ℕ → Stmt
set_i at right = s.Assign at (e.Name at (codes "i")) (a_number_at right)

pub a_scope_of_its_own : in_one_core (s.For 28 (Some (s.Int 33 (codes "i") None)) (Some (e.Name 40 (codes "i"))) (Some (set_i 43 47)) (set_i 50 54) ∷ set_i 57 61 ∷ []) ≡ (57, 2 ∷ []) ∷ []
a_scope_of_its_own = rw (
  stmt_is _ (s.rolls-For 28 (Some (s.Int 33 (codes "i") None)) (Some (e.Name 40 (codes "i"))) (Some (set_i 43 47)) (set_i 50 54)),
  stmt_is _ (s.rolls-Int 33 (codes "i") None),
  stmt_is _ (s.rolls-Assign 43 (e.Name 43 (codes "i")) (a_number_at 47)),
  stmt_is _ (s.rolls-Assign 50 (e.Name 50 (codes "i")) (a_number_at 54)),
  stmt_is _ (s.rolls-Assign 57 (e.Name 57 (codes "i")) (a_number_at 61)),
  expr_is _ (e.rolls-Name 40 (codes "i")),
  expr_is _ (e.rolls-Name 43 (codes "i")),
  expr_is _ (e.rolls-Number 47 (pos 1)),
  expr_is _ (e.rolls-Name 50 (codes "i")),
  expr_is _ (e.rolls-Number 54 (pos 1)),
  expr_is _ (e.rolls-Name 57 (codes "i")),
  expr_is _ (e.rolls-Number 61 (pos 1)),
) refl

-- int x[4097];
pub an_array_too_large : in_one_core (s.Array 28 (codes "x") (pos 4097) ∷ []) ≡ (28, 13 ∷ []) ∷ []
an_array_too_large = rw (stmt_is _ (s.rolls-Array 28 (codes "x") (pos 4097))) refl

-- printf("%d%d", 1);
pub an_argument_too_few : in_one_core (s.Print 28 (codes "%d%d") (a_number_at 43 ∷ []) ∷ []) ≡ (28, 16 ∷ []) ∷ []
an_argument_too_few = rw (stmt_is _ (s.rolls-Print 28 (codes "%d%d") (a_number_at 43 ∷ [])), expr_is _ (e.rolls-Number 43 (pos 1))) refl

-- core a(f); void f() {}
pub a_plain_entry : faults (program_nodes (i.Core 0 (codes "a") (codes "f") ∷ a_function 11 false false (codes "f") [] [] ∷ []) (r.ByOne 0 ∷ [])) ≡ (0, 10 ∷ []) ∷ []
a_plain_entry = refl

-- core a(f); core a(f); int f; file g("d"); file h("d");
pub items_again : faults (program_nodes (i.Core 0 (codes "a") (codes "f") ∷ i.Core 11 (codes "a") (codes "f") ∷ i.Global 22 (codes "f") None (pos 0) ∷ i.File 29 (codes "g") (codes "d")
    ∷ i.File 42 (codes "h") (codes "d") ∷ []) [])
    ≡ (0, 4 ∷ []) ∷ (11, 1 ∷ 4 ∷ []) ∷ (42, 17 ∷ []) ∷ []
items_again = refl

-- core a(f); async void f() { int h[3]; g(h, h); } void g(int x[], int y) {}
abbrev array_at : ℕ → Expr
array_at at = e.Name at (codes "h")

abbrev pub with_arrays : List Item
with_arrays = one_core (s.Array 28 (codes "h") (pos 3) ∷ s.Call 38 (e.Call 38 (codes "g") (array_at 40 ∷ array_at 43 ∷ [])) ∷ [])
    ++ a_function 49 false false (codes "g") (record { at = 56; name = codes "x"; is_array = true } ∷ record { at = 65; name = codes "y"; is_array = false } ∷ []) [] ∷ []

pub an_array_for_an_int : faults (program_nodes with_arrays (r.ByOne 0 ∷ r.ByOne 0 ∷ [])) ≡ (43, 4 ∷ []) ∷ []
an_array_for_an_int = rw (
  stmt_is _ (s.rolls-Array 28 (codes "h") (pos 3)),
  stmt_is _ (s.rolls-Call 38 (e.Call 38 (codes "g") (array_at 40 ∷ array_at 43 ∷ []))),
  expr_is _ (e.rolls-Call 38 (codes "g") (array_at 40 ∷ array_at 43 ∷ [])),
  expr_is _ (e.rolls-Name 40 (codes "h")),
  expr_is _ (e.rolls-Name 43 (codes "h")),
) refl

pub the_first_calls_the_second : all_calls with_arrays ≡ (1 ∷ []) ∷ [] ∷ []
the_first_calls_the_second = rw (
  stmt_is _ (s.rolls-Array 28 (codes "h") (pos 3)),
  stmt_is _ (s.rolls-Call 38 (e.Call 38 (codes "g") (array_at 40 ∷ array_at 43 ∷ []))),
  expr_is _ (e.rolls-Call 38 (codes "g") (array_at 40 ∷ array_at 43 ∷ [])),
  expr_is _ (e.rolls-Name 40 (codes "h")),
  expr_is _ (e.rolls-Name 43 (codes "h")),
) refl

-- core a(f); void f(int x, int x[]) {}
pub a_parameter_again : faults (program_nodes (i.Core 0 (codes "a") (codes "f") ∷ a_function 11 true false (codes "f")
    (record { at = 24; name = codes "x"; is_array = false } ∷ record { at = 31; name = codes "x"; is_array = true } ∷ []) [] ∷ []) (r.ByOne 0 ∷ []))
    ≡ (0, 10 ∷ []) ∷ (31, 1 ∷ []) ∷ []
a_parameter_again = refl

-- core a(f); core b(f); channel c(a, b, 1); async void f() { Send(c, 1); }
abbrev pub with_a_channel : List Item
with_a_channel = i.Core 0 (codes "a") (codes "f") ∷ i.Core 11 (codes "b") (codes "f") ∷ i.Channel 22 (codes "c") (codes "a") (codes "b") (pos 1)
    ∷ a_function 42 true false (codes "f") [] (s.Call 59 (e.Send 59 (codes "c") (a_number_at 67)) ∷ []) ∷ []

pub another_core_sends : faults (program_nodes with_a_channel (r.BySeveral ∷ [])) ≡ (59, 11 ∷ []) ∷ []
another_core_sends = rw (stmt_is _ (s.rolls-Call 59 (e.Send 59 (codes "c") (a_number_at 67))), expr_is _ (e.rolls-Send 59 (codes "c") (a_number_at 67)), expr_is _ (e.rolls-Number 67 (pos 1))) refl

pub its_core_sends : faults (program_nodes with_a_channel (r.ByOne 0 ∷ [])) ≡ []
its_core_sends = rw (stmt_is _ (s.rolls-Call 59 (e.Send 59 (codes "c") (a_number_at 67))), expr_is _ (e.rolls-Send 59 (codes "c") (a_number_at 67)), expr_is _ (e.rolls-Number 67 (pos 1))) refl

-- core a(f); core b(f); channel c(a, b, 1); async void f() { int x; Recv(c, &x); }
abbrev a_recv : Stmt
a_recv = s.Call 66 (e.Recv 66 (codes "c") (e.Name 75 (codes "x")))

abbrev with_a_recv : List Item
with_a_recv = i.Core 0 (codes "a") (codes "f") ∷ i.Core 11 (codes "b") (codes "f") ∷ i.Channel 22 (codes "c") (codes "a") (codes "b") (pos 1)
    ∷ a_function 42 true false (codes "f") [] (s.Int 59 (codes "x") None ∷ a_recv ∷ []) ∷ []

pub its_core_receives : faults (program_nodes with_a_recv (r.ByOne 1 ∷ [])) ≡ []
its_core_receives = rw (
  stmt_is _ (s.rolls-Int 59 (codes "x") None),
  stmt_is _ (s.rolls-Call 66 (e.Recv 66 (codes "c") (e.Name 75 (codes "x")))),
  expr_is _ (e.rolls-Recv 66 (codes "c") (e.Name 75 (codes "x"))),
  expr_is _ (e.rolls-Name 75 (codes "x")),
) refl

pub the_sending_core_receives : faults (program_nodes with_a_recv (r.ByOne 0 ∷ [])) ≡ (66, 11 ∷ []) ∷ []
the_sending_core_receives = rw (
  stmt_is _ (s.rolls-Int 59 (codes "x") None),
  stmt_is _ (s.rolls-Call 66 (e.Recv 66 (codes "c") (e.Name 75 (codes "x")))),
  expr_is _ (e.rolls-Recv 66 (codes "c") (e.Name 75 (codes "x"))),
  expr_is _ (e.rolls-Name 75 (codes "x")),
) refl

-- core a(f); channel c(zz, f, 1); async void f() {} where zz is not declared and f is no core
abbrev with_ends : List ℕ → List ℕ → List Item
with_ends from to = i.Core 0 (codes "a") (codes "f") ∷ i.Channel 11 (codes "c") from to (pos 1) ∷ a_function 32 true false (codes "f") [] [] ∷ []

pub one_end_is_not_declared : faults (program_nodes (with_ends (codes "zz") (codes "f")) (r.ByOne 0 ∷ [])) ≡ (11, 2 ∷ []) ∷ []
one_end_is_not_declared = refl

pub one_end_is_no_core : faults (program_nodes (with_ends (codes "a") (codes "f")) (r.ByOne 0 ∷ [])) ≡ (11, 4 ∷ []) ∷ []
one_end_is_no_core = refl

-- core a(f); async void f() { int h[3]; Write(g, 1, 1, h); } file g("d"); and with other names for the file and the array
abbrev a_write : List ℕ → List ℕ → List Item
a_write file array = one_core (s.Array 28 (codes "h") (pos 3) ∷ s.Call 38 (e.Write 38 file (a_number_at 47) (a_number_at 50) array) ∷ []) ++ i.File 59 (codes "g") (codes "d") ∷ []

pub an_array_is_written : faults (program_nodes (a_write (codes "g") (codes "h")) (r.ByOne 0 ∷ [])) ≡ []
an_array_is_written = rw (
  stmt_is _ (s.rolls-Array 28 (codes "h") (pos 3)),
  stmt_is _ (s.rolls-Call 38 (e.Write 38 (codes "g") (a_number_at 47) (a_number_at 50) (codes "h"))),
  expr_is _ (e.rolls-Write 38 (codes "g") (a_number_at 47) (a_number_at 50) (codes "h")),
  expr_is _ (e.rolls-Number 47 (pos 1)),
  expr_is _ (e.rolls-Number 50 (pos 1)),
) refl

pub a_write_to_an_array : faults (program_nodes (a_write (codes "h") (codes "h")) (r.ByOne 0 ∷ [])) ≡ (38, 4 ∷ []) ∷ []
a_write_to_an_array = rw (
  stmt_is _ (s.rolls-Array 28 (codes "h") (pos 3)),
  stmt_is _ (s.rolls-Call 38 (e.Write 38 (codes "h") (a_number_at 47) (a_number_at 50) (codes "h"))),
  expr_is _ (e.rolls-Write 38 (codes "h") (a_number_at 47) (a_number_at 50) (codes "h")),
  expr_is _ (e.rolls-Number 47 (pos 1)),
  expr_is _ (e.rolls-Number 50 (pos 1)),
) refl

pub a_write_to_what_is_not_declared : faults (program_nodes (a_write (codes "zz") (codes "f")) (r.ByOne 0 ∷ [])) ≡ (38, 2 ∷ []) ∷ []
a_write_to_what_is_not_declared = rw (
  stmt_is _ (s.rolls-Array 28 (codes "h") (pos 3)),
  stmt_is _ (s.rolls-Call 38 (e.Write 38 (codes "zz") (a_number_at 47) (a_number_at 50) (codes "f"))),
  expr_is _ (e.rolls-Write 38 (codes "zz") (a_number_at 47) (a_number_at 50) (codes "f")),
  expr_is _ (e.rolls-Number 47 (pos 1)),
  expr_is _ (e.rolls-Number 50 (pos 1)),
) refl

-- ---- broken rules

pub the_fourth_is_broken : IsBrokenRule 4 (name_tests (Some (m.Function 0)) p.Value)
the_fourth_is_broken = inr (inl (refl, refl))

pub the_second_is_not : IsBrokenRule 2 (name_tests (Some (m.Function 0)) p.Value) → ⊥
the_second_is_not (inl h) = let e = h.1 in cc e
the_second_is_not (inr (inl h)) = let e = h.0 in omega (arith, e)
the_second_is_not (inr (inr h)) = h

abbrev two_nodes : List Node
two_nodes = plain 0 [] ∷ plain 5 (name_tests None p.Value) ∷ []

pub the_second_node_breaks_it : BreaksIn two_nodes 1 2
the_second_node_breaks_it = record { node = plain 5 (name_tests None p.Value); stands = refl; breaks = inl (refl, refl) }

pub the_first_node_does_not : BreaksIn two_nodes 0 2 → ⊥
the_first_node_does_not h = let same : h.node ≡ plain 0 [] = cc h.stands in subst (λ (n : Node). IsBrokenRule 2 n.tests) same h.breaks

-- core a(f); async void f() {}
pub it_breaks_none : BreaksNone (one_core [])
it_breaks_none = program_told (one_core []) (r.ByOne 0 ∷ []) one_row None refl

-- core a(f); async void f() { x = 1; }
calls_nothing : all_calls (one_core undeclared) ≡ [] ∷ []
calls_nothing = rw (stmt_is _ (s.rolls-Assign 28 (e.Name 28 (codes "x")) (a_number_at 32)), expr_is _ (e.rolls-Name 28 (codes "x")), expr_is _ (e.rolls-Number 32 (pos 1))) refl

its_row : AreReached (one_core undeclared) (r.ByOne 0 ∷ [])
its_row = subst (λ calls. AreRows calls (Some 0 ∷ []) (r.ByOne 0 ∷ [])) (sym calls_nothing) one_row

its_first : Some (record { rule = rule.NameIsDeclared; at = 28 }) ≡ first_of (program_nodes (one_core undeclared) (r.ByOne 0 ∷ []))
its_first = rw (stmt_is _ (s.rolls-Assign 28 (e.Name 28 (codes "x")) (a_number_at 32)), expr_is _ (e.rolls-Name 28 (codes "x"))) refl

pub its_least : IsLeastBroken (one_core undeclared) 2 28
its_least = program_told (one_core undeclared) (r.ByOne 0 ∷ []) its_row (Some (record { rule = rule.NameIsDeclared; at = 28 })) its_first

pub it_breaks_one : BreaksNone (one_core undeclared) → ⊥
it_breaks_one h = h its_least.number 2 its_least.is

pub the_other_breaks_none : (number : ℕ) → Breaks (one_core []) number 2 → ⊥
the_other_breaks_none number h = it_breaks_none number 2 h

pub its_fault : IsFault (record { items = one_core undeclared }) (f.Broken 2 28)
its_fault = its_least

pub not_another_rule : IsFault (record { items = one_core undeclared }) (f.Broken 4 28) → ⊥
not_another_rule h = by (its_least.least h.number 4 h.is) (h.least its_least.number 2 its_least.is) where
  by : IsUpTo its_least.number 2 h.number 4 → IsUpTo h.number 4 its_least.number 2 → ⊥
  by (inl x) (inl y) = omega (arith, x, y)
  by (inl x) (inr y) = let e = y.0 in omega (arith, x, e)
  by (inr x) (inl y) = let e = x.0 in omega (arith, e, y)
  by (inr x) (inr y) = let le = y.1 in omega (arith, le)

pub no_fault_of_the_other : (number at : ℕ) → IsFault (record { items = one_core [] }) (f.Broken number at) → ⊥
no_fault_of_the_other number at h = it_breaks_none h.number number h.is
