-- Small programs without their names, and some that are in place or not.
use Rattle.std.proofs.Common.{◌≡◌, refl, sym, ap, ◌∙◌, subst, ℕ, zero, suc, ◌+◌, pos, List, [], ◌∷◌, ◌++◌, length, map, codes, Some, None, true, false, arith}
use Rattle.std.specs.Prelude.{negsuc, slice_get}
use Rattle.ac_tree.specs.declared.expr.Constant.TheVariants as k
use Rattle.ac_tree.specs.declared.expr.Expr.{Expr}
use Rattle.ac_tree.specs.declared.expr.Expr.TheVariants as e
use Rattle.ac_tree.specs.declared.expr.Expr.TheOpen.{Expr-F}
use Rattle.ac_tree.specs.declared.expr.Link.{Link}
use Rattle.ac_tree.specs.declared.expr.BinaryOp.{BinaryOp}
use Rattle.ac_tree.specs.declared.expr.BinaryOp.TheVariants as b
use Rattle.ac_tree.specs.declared.stmt.Stmt.{Stmt}
use Rattle.ac_tree.specs.declared.stmt.Stmt.TheVariants as s
use Rattle.ac_tree.specs.declared.stmt.Stmt.TheOpen.{Stmt-F}
use Rattle.ac_tree.specs.declared.item.Function as tree
use Rattle.ac_tree.specs.declared.item.Item.{Item}
use Rattle.ac_tree.specs.declared.item.Item.TheVariants as i
use Rattle.ac_tree.specs.declared.item.Program.{Program}
use Rattle.ac_tree.proofs.Folds.{link_folds}
use Rattle.ac_names.specs.declared.meaning.Meaning.TheVariants as m
use Rattle.ac_names.specs.declared.names.Names.{Names}
use Rattle.ac_names.specs.declared.past.Counts.{Counts}
use Rattle.ac_names.specs.Scopes.{Declaration}
use Rattle.ac_names.specs.Statements.{part}
use Rattle.ac_names.specs.Items.{no_past}
use Rattle.ac_commands.specs.declared.value.Action.TheVariants as act
use Rattle.ac_commands.specs.declared.value.Value.{Value}
use Rattle.ac_commands.specs.declared.value.Value.TheVariants as v
use Rattle.ac_commands.specs.declared.value.ValueLink.{ValueLink}
use Rattle.ac_commands.specs.declared.value.Place.TheVariants as p
use Rattle.ac_commands.specs.declared.value.Array.TheVariants as ar
use Rattle.ac_commands.specs.declared.command.Target.TheVariants as t
use Rattle.ac_commands.specs.declared.command.Command.{Command}
use Rattle.ac_commands.specs.declared.command.Command.TheVariants as c
use Rattle.ac_commands.specs.declared.program.Channel.{Channel}
use Rattle.ac_commands.specs.declared.program.Core.{Core}
use Rattle.ac_commands.specs.declared.program.Function.{Function}
use Rattle.ac_commands.specs.declared.program.Resolved.{Resolved}
use Rattle.ac_resolve.specs.Places.{constant_value, place_of, array_of, name_argument, received_in, reference_to, cancel_of, function_of, channel_of, file_of, core_of}
use Rattle.ac_resolve.specs.Computed.{InScopes, Reading, links_step, arguments_step, file_operands, value_step, argument_step}
use Rattle.ac_resolve.specs.Computed.{target_step, received_step, read_step, link_step, read, value_in, place_in}
use Rattle.ac_resolve.specs.Computed.{target_in, values_in}
use Rattle.ac_resolve.specs.Computed.{some_in, initial_in}
use Rattle.ac_resolve.specs.Commands.{Texts, Told, shape_of, shapes, some_shape, all_texts, commands, some_texts, some_commands, other_commands, texts_step, for_names, commands_step}
use Rattle.ac_resolve.specs.Commands.{told_step, body_told}
use Rattle.ac_resolve.specs.Resolution.{body_names, function_in, function_texts, functions_in, items_texts, cores_in, channels_in, start_at, item_starts, starts_in, resolved}
use Rattle.ac_resolve.specs.InPlace.{FrameRound, no_frame, frame_at, Holds, HoldInts, HasSlots, is_among, with_entered, want_of, HasLength, AreInts, AreStarts}
use Rattle.ac_resolve.specs.InPlace.{NoReferences, Use, AsInt, AsReference, AsBlock, Round, is_entered, in_block, in_body, in_function, IsPlace, global, local, IsArray, local_array, parameter}
use Rattle.ac_resolve.specs.InPlace.{Want, Wants, send, recv, AnInt, AnArray, Elements, AMessage, IsValue, number}
use Rattle.ac_resolve.specs.InPlace.{variable, reference, elements, one_int, some_ints, AreOperands, no_operand, one_operand, to_variable}
use Rattle.ac_resolve.specs.InPlace.{IsCommand, set, do_finish, start, cancel, AreCommands, no_command, one_command, IsCore, IsChannel, IsFunction, IsInPlace}
use Rattle.ac_resolve.proofs.Uses.{ints}
use Rattle.ac_resolve.proofs.Stretches.{Stands, hold_ints}
use Rattle.ac_resolve.proofs.Forms.{expr_reads, stmt_tells}

-- ---- trees and what they become

abbrev pub link : BinaryOp → Expr → Link
link op operand = record { op = op; operand = operand }

abbrev pub with_value : BinaryOp → Value → ValueLink
with_value op operand = record { op = op; operand = operand }

-- core a(f); async void f() { .. }
abbrev pub one_core : List Stmt → Program
one_core body = record { items = i.Core 0 (codes "a") (codes "f") ∷ i.Function (record { at = 11; is_async = true; gives_int = false; name = codes "f"; params = []; body = body }) ∷ [] }

abbrev pub one_core_resolved : ℕ → List Command → List (List ℕ) → Resolved
one_core_resolved slots body texts = record {
  cores = record { name = codes "a"; entry = 0 } ∷ [];
  functions = record { name = codes "f"; is_async = true; gives_int = false; params = []; slots = slots; body = body } ∷ [];
  channels = [];
  files = [];
  slots = 0;
  starts = [];
  texts = texts;
}

-- 2*3 and 1+2*3, at their places in two.ac
abbrev pub product : Expr
product = e.Chain 45 10 (e.Number 45 (pos 2)) (link b.Mul (e.Number 47 (pos 3)) ∷ [])

abbrev pub sum : Expr
sum = e.Chain 43 9 (e.Number 43 (pos 1)) (link b.Add product ∷ [])

abbrev pub sum_value : Value
sum_value = v.Chain (v.Number (pos 1)) (with_value b.Add (v.Chain (v.Number (pos 2)) (with_value b.Mul (v.Number (pos 3)) ∷ [])) ∷ [])

sum_read : (read sum).value ≡ (λ scopes depth. sum_value)
sum_read = rw (
  expr_reads _ (e.rolls-Chain 43 9 (e.Number 43 (pos 1)) (link b.Add product ∷ [])),
  link_folds read_step link_step (link b.Add product),
  expr_reads _ (e.rolls-Chain 45 10 (e.Number 45 (pos 2)) (link b.Mul (e.Number 47 (pos 3)) ∷ [])),
  link_folds read_step link_step (link b.Mul (e.Number 47 (pos 3))),
  expr_reads _ (e.rolls-Number 43 (pos 1)),
  expr_reads _ (e.rolls-Number 45 (pos 2)),
  expr_reads _ (e.rolls-Number 47 (pos 3)),
) refl

-- printf("%d\n", 1+2*3);
pub two_ac : resolved (one_core (s.Print 28 (codes "%d\n") (sum ∷ []) ∷ [])) ≡ one_core_resolved 0 (c.Print 0 (sum_value ∷ []) ∷ []) (codes "%d\n" ∷ [])
two_ac = rw (stmt_tells _ (s.rolls-Print 28 (codes "%d\n") (sum ∷ [])), sum_read) refl

-- int x = 1; int y = x; each takes a slot
pub two_slots : resolved (one_core (s.Int 28 (codes "x") (Some (e.Number 36 (pos 1))) ∷ s.Int 39 (codes "y") (Some (e.Name 47 (codes "x"))) ∷ []))
    ≡ one_core_resolved 2 (c.Set (t.Variable (p.Local 0 0)) (v.Number (pos 1)) ∷ c.Set (t.Variable (p.Local 0 1)) (v.Variable (p.Local 0 0)) ∷ []) []
two_slots = rw (
  stmt_tells _ (s.rolls-Int 28 (codes "x") (Some (e.Number 36 (pos 1)))),
  stmt_tells _ (s.rolls-Int 39 (codes "y") (Some (e.Name 47 (codes "x")))),
  ap (λ (r : Reading). r.value) (expr_reads _ (e.rolls-Name 47 (codes "x"))),
  ap (λ (r : Reading). r.value) (expr_reads _ (e.rolls-Number 36 (pos 1))),
) refl

-- ---- calls and operations

-- int x and int a[3] of a function that takes int b[], and a channel c
abbrev pub scopes : List (List Declaration)
scopes = (record { name = codes "x"; meaning = m.Local 0 1 } ∷ record { name = codes "a"; meaning = m.LocalArray 0 2 3 } ∷ record { name = codes "b"; meaning = m.ArrayParam 0 } ∷ [])
    ∷ (record { name = codes "c"; meaning = m.Channel 4 } ∷ record { name = codes "f"; meaning = m.Function 7 } ∷ []) ∷ []

-- f(x, a, b), in one async body: an array is given by a reference
pub a_call_of_three : value_in (e.Call 0 (codes "f") (e.Name 2 (codes "x") ∷ e.Name 5 (codes "a") ∷ e.Name 8 (codes "b") ∷ [])) scopes 1
    ≡ v.Act (act.Call 7) (v.Variable (p.Local 1 1) ∷ v.Reference (ar.Local 1 2 3) ∷ v.Reference (ar.Param 1 0) ∷ [])
a_call_of_three =
    ap (λ (q : Reading). q.value scopes 1) (expr_reads _ (e.rolls-Call 0 (codes "f") (e.Name 2 (codes "x") ∷ e.Name 5 (codes "a") ∷ e.Name 8 (codes "b") ∷ [])))
    ∙ rw (expr_reads _ (e.rolls-Name 2 (codes "x")), expr_reads _ (e.rolls-Name 5 (codes "a")), expr_reads _ (e.rolls-Name 8 (codes "b"))) refl

-- Recv(c, &x) and Recv(c, &a[2]): the one int is referred to
pub into_a_variable : value_in (e.Recv 0 (codes "c") (e.Name 9 (codes "x"))) scopes 0 ≡ v.Act (act.Recv 4) (v.Reference (ar.Local 0 1 1) ∷ [])
into_a_variable = ap (λ (q : Reading). q.value scopes 0) (expr_reads _ (e.rolls-Recv 0 (codes "c") (e.Name 9 (codes "x")))) ∙ rw (expr_reads _ (e.rolls-Name 9 (codes "x"))) refl

pub into_an_element : value_in (e.Recv 0 (codes "c") (e.Index 9 (codes "a") (e.Number 11 (pos 2)))) scopes 0
    ≡ v.Act (act.Recv 4) (v.Part (ar.Local 0 2 3) (v.Number (pos 2)) ∷ [])
into_an_element =
    ap (λ (q : Reading). q.value scopes 0) (expr_reads _ (e.rolls-Recv 0 (codes "c") (e.Index 9 (codes "a") (e.Number 11 (pos 2)))))
    ∙ rw (expr_reads _ (e.rolls-Index 9 (codes "a") (e.Number 11 (pos 2))), expr_reads _ (e.rolls-Number 11 (pos 2))) refl

-- Send(c, a) and Recv(c, &a): the whole array is referred to
pub a_message_of_three : value_in (e.Send 0 (codes "c") (e.Name 8 (codes "a"))) scopes 0 ≡ v.Act (act.Send 4) (v.Reference (ar.Local 0 2 3) ∷ [])
a_message_of_three = ap (λ (q : Reading). q.value scopes 0) (expr_reads _ (e.rolls-Send 0 (codes "c") (e.Name 8 (codes "a")))) ∙ rw (expr_reads _ (e.rolls-Name 8 (codes "a"))) refl

pub into_an_array : value_in (e.Recv 0 (codes "c") (e.Name 9 (codes "a"))) scopes 0 ≡ v.Act (act.Recv 4) (v.Reference (ar.Local 0 2 3) ∷ [])
into_an_array = ap (λ (q : Reading). q.value scopes 0) (expr_reads _ (e.rolls-Recv 0 (codes "c") (e.Name 9 (codes "a")))) ∙ rw (expr_reads _ (e.rolls-Name 9 (codes "a"))) refl

pub where_messages_go : place_in (e.Name 9 (codes "x")) scopes 0 ∷ place_in (e.Name 12 (codes "b")) scopes 1 ∷ [] ≡ v.Reference (ar.Local 0 1 1) ∷ v.Reference (ar.Param 1 0) ∷ []
where_messages_go =
    ap (λ (q : Reading). q.received scopes 0 ∷ place_in (e.Name 12 (codes "b")) scopes 1 ∷ []) (expr_reads _ (e.rolls-Name 9 (codes "x")))
    ∙ ap (λ (q : Reading). v.Reference (ar.Local 0 1 1) ∷ q.received scopes 1 ∷ []) (expr_reads _ (e.rolls-Name 12 (codes "b")))

-- ---- what names stand for

pub named_results : map constant_value (k.Ok ∷ k.Cancelled ∷ k.Fault ∷ []) ≡ pos 0 ∷ negsuc 0 ∷ negsuc 1 ∷ []
named_results = refl

-- in two async bodies: a global, and what was declared in the function and in the first of the two
pub variables : place_of (Some (m.Global 3)) 2 ∷ place_of (Some (m.Local 0 3)) 2 ∷ place_of (Some (m.Local 1 3)) 2 ∷ [] ≡ p.Global 3 ∷ p.Local 2 3 ∷ p.Local 1 3 ∷ []
variables = refl

pub arrays : array_of (Some (m.GlobalArray 5 3)) 2 ∷ array_of (Some (m.LocalArray 1 5 3)) 2 ∷ array_of (Some (m.ArrayParam 5)) 2 ∷ [] ≡ ar.Global 5 3 ∷ ar.Local 1 5 3 ∷ ar.Param 2 5 ∷ []
arrays = refl

pub names_as_arguments : name_argument (Some (m.ArrayParam 5)) 2 ∷ name_argument (Some (m.Global 3)) 2 ∷ [] ≡ v.Reference (ar.Param 2 5) ∷ v.Variable (p.Global 3) ∷ []
names_as_arguments = refl

pub names_that_receive : received_in (Some (m.GlobalArray 5 3)) 2 ∷ received_in (Some (m.LocalArray 1 5 3)) 2 ∷ received_in (Some (m.Global 3)) 2 ∷ received_in (Some (m.Local 0 3)) 2 ∷ []
    ≡ ar.Global 5 3 ∷ ar.Local 1 5 3 ∷ ar.Global 3 1 ∷ ar.Local 2 3 1 ∷ []
names_that_receive = refl

pub references_to_one_int : reference_to (t.Variable (p.Local 2 3)) ∷ reference_to (t.Element (ar.Param 2 5) (v.Number (pos 1))) ∷ []
    ≡ v.Reference (ar.Local 2 3 1) ∷ v.Part (ar.Param 2 5) (v.Number (pos 1)) ∷ []
references_to_one_int = refl

pub a_label : cancel_of (Some (m.Label 1 5)) 2 ≡ c.Cancel 1 5
a_label = refl

pub numbers_that_are_meant : function_of (Some (m.Function 7)) ∷ channel_of (Some (m.Channel 6)) ∷ file_of (Some (m.File 5)) ∷ core_of (Some (m.Core 4)) ∷ [] ≡ 7 ∷ 6 ∷ 5 ∷ 4 ∷ []
numbers_that_are_meant = refl

-- ---- expressions by their parts

-- a number, and something into which 7 is put
abbrev seven : InScopes Value
seven around depth = v.Number (pos 7)

abbrev seven_read : Reading
seven_read = record { value = seven; argument = seven; target = λ around depth. t.Variable (p.Global 7); received = λ around depth. v.Reference (ar.Global 7 1) }

pub received_by_its_form : received_step (Expr-F.Name 0 (codes "a")) scopes 0 ∷ received_step (Expr-F.Index 0 (codes "a") seven_read) scopes 0 ∷ received_step (Expr-F.Group 0 seven_read) scopes 0 ∷ []
    ≡ v.Reference (ar.Local 0 2 3) ∷ v.Part (ar.Local 0 2 3) (v.Number (pos 7)) ∷ v.Reference (ar.Global 0 1) ∷ []
received_by_its_form = refl

pub links_in_order : links_step (link_step (record { op = b.Add; operand = seven_read }) ∷ link_step (record { op = b.Mul; operand = seven_read }) ∷ []) scopes 0
    ≡ with_value b.Add (v.Number (pos 7)) ∷ with_value b.Mul (v.Number (pos 7)) ∷ []
links_in_order = refl

-- the argument is a reference, where the value would be an int
pub arguments_in_order : arguments_step (seven_read ∷ read_step (Expr-F.Name 0 (codes "a")) ∷ []) scopes 0 ≡ v.Number (pos 7) ∷ v.Reference (ar.Local 0 2 3) ∷ []
arguments_in_order = refl

pub operands_of_a_read : file_operands seven_read seven_read (codes "a") scopes 0 ≡ v.Number (pos 7) ∷ v.Number (pos 7) ∷ v.Reference (ar.Local 0 2 3) ∷ []
operands_of_a_read = refl

-- OK, x, a[7], (7) and Send(c, 7) in one async body
pub values_of_forms : value_step (Expr-F.Const 0 k.Ok) scopes 1 ∷ value_step (Expr-F.Name 0 (codes "x")) scopes 1 ∷ value_step (Expr-F.Index 0 (codes "a") seven_read) scopes 1
    ∷ value_step (Expr-F.Group 0 seven_read) scopes 1 ∷ value_step (Expr-F.Send 0 (codes "c") seven_read) scopes 1 ∷ []
    ≡ v.Number (pos 0) ∷ v.Variable (p.Local 1 1) ∷ v.Element (ar.Local 1 2 3) (v.Number (pos 7)) ∷ v.Number (pos 7) ∷ v.Act (act.Send 4) (v.Number (pos 7) ∷ []) ∷ []
values_of_forms = refl

pub arguments_of_forms : argument_step (Expr-F.Name 0 (codes "b")) scopes 1 ∷ argument_step (Expr-F.Name 0 (codes "x")) scopes 1 ∷ argument_step (Expr-F.Group 0 seven_read) scopes 1 ∷ []
    ≡ v.Reference (ar.Param 1 0) ∷ v.Variable (p.Local 1 1) ∷ v.Number (pos 7) ∷ []
arguments_of_forms = refl

pub targets_of_forms : target_step (Expr-F.Name 0 (codes "x")) scopes 1 ∷ target_step (Expr-F.Index 0 (codes "a") seven_read) scopes 1 ∷ []
    ≡ t.Variable (p.Local 1 1) ∷ t.Element (ar.Local 1 2 3) (v.Number (pos 7)) ∷ []
targets_of_forms = refl

pub a_target : target_in (e.Name 9 (codes "x")) scopes 0 ≡ t.Variable (p.Local 0 1)
a_target = ap (λ (q : Reading). q.target scopes 0) (expr_reads _ (e.rolls-Name 9 (codes "x")))

pub values_in_order : values_in (e.Name 0 (codes "x") ∷ e.Number 3 (pos 7) ∷ []) scopes 0 ≡ v.Variable (p.Local 0 1) ∷ v.Number (pos 7) ∷ []
values_in_order = rw (ap (λ (q : Reading). q.value) (expr_reads _ (e.rolls-Name 0 (codes "x"))), ap (λ (q : Reading). q.value) (expr_reads _ (e.rolls-Number 3 (pos 7)))) refl

pub a_value_that_may_be_left_out : some_in None scopes 0 ∷ some_in (Some (e.Number 3 (pos 7))) scopes 0 ∷ [] ≡ None ∷ Some (v.Number (pos 7)) ∷ []
a_value_that_may_be_left_out = rw (ap (λ (q : Reading). q.value) (expr_reads _ (e.rolls-Number 3 (pos 7)))) refl

pub a_first_value : initial_in None scopes 0 ∷ initial_in (Some (e.Number 3 (pos 7))) scopes 0 ∷ [] ≡ v.Number (pos 0) ∷ v.Number (pos 7) ∷ []
a_first_value = rw (ap (λ (q : Reading). q.value) (expr_reads _ (e.rolls-Number 3 (pos 7)))) refl

-- ---- statements by their parts

-- a statement that takes a slot and has the text `t`; its commands tell the number of its text and its slot
abbrev one_told : Told
one_told = record { shape = part None 1 tt; texts = λ texts. texts ++ codes "t" ∷ []; commands = λ n depth texts. c.Print (length texts) [] ∷ c.Do n.slot [] ∷ [] }

abbrev one_text : Texts
one_text = codes "s" ∷ []

abbrev slot_five : Names
slot_five = record { scopes = scopes; labels = []; slot = 5 }

pub shapes_of_two : shapes (one_told ∷ one_told ∷ []) ≡ part None 1 tt ∷ part None 1 tt ∷ []
shapes_of_two = refl

pub its_shape : shape_of one_told ≡ part None 1 tt
its_shape = refl

pub texts_of_two : all_texts (one_told ∷ one_told ∷ []) one_text ≡ codes "s" ∷ codes "t" ∷ codes "t" ∷ []
texts_of_two = refl

pub commands_of_two : commands (one_told ∷ one_told ∷ []) slot_five 0 one_text ≡ c.Print 1 [] ∷ c.Do 5 [] ∷ c.Print 2 [] ∷ c.Do 6 [] ∷ []
commands_of_two = refl

pub a_part_that_is_left_out : (some_shape None ≡ None) × (some_texts None one_text ≡ one_text) × (some_commands None slot_five 0 one_text ≡ []) × (other_commands None slot_five 0 one_text ≡ None)
a_part_that_is_left_out = (refl, refl, refl, refl)

pub a_part_that_is_there : (some_shape (Some one_told) ≡ Some (part None 1 tt)) × (some_texts (Some one_told) one_text ≡ codes "s" ∷ codes "t" ∷ [])
    × (some_commands (Some one_told) slot_five 0 one_text ≡ c.Print 1 [] ∷ c.Do 5 [] ∷ []) × (other_commands (Some one_told) slot_five 0 one_text ≡ Some (c.Print 1 [] ∷ c.Do 5 [] ∷ []))
a_part_that_is_there = (refl, refl, refl, refl)

-- yield; printf("u"); and while (x) with one statement in it
pub texts_of_forms : texts_step (Stmt-F.Yield 0) one_text ∷ texts_step (Stmt-F.Print 0 (codes "u") []) one_text ∷ texts_step (Stmt-F.While 0 (e.Name 0 (codes "x")) one_told) one_text ∷ []
    ≡ (codes "s" ∷ []) ∷ (codes "s" ∷ codes "u" ∷ []) ∷ (codes "s" ∷ codes "t" ∷ []) ∷ []
texts_of_forms = refl

pub names_in_a_for : for_names (Some one_told) 0 slot_five ≡ record { scopes = [] ∷ scopes; labels = []; slot = 6 }
names_in_a_for = refl

-- int a[3]; a block, do { .. } finish; and async ..
pub commands_of_forms : commands_step (Stmt-F.Array 0 (codes "y") (pos 3)) slot_five 0 one_text ∷ commands_step (Stmt-F.Block 0 (one_told ∷ [])) slot_five 0 one_text
    ∷ commands_step (Stmt-F.Do 0 None (one_told ∷ [])) slot_five 0 one_text ∷ commands_step (Stmt-F.Async 0 one_told) slot_five 0 one_text ∷ []
    ≡ (c.Clear 5 3 ∷ []) ∷ (c.Print 1 [] ∷ c.Do 5 [] ∷ []) ∷ (c.Do 5 (c.Print 1 [] ∷ c.Do 6 [] ∷ []) ∷ []) ∷ (c.Async 1 (c.Print 1 [] ∷ c.Do 0 [] ∷ []) ∷ []) ∷ []
commands_of_forms = refl

-- the first part stands before the loop, and the third comes before the body in the text
pub commands_of_a_for : commands_step (Stmt-F.For 0 (Some one_told) None (Some one_told) one_told) slot_five 0 one_text
    ≡ c.Print 1 [] ∷ c.Do 5 [] ∷ c.For None (c.Print 2 [] ∷ c.Do 6 [] ∷ []) (c.Print 3 [] ∷ c.Do 7 [] ∷ []) ∷ []
commands_of_a_for = refl

pub what_a_block_tells : shape_of (told_step (Stmt-F.Block 0 (one_told ∷ one_told ∷ []))) ≡ part None 2 tt
what_a_block_tells = refl

pub what_a_body_tells : commands (body_told (s.Yield 4 ∷ s.Yield 11 ∷ [])) slot_five 0 one_text ≡ c.Yield ∷ c.Yield ∷ []
what_a_body_tells = rw (stmt_tells _ (s.rolls-Yield 4), stmt_tells _ (s.rolls-Yield 11)) refl

-- ---- items by their parts

-- async void f(int x) { printf("t"); }
abbrev printing : tree.Function
printing = record {
  at = 0;
  is_async = true;
  gives_int = false;
  name = codes "f";
  params = record { at = 13; name = codes "x"; is_array = false } ∷ [];
  body = s.Print 22 (codes "t") [] ∷ [];
}

pub round_its_body : body_names printing [] ≡ record { scopes = (record { name = codes "x"; meaning = m.Local 0 0 } ∷ []) ∷ []; labels = []; slot = 1 }
round_its_body = refl

-- after one text its own has the number 1
abbrev printing_resolved : Function
printing_resolved = record { name = codes "f"; is_async = true; gives_int = false; params = false ∷ []; slots = 1; body = c.Print 1 [] ∷ [] }

pub a_function : function_in printing [] one_text ≡ printing_resolved
a_function = rw (stmt_tells _ (s.rolls-Print 22 (codes "t") [])) refl

pub functions_alone : functions_in (i.Core 0 (codes "a") (codes "f") ∷ i.Function printing ∷ []) [] one_text ≡ printing_resolved ∷ []
functions_alone = rw (stmt_tells _ (s.rolls-Print 22 (codes "t") [])) refl

pub its_texts : function_texts printing one_text ≡ codes "s" ∷ codes "t" ∷ []
its_texts = rw (stmt_tells _ (s.rolls-Print 22 (codes "t") [])) refl

pub texts_of_items : items_texts (i.Function printing ∷ i.Core 0 (codes "a") (codes "f") ∷ i.Function printing ∷ []) [] ≡ codes "t" ∷ codes "t" ∷ []
texts_of_items = rw (stmt_tells _ (s.rolls-Print 22 (codes "t") [])) refl

-- core a(f); channel d(k, l, 5); where k and l are the cores 2 and 0
abbrev two_items : List Item
two_items = i.Core 0 (codes "a") (codes "f") ∷ i.Channel 11 (codes "d") (codes "k") (codes "l") (pos 5) ∷ []

abbrev two_cores : List (List Declaration)
two_cores = (record { name = codes "k"; meaning = m.Core 2 } ∷ record { name = codes "l"; meaning = m.Core 0 } ∷ []) ∷ []

pub cores_alone : cores_in two_items scopes ≡ record { name = codes "a"; entry = 7 } ∷ []
cores_alone = refl

pub channels_alone : channels_in two_items 0 two_items two_cores ≡ record { from = 2; to = 0; capacity = 5; width = 1 } ∷ []
channels_alone = refl

-- nought needs no start
pub starts_at_slot_3 : start_at 3 (pos 0) ∷ start_at 3 (pos 5) ∷ start_at 3 (negsuc 0) ∷ []
    ≡ [] ∷ (record { slot = 3; value = pos 5 } ∷ []) ∷ (record { slot = 3; value = negsuc 0 } ∷ []) ∷ []
starts_at_slot_3 = refl

abbrev three_slots : Counts
three_slots = record { cores = 0; functions = 0; channels = 0; files = 0; slots = 3 }

pub starts_of_items : item_starts three_slots (i.Global 0 (codes "x") None (pos 5)) ∷ item_starts three_slots (i.Global 0 (codes "h") (Some (pos 4)) (pos 0)) ∷ []
    ≡ (record { slot = 3; value = pos 5 } ∷ []) ∷ [] ∷ []
starts_of_items = refl

-- int x = 5; int h[3]; int y = -1;
pub starts_by_their_slots : starts_in no_past.counts (i.Global 0 (codes "x") None (pos 5) ∷ i.Global 0 (codes "h") (Some (pos 3)) (pos 0) ∷ i.Global 0 (codes "y") None (negsuc 0) ∷ [])
    ≡ record { slot = 0; value = pos 5 } ∷ record { slot = 4; value = negsuc 0 } ∷ []
starts_by_their_slots = refl

pub they_are_starts : AreStarts 0 5 (record { slot = 0; value = pos 5 } ∷ record { slot = 4; value = negsuc 0 } ∷ [])
they_are_starts = (omega arith, omega arith, (λ e. cc e), (omega arith, omega arith, (λ e. cc e), tt))

pub no_slot_starts_twice : AreStarts 0 5 (record { slot = 0; value = pos 5 } ∷ record { slot = 0; value = pos 6 } ∷ []) → ⊥
no_slot_starts_twice h = let le = h.3.0 in omega (arith, le)

pub no_start_is_nought : AreStarts 0 5 (record { slot = 0; value = pos 0 } ∷ []) → ⊥
no_start_is_nought h = h.2 refl

-- ---- what is there

-- in an async body with an int, in a function with an int, an array parameter, a block that is entered, and an array of two elements
abbrev pub in_a_body : Round
in_a_body = record {
  frames = record { uses = AsInt ∷ []; entered = [] } ∷ record { uses = AsInt ∷ AsReference ∷ AsBlock ∷ AsInt ∷ AsInt ∷ []; entered = 2 ∷ [] } ∷ [];
  loop = false;
  block = true;
}

abbrev pub one_global : Resolved
one_global = record { cores = []; functions = []; channels = []; files = []; slots = 1; starts = []; texts = [] }

abbrev frame_of_the_function : FrameRound
frame_of_the_function = record { uses = AsInt ∷ AsReference ∷ AsBlock ∷ AsInt ∷ AsInt ∷ []; entered = 2 ∷ [] }

pub one_frame_up : frame_at in_a_body.frames 1 ∷ frame_at in_a_body.frames 2 ∷ [] ≡ frame_of_the_function ∷ no_frame ∷ []
one_frame_up = refl

pub what_a_slot_holds : Holds in_a_body 1 2 AsBlock × Holds in_a_body 0 0 AsInt
what_a_slot_holds = (refl, refl)

pub what_it_does_not_hold : Holds in_a_body 1 2 AsInt → ⊥
what_it_does_not_hold e = cc e

pub there_are_two_slots : HasSlots in_a_body 1 3 2
there_are_two_slots = omega arith

pub there_are_not_three : HasSlots in_a_body 1 3 3 → ⊥
there_are_not_three h = omega (arith, h)

pub ints_alone_are_held : HoldInts in_a_body 1 2 2 → ⊥
ints_alone_are_held h = let e = h 2 (omega arith) (omega arith) in what_it_does_not_hold e

pub slots_among_others : is_among 2 (1 ∷ 2 ∷ []) ∷ is_among 3 (1 ∷ 2 ∷ []) ∷ [] ≡ true ∷ false ∷ []
slots_among_others = refl

-- in the innermost frame
pub one_more_is_entered : with_entered 4 (frame_of_the_function ∷ no_frame ∷ []) ≡ record frame_of_the_function { entered = 4 ∷ 2 ∷ [] } ∷ no_frame ∷ []
one_more_is_entered = refl

pub wanted_of_parameters : want_of true ∷ want_of false ∷ [] ≡ AnArray ∷ AnInt ∷ []
wanted_of_parameters = refl

pub one_element : HasLength 1 (ar.Global 4 1)
one_element = refl

pub two_elements : HasLength 1 (ar.Local 0 4 2) → ⊥
two_elements e = omega (arith, e)

pub elements_of_a_parameter : HasLength 1 (ar.Param 0 4) → ⊥
elements_of_a_parameter h = h

pub a_global_is_there : IsPlace one_global in_a_body (p.Global 0)
a_global_is_there = global 0 (omega arith)

pub a_second_global_is_not : IsPlace one_global in_a_body (p.Global 1) → ⊥
a_second_global_is_not (global slot h) = omega (arith, h)

pub the_slot_of_the_body_is_there : IsPlace one_global in_a_body (p.Local 0 0)
the_slot_of_the_body_is_there = local 0 0 (omega arith) refl

pub a_second_slot_of_the_body_is_not : IsPlace one_global in_a_body (p.Local 0 1) → ⊥
a_second_slot_of_the_body_is_not (local level slot h e) = cc

pub no_frame_is_further_out : IsPlace one_global in_a_body (p.Local 2 0) → ⊥
no_frame_is_further_out (local level slot h e) = omega (arith, h)

pub a_block_is_no_int : IsPlace one_global in_a_body (p.Local 1 2) → ⊥
a_block_is_no_int (local level slot h e) = cc

pub a_reference_is_no_int : IsPlace one_global in_a_body (p.Local 1 1) → ⊥
a_reference_is_no_int (local level slot h e) = cc

two_ints : Stands (AsInt ∷ AsReference ∷ AsBlock ∷ AsInt ∷ AsInt ∷ []) (ints 2) 3
two_ints = record { room = omega arith; each = each } where
  each : (at : ℕ) (what : Use) → slice_get (ints 2) at ≡ Some what → slice_get (AsInt ∷ AsReference ∷ AsBlock ∷ AsInt ∷ AsInt ∷ []) (3 + at) ≡ Some what
  each zero what e = e
  each (suc zero) what e = e
  each (suc (suc at)) what e = cc

pub an_array_of_two_slots_is_there : IsArray one_global in_a_body (ar.Local 1 3 2)
an_array_of_two_slots_is_there = local_array 1 3 2 (omega arith) (omega arith) (hold_ints _ 2 3 two_ints).each

pub one_of_three_is_not : IsArray one_global in_a_body (ar.Local 1 3 3) → ⊥
one_of_three_is_not (local_array level slot len h room each) = omega (arith, room)

pub one_over_a_block_is_not : IsArray one_global in_a_body (ar.Local 1 2 2) → ⊥
one_over_a_block_is_not (local_array level slot len h room each) = let e = each 2 (omega arith) (omega arith) in cc

pub a_parameter_that_is_an_array : IsArray one_global in_a_body (ar.Param 1 1)
a_parameter_that_is_an_array = parameter 1 1 (omega arith) refl

pub a_parameter_that_is_an_int : IsArray one_global in_a_body (ar.Param 1 0) → ⊥
a_parameter_that_is_an_int (parameter level slot h e) = cc

pub two_slots_hold_ints : HoldInts in_a_body 1 3 2
two_slots_hold_ints = (hold_ints _ 2 3 two_ints).each

pub two_ints_as_values : AreInts one_global in_a_body (v.Number (pos 7) ∷ v.Variable (p.Global 0) ∷ [])
two_ints_as_values = (number _, (variable _ a_global_is_there, tt))

pub a_reference_is_no_int_value : AreInts one_global in_a_body (v.Reference (ar.Local 1 3 2) ∷ []) → ⊥
a_reference_is_no_int_value h = by h.0 where
  by : IsValue one_global in_a_body AnInt (v.Reference (ar.Local 1 3 2)) → ⊥
  by h = elim h [ ]

-- an int for an int and an array for an array
pub operands_of_the_right_kinds : AreOperands one_global in_a_body (AnInt ∷ AnArray ∷ []) (v.Number (pos 7) ∷ v.Reference (ar.Local 1 3 2) ∷ [])
operands_of_the_right_kinds =
    one_operand AnInt (AnArray ∷ []) _ _ (number (pos 7)) (one_operand AnArray [] _ _ (reference _ an_array_of_two_slots_is_there) no_operand)

pub an_operand_too_few : AreOperands one_global in_a_body (AnInt ∷ []) [] → ⊥
an_operand_too_few h = elim h [ ]

pub two_ints_are_not_one : IsValue one_global in_a_body (Elements 1) (v.Reference (ar.Local 1 3 2)) → ⊥
two_ints_are_not_one (elements count array h e) = omega (arith, e)

pub two_ints_are_a_message : IsValue one_global in_a_body (AMessage 2) (v.Reference (ar.Local 1 3 2)) × IsValue one_global in_a_body (AMessage 1) (v.Number (pos 7))
two_ints_are_a_message = (some_ints 2 _ an_array_of_two_slots_is_there refl, one_int _ (number (pos 7)))

pub an_int_is_no_message_of_two : IsValue one_global in_a_body (AMessage 2) (v.Number (pos 7)) → ⊥
an_int_is_no_message_of_two h = elim h [ ]

-- one channel whose messages have two ints
abbrev two_wide : Channel
two_wide = record { from = 0; to = 1; capacity = 1; width = 2 }

abbrev one_channel : Resolved
one_channel = record one_global { channels = two_wide ∷ [] }

pub two_ints_are_sent : Wants one_channel (act.Send 0) (AMessage 2 ∷ []) × Wants one_channel (act.Recv 0) (Elements 2 ∷ [])
two_ints_are_sent = (send 0 two_wide refl, recv 0 two_wide refl)

-- how many ints the message has that is wanted alone
abbrev ints_wanted : List Want → ℕ
ints_wanted (AMessage count ∷ []) = count
ints_wanted _ = 0

two_are_wanted : {wants : List Want} → Wants one_channel (act.Send 0) wants → ints_wanted wants ≡ 2
two_are_wanted (send k channel there) = let same : two_wide ≡ channel = cc in ap (λ (x : Channel). x.width) (sym same)

pub one_int_is_not : Wants one_channel (act.Send 0) (AMessage 1 ∷ []) → ⊥
one_int_is_not h = let two : 1 ≡ 2 = two_are_wanted h in omega (arith, two)

-- ---- blocks

pub an_entered_block_is_cancelled : IsCommand one_global in_a_body (c.Cancel 1 2)
an_entered_block_is_cancelled = cancel in_a_body 1 2 (omega arith) refl

pub another_is_not : IsCommand one_global (in_function (AsBlock ∷ [])) (c.Cancel 0 0) → ⊥
another_is_not (cancel r level slot h e) = cc

pub no_int_over_a_block : IsCommand one_global (in_function (AsBlock ∷ [])) (c.Set (t.Variable (p.Local 0 0)) (v.Number (pos 1))) → ⊥
no_int_over_a_block (set r target value (to_variable place (local level slot lt e)) h) = cc

-- in a block that is kept in the one slot of a function, which is not to be entered once more, and in an async body there
abbrev pub within_a_block : Round
within_a_block = in_block 0 (in_function (AsBlock ∷ []))

pub it_is_entered : is_entered within_a_block 0 0 ≡ true
it_is_entered = refl

pub not_in_the_frame_of_the_body : is_entered (in_body (AsBlock ∷ []) within_a_block) 0 0 ≡ false
not_in_the_frame_of_the_body = refl

pub but_in_the_one_round_it : is_entered (in_body (AsBlock ∷ []) within_a_block) 1 0 ≡ true
but_in_the_one_round_it = refl

-- ---- whole programs

-- int x; do { async x = 1; } finish;
abbrev pub one_block : Resolved
one_block = one_core_resolved 2 (c.Set (t.Variable (p.Local 0 0)) (v.Number (pos 0)) ∷ c.Do 1 (c.Async 0 (c.Set (t.Variable (p.Local 1 0)) (v.Number (pos 1)) ∷ []) ∷ []) ∷ []) []

own : NoReferences (AsInt ∷ AsBlock ∷ [])
own zero e = cc
own (suc zero) e = cc
own (suc (suc slot)) e = cc

its_body : IsFunction one_block (record {
  name = codes "f";
  is_async = true;
  gives_int = false;
  params = [];
  slots = 2;
  body = c.Set (t.Variable (p.Local 0 0)) (v.Number (pos 0)) ∷ c.Do 1 (c.Async 0 (c.Set (t.Variable (p.Local 1 0)) (v.Number (pos 1)) ∷ []) ∷ []) ∷ [];
})
its_body = record {
  others = AsInt ∷ AsBlock ∷ [];
  own = own;
  slots = refl;
  body = one_command _ _ _ (set _ _ _ (to_variable _ (local 0 0 (omega arith) refl)) (number (pos 0)))
      (one_command _ _ _ (do_finish _ 1 _ refl refl
      (one_command _ _ _ (start _ [] _ refl (λ slot e. cc) (one_command _ _ _ (set _ _ _ (to_variable _ (local 1 0 (omega arith) refl)) (number (pos 1))) (no_command _))) (no_command _)))
      (no_command _));
}

pub one_block_is_in_place : IsInPlace one_block
one_block_is_in_place = record {
  functions = functions;
  some_core = omega arith;
  few_cores = omega arith;
  cores = cores;
  channels = λ n channel e. cc;
  few_files = omega arith;
  starts = tt;
} where
  same : {X : Type 0} (a b : X) → Some a ≡ Some b → a ≡ b
  same a b e = cc

  functions : (n : ℕ) (function : Function) → slice_get one_block.functions n ≡ Some function → IsFunction one_block function
  functions zero function e = subst (IsFunction one_block) (same _ function e) its_body
  functions (suc n) function e = cc

  cores : (n : ℕ) (core : Core) → slice_get one_block.cores n ≡ Some core → IsCore one_block core
  cores zero core e = subst (IsCore one_block) (same _ core e) (record { function = _; there = refl; params = refl })
  cores (suc n) core e = cc

-- a `cancel` in no `do`
pub no_cancel_outside : IsInPlace (one_core_resolved 1 (c.Cancel 0 0 ∷ []) []) → ⊥
no_cancel_outside h = let f = h.functions 0 _ refl in by f.others f.body where
  by : (us : List Use) → AreCommands (one_core_resolved 1 (c.Cancel 0 0 ∷ []) []) (in_function us) (c.Cancel 0 0 ∷ []) → ⊥
  by us (one_command r x xs (cancel _ level slot lt e) gs) = cc

-- void g(int a[]), which puts an int over the reference
abbrev pub over_a_reference : Function
over_a_reference =
    record { name = codes "g"; is_async = false; gives_int = false; params = true ∷ []; slots = 1; body = c.Set (t.Variable (p.Local 0 0)) (v.Number (pos 1)) ∷ [] }

pub no_int_over_a_reference : IsFunction one_global over_a_reference → ⊥
no_int_over_a_reference h = by h.others h.body where
  by : (us : List Use) → AreCommands one_global (in_function (AsReference ∷ us)) (c.Set (t.Variable (p.Local 0 0)) (v.Number (pos 1)) ∷ []) → ⊥
  by us (one_command r x xs (set _ target value (to_variable place (local level slot lt e)) g) gs) = cc

pub too_few_slots : IsFunction one_global (record over_a_reference { slots = 0 }) → ⊥
too_few_slots h = let e = h.slots in omega (arith, e)

pub a_program_has_a_core : IsInPlace one_global → ⊥
a_program_has_a_core h = let some = h.some_core in omega (arith, some)

-- a core that enters a function that is not there
pub a_core_without_its_function : IsCore one_global (record { name = codes "a"; entry = 0 }) → ⊥
a_core_without_its_function h = let e = h.there in cc

pub a_channel_has_two_ends : IsChannel one_block (record { from = 0; to = 0; capacity = 1; width = 1 }) → ⊥
a_channel_has_two_ends h = h.other refl

pub a_start_that_is_not_there : IsInPlace (record one_global { starts = record { slot = 1; value = pos 5 } ∷ [] }) → ⊥
a_start_that_is_not_there h = let lt = h.starts.1 in omega (arith, lt)
