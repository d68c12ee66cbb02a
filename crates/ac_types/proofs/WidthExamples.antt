-- How many ints Sends and Recvs name, and how many a message of a channel has, worked out by hand; and small programs that send arrays.
-- The nodes are computed form by form, by what a fold gives at each.
use Rattle.std.proofs.Common.{◌≡◌, refl, ℕ, pos, List, [], ◌∷◌, ◌++◌, map, codes, true, false, Some, None}
use Rattle.ac_tree.specs.declared.expr.Expr.TheVariants as e
use Rattle.ac_tree.specs.declared.stmt.Stmt.{Stmt}
use Rattle.ac_tree.specs.declared.stmt.Stmt.TheVariants as s
use Rattle.ac_tree.specs.declared.item.Item.{Item}
use Rattle.ac_tree.specs.declared.item.Item.TheVariants as i
use Rattle.ac_names.specs.Items.{outermost}
use Rattle.ac_names.specs.Scopes.{Declaration}
use Rattle.ac_names.specs.declared.meaning.Meaning.TheVariants as m
use Rattle.ac_reach.specs.declared.reached.Reached.TheVariants as r
use Rattle.ac_types.specs.declared.around.Around.{Around}
use Rattle.ac_types.specs.declared.around.Position.TheVariants as p
use Rattle.ac_types.specs.declared.carried.Carried.{Carried}
use Rattle.ac_types.specs.declared.numbered.Tables.{Tables}
use Rattle.ac_types.specs.Nodes.{carried_too, carried_of}
use Rattle.ac_types.specs.Tables.{width_named}
use Rattle.ac_types.specs.Widths.{length_meant, length_named, ints_of, carried_on, is_unlike, count_or_one, width_in, widths_in}
use Rattle.ac_types.specs.Judged.{channel_tests}
use Rattle.ac_types.specs.Expressions.{plain, channel_node}
use Rattle.ac_types.specs.Items.{carried_in, first_tables, all_carried, channel_width, all_widths, program_nodes}
use Rattle.ac_types.proofs.Forms.{expr_is, stmt_is}
use Rattle.ac_types.proofs.Examples.{a_function, a_number_at, faults}

-- ---- lengths and numbers of ints

pub lengths_by_meaning : map length_meant (Some (m.GlobalArray 4 3) ∷ Some (m.LocalArray 0 4 17) ∷ Some (m.ArrayParam 2) ∷ Some (m.Local 0 2) ∷ Some (m.Channel 0) ∷ None ∷ [])
    ≡ Some 3 ∷ Some 17 ∷ None ∷ Some 1 ∷ Some 1 ∷ Some 1 ∷ []
lengths_by_meaning = refl

-- with `m` an array of three
abbrev with_an_array : List (List Declaration)
with_an_array = (record { name = codes "m"; meaning = m.LocalArray 0 4 3 } ∷ []) ∷ []

pub lengths_by_name : length_named (Some (codes "m")) with_an_array ∷ length_named (Some (codes "n")) with_an_array ∷ length_named None with_an_array ∷ [] ≡ Some 3 ∷ Some 1 ∷ Some 1 ∷ []
lengths_by_name = refl

pub one_to_sixteen : map ints_of (None ∷ Some 0 ∷ Some 1 ∷ Some 2 ∷ Some 15 ∷ Some 16 ∷ Some 17 ∷ []) ≡ None ∷ None ∷ Some 1 ∷ Some 2 ∷ Some 15 ∷ Some 16 ∷ None ∷ []
one_to_sixteen = refl

pub said_of_channels : carried_on (Some (m.Channel 2)) (Some 3) ∷ carried_on (Some (m.Channel 2)) None ∷ carried_on (Some (m.File 2)) (Some 3) ∷ carried_on None (Some 3) ∷ []
    ≡ Some (record { channel = 2; len = Some 3 }) ∷ Some (record { channel = 2; len = None }) ∷ None ∷ None ∷ []
said_of_channels = refl

-- of a name that means no channel nothing is asked
pub unlike : is_unlike (Some 3) (Some 3) ∷ is_unlike (Some 2) (Some 3) ∷ is_unlike None (Some 1) ∷ is_unlike None None ∷ [] ≡ false ∷ true ∷ true ∷ false ∷ []
unlike = refl

pub counts : map count_or_one (None ∷ Some 3 ∷ []) ≡ 1 ∷ 3 ∷ []
counts = refl

-- the channel 2 is named first with three ints, the channel 0 with none
abbrev three_said : List Carried
three_said = record { channel = 2; len = Some 3 } ∷ record { channel = 0; len = Some 17 } ∷ record { channel = 2; len = Some 5 } ∷ []

pub widths_by_the_first : map (width_in three_said) (0 ∷ 1 ∷ 2 ∷ []) ≡ 1 ∷ 1 ∷ 3 ∷ []
widths_by_the_first = refl

pub widths_from_a_number : widths_in three_said 1 2 ∷ widths_in three_said 0 0 ∷ [] ≡ (1 ∷ 3 ∷ []) ∷ [] ∷ []
widths_from_a_number = refl

pub said_too : carried_too (Some (record { channel = 0; len = Some 1 })) three_said ∷ carried_too None three_said ∷ [] ≡ (three_said ++ record { channel = 0; len = Some 1 } ∷ []) ∷ three_said ∷ []
said_too = refl

pub said_in_order : carried_of (record { at = 0; tests = []; calls = None; carries = Some (record { channel = 2; len = Some 3 }) } ∷ plain 4 []
    ∷ record { at = 6; tests = []; calls = None; carries = Some (record { channel = 0; len = None }) } ∷ [])
    ≡ record { channel = 2; len = Some 3 } ∷ record { channel = 0; len = None } ∷ []
said_in_order = refl

-- two channels, of three ints and of one
abbrev two_widths : Tables
two_widths = record { functions = []; channels = []; widths = 3 ∷ 1 ∷ []; reached = [] }

pub widths_by_name : map (width_named two_widths) (Some (m.Channel 0) ∷ Some (m.Channel 1) ∷ Some (m.Channel 2) ∷ Some (m.File 0) ∷ None ∷ []) ≡ Some 3 ∷ Some 1 ∷ None ∷ None ∷ None ∷ []
widths_by_name = refl

abbrev in_async : Around
in_async = record { is_async = true; gives_int = false; depth = 0; in_do = false; in_loop = false; reached = r.ByNone }

pub a_node_says_what_it_names : channel_node 7 two_widths (Some (m.Channel 0)) (Some 2) false in_async p.Value
    ≡ record { at = 7; tests = channel_tests (Some (m.Channel 0)) true false in_async p.Value; calls = None; carries = Some (record { channel = 0; len = Some 2 }) }
a_node_says_what_it_names = refl

-- ---- core a(f); core b(g); channel c(a, b, 1); async void f() { int m[..]; Send(c, m); } async void g() { int n[..]; Recv(c, &n); }

abbrev an_array_sent : ℕ → List Stmt
an_array_sent len = s.Array 59 (codes "m") (pos len) ∷ s.Call 69 (e.Send 69 (codes "c") (e.Name 77 (codes "m"))) ∷ []

abbrev an_array_received : ℕ → List Stmt
an_array_received len = s.Array 100 (codes "n") (pos len) ∷ s.Call 110 (e.Recv 110 (codes "c") (e.Name 119 (codes "n"))) ∷ []

abbrev both_ends : List Stmt → List Stmt → List Item
both_ends sends receives =
    i.Core 0 (codes "a") (codes "f") ∷ i.Core 11 (codes "b") (codes "g") ∷ i.Channel 22 (codes "c") (codes "a") (codes "b") (pos 1)
    ∷ a_function 42 true false (codes "f") [] sends ∷ a_function 83 true false (codes "g") [] receives ∷ []

abbrev its_faults : List Stmt → List Stmt → List (ℕ × List ℕ)
its_faults sends receives = faults (program_nodes (both_ends sends receives) (r.ByOne 0 ∷ r.ByOne 1 ∷ []))

pub as_many_are_received : its_faults (an_array_sent 3) (an_array_received 3) ≡ []
as_many_are_received = rw (
  stmt_is _ (s.rolls-Array 59 (codes "m") (pos 3)),
  stmt_is _ (s.rolls-Call 69 (e.Send 69 (codes "c") (e.Name 77 (codes "m")))),
  expr_is _ (e.rolls-Send 69 (codes "c") (e.Name 77 (codes "m"))),
  expr_is _ (e.rolls-Name 77 (codes "m")),
  stmt_is _ (s.rolls-Array 100 (codes "n") (pos 3)),
  stmt_is _ (s.rolls-Call 110 (e.Recv 110 (codes "c") (e.Name 119 (codes "n")))),
  expr_is _ (e.rolls-Recv 110 (codes "c") (e.Name 119 (codes "n"))),
  expr_is _ (e.rolls-Name 119 (codes "n")),
) refl

-- the Send comes first, so the Recv is wrong
pub fewer_are_received : its_faults (an_array_sent 3) (an_array_received 2) ≡ (110, 4 ∷ []) ∷ []
fewer_are_received = rw (
  stmt_is _ (s.rolls-Array 59 (codes "m") (pos 3)),
  stmt_is _ (s.rolls-Call 69 (e.Send 69 (codes "c") (e.Name 77 (codes "m")))),
  expr_is _ (e.rolls-Send 69 (codes "c") (e.Name 77 (codes "m"))),
  expr_is _ (e.rolls-Name 77 (codes "m")),
  stmt_is _ (s.rolls-Array 100 (codes "n") (pos 2)),
  stmt_is _ (s.rolls-Call 110 (e.Recv 110 (codes "c") (e.Name 119 (codes "n")))),
  expr_is _ (e.rolls-Recv 110 (codes "c") (e.Name 119 (codes "n"))),
  expr_is _ (e.rolls-Name 119 (codes "n")),
) refl

-- an array of 17 names no number, so the channel has one int, and both nodes are wrong
pub seventeen_are_too_many : its_faults (an_array_sent 17) (an_array_received 17) ≡ (69, 4 ∷ []) ∷ (110, 4 ∷ []) ∷ []
seventeen_are_too_many = rw (
  stmt_is _ (s.rolls-Array 59 (codes "m") (pos 17)),
  stmt_is _ (s.rolls-Call 69 (e.Send 69 (codes "c") (e.Name 77 (codes "m")))),
  expr_is _ (e.rolls-Send 69 (codes "c") (e.Name 77 (codes "m"))),
  expr_is _ (e.rolls-Name 77 (codes "m")),
  stmt_is _ (s.rolls-Array 100 (codes "n") (pos 17)),
  stmt_is _ (s.rolls-Call 110 (e.Recv 110 (codes "c") (e.Name 119 (codes "n")))),
  expr_is _ (e.rolls-Recv 110 (codes "c") (e.Name 119 (codes "n"))),
  expr_is _ (e.rolls-Name 119 (codes "n")),
) refl

-- a number is one int, and so is an array of one
abbrev a_number_sent : List Stmt
a_number_sent = s.Call 69 (e.Send 69 (codes "c") (a_number_at 77)) ∷ []

pub one_element_is_one_int : its_faults a_number_sent (an_array_received 1) ≡ []
one_element_is_one_int = rw (
  stmt_is _ (s.rolls-Call 69 (e.Send 69 (codes "c") (a_number_at 77))),
  expr_is _ (e.rolls-Send 69 (codes "c") (a_number_at 77)),
  expr_is _ (e.rolls-Number 77 (pos 1)),
  stmt_is _ (s.rolls-Array 100 (codes "n") (pos 1)),
  stmt_is _ (s.rolls-Call 110 (e.Recv 110 (codes "c") (e.Name 119 (codes "n")))),
  expr_is _ (e.rolls-Recv 110 (codes "c") (e.Name 119 (codes "n"))),
  expr_is _ (e.rolls-Name 119 (codes "n")),
) refl

-- in a group the name is not the whole value
pub an_array_in_a_group : its_faults (s.Array 59 (codes "m") (pos 3) ∷ s.Call 69 (e.Send 69 (codes "c") (e.Group 77 (e.Name 78 (codes "m")))) ∷ []) [] ≡ (78, 4 ∷ []) ∷ []
an_array_in_a_group = rw (
  stmt_is _ (s.rolls-Array 59 (codes "m") (pos 3)),
  stmt_is _ (s.rolls-Call 69 (e.Send 69 (codes "c") (e.Group 77 (e.Name 78 (codes "m"))))),
  expr_is _ (e.rolls-Send 69 (codes "c") (e.Group 77 (e.Name 78 (codes "m")))),
  expr_is _ (e.rolls-Group 77 (e.Name 78 (codes "m"))),
  expr_is _ (e.rolls-Name 78 (codes "m")),
) refl

-- ---- widths of a program

abbrev three_ints : List Item
three_ints = both_ends (an_array_sent 3) []

pub said_of_its_channel : all_carried three_ints ∷ carried_in (first_tables three_ints) (outermost three_ints) three_ints ∷ []
    ≡ (record { channel = 0; len = Some 3 } ∷ []) ∷ (record { channel = 0; len = Some 3 } ∷ []) ∷ []
said_of_its_channel = rw (
  stmt_is _ (s.rolls-Array 59 (codes "m") (pos 3)),
  stmt_is _ (s.rolls-Call 69 (e.Send 69 (codes "c") (e.Name 77 (codes "m")))),
  expr_is _ (e.rolls-Send 69 (codes "c") (e.Name 77 (codes "m"))),
  expr_is _ (e.rolls-Name 77 (codes "m")),
) refl

pub widths_of_its_channels : ◌≡◌ {A = List (List ℕ × ℕ)}
    ((all_widths three_ints, channel_width three_ints 0) ∷ (all_widths (both_ends [] []), channel_width (both_ends [] []) 0) ∷ []) ((3 ∷ [], 3) ∷ (1 ∷ [], 1) ∷ [])
widths_of_its_channels = rw (
  stmt_is _ (s.rolls-Array 59 (codes "m") (pos 3)),
  stmt_is _ (s.rolls-Call 69 (e.Send 69 (codes "c") (e.Name 77 (codes "m")))),
  expr_is _ (e.rolls-Send 69 (codes "c") (e.Name 77 (codes "m"))),
  expr_is _ (e.rolls-Name 77 (codes "m")),
) refl
