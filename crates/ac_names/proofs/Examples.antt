-- Small scopes, statements and programs: what their names mean, and the slots and numbers that they take.
use Rattle.std.proofs.Common.{◌≡◌, refl, ap, ◌∙◌, ℕ, pos, negsuc, Bool, true, false, List, [], ◌∷◌, map, codes, Some, None, arith}
use Rattle.std.specs.Global.{Vec}
use Rattle.ac_tree.specs.declared.expr.Expr.TheVariants as e
use Rattle.ac_tree.specs.declared.stmt.Stmt.TheVariants as s
use Rattle.ac_tree.specs.declared.stmt.Stmt.TheOpen.{Stmt-F}
use Rattle.ac_tree.specs.declared.item.Item.{Item}
use Rattle.ac_tree.specs.declared.item.Item.TheVariants as i
use Rattle.ac_tree.specs.declared.item.Param.{Param}
use Rattle.ac_tree.proofs.Folds.{stmt_folds}
use Rattle.ac_names.specs.declared.kind.NameKind.TheVariants as k
use Rattle.ac_names.specs.declared.meaning.Meaning.{Meaning}
use Rattle.ac_names.specs.declared.meaning.Meaning.TheVariants as m
use Rattle.ac_names.specs.declared.names.Names.{Names}
use Rattle.ac_names.specs.declared.past.Counts.{Counts}
use Rattle.ac_names.specs.Table.{beside}
use Rattle.ac_names.specs.Scopes.{Declaration, in_scope, added, or_else, visible, declared, closed, in_inner}
use Rattle.ac_names.specs.Cut.{inner_len, cut}
use Rattle.ac_names.specs.Kinds.{is_kind, is_other, is_undeclared, is_declared, either, both}
use Rattle.ac_names.specs.Statements.{Named, array_len, meaning_at, declared_at, opened, shut, moved, declared_in, labelled, in_do, in_async, Part, part, part_names, part_words, part_gives}
use Rattle.ac_names.specs.Statements.{listed, names_after, sum_words, some_words, some_listed, names_step, words_step, part_step, part_all, Shape, shape_step, shape}
use Rattle.ac_names.specs.Items.{item_name, global_slots, item_meaning, counted, paths_with, no_past, past_after, past_all, whole, outermost, kinds_in, param_at, param_named, params_named}
use Rattle.ac_names.specs.Items.{function_names}
use Rattle.ac_names.specs.Numbered.{core_names, capacities, capacity_size, file_paths}
use Rattle.ac_names.specs.Room.{all_counts, HasCounts}

-- ---- scopes

abbrev pub means : List ℕ → Meaning → Declaration
means name meaning = record { name = name; meaning = meaning }

abbrev pub x : List ℕ
x = codes "x"

abbrev pub y : List ℕ
y = codes "y"

-- of two declarations of a name in one scope the first is meant, and so it alone is kept
pub the_first_is_meant : in_scope x (means y (m.Global 7) ∷ means x (m.Global 1) ∷ means x (m.Global 2) ∷ []) ≡ Some (m.Global 1)
the_first_is_meant = refl

pub a_second_is_not_kept : added x (m.Global 2) (means x (m.Global 1) ∷ []) ≡ means x (m.Global 1) ∷ []
a_second_is_not_kept = refl

pub another_name_comes_last : added y (m.Global 2) (means x (m.Global 1) ∷ []) ≡ means x (m.Global 1) ∷ means y (m.Global 2) ∷ []
another_name_comes_last = refl

-- a name without its meaning is none
pub names_beside_meanings : (k l : Vec ℕ) → beside (k ∷ l ∷ []) (m.Global 7 ∷ []) ≡ means k.items (m.Global 7) ∷ []
names_beside_meanings k l = refl

pub the_first_that_there_is : or_else {A = ℕ} (Some 2) (Some 1) ∷ or_else {A = ℕ} None (Some 1) ∷ or_else {A = ℕ} None None ∷ [] ≡ Some 2 ∷ Some 1 ∷ None ∷ []
the_first_that_there_is = refl

-- the declarations of a body within the top level
abbrev pub two_scopes : List (List Declaration)
two_scopes = (means x (m.Local 0 3) ∷ []) ∷ (means x (m.Global 1) ∷ means y (m.Function 0) ∷ []) ∷ []

pub the_inner_one_is_meant : visible x two_scopes ≡ Some (m.Local 0 3)
the_inner_one_is_meant = refl

pub an_outer_one_is_visible : visible y two_scopes ≡ Some (m.Function 0)
an_outer_one_is_visible = refl

pub but_not_in_the_inner_scope : in_inner y two_scopes ≡ None
but_not_in_the_inner_scope = refl

pub no_such_name : visible (codes "z") two_scopes ≡ None
no_such_name = refl

pub behind_its_scope : visible x (closed two_scopes) ≡ Some (m.Global 1)
behind_its_scope = refl

-- the innermost scope has one declaration, and a second one is taken back
pub so_many_are_innermost : inner_len two_scopes ∷ inner_len (declared y (m.Local 0 4) two_scopes) ∷ inner_len [] ∷ [] ≡ 1 ∷ 2 ∷ 0 ∷ []
so_many_are_innermost = refl

pub taken_back : cut 1 (declared y (m.Local 0 4) two_scopes) ≡ two_scopes
taken_back = refl

pub an_outer_one_stays : visible x (cut 0 two_scopes) ≡ Some (m.Global 1)
an_outer_one_stays = refl

pub nothing_to_take_back : cut 1 [] ≡ []
nothing_to_take_back = refl

pub it_hides_the_outer_one : visible y (declared y (m.Local 0 4) two_scopes) ≡ Some (m.Local 0 4)
it_hides_the_outer_one = refl

-- ---- kinds

pub a_variable_is_no_array : is_other k.Array (Some (m.Local 0 0)) ≡ true
a_variable_is_no_array = refl

pub a_parameter_is_an_array : is_other k.Array (Some (m.ArrayParam 0)) ≡ false
a_parameter_is_an_array = refl

-- a name that is not declared breaks another rule
pub not_declared_is_of_no_other_kind : is_other k.Core None ≡ false
not_declared_is_of_no_other_kind = refl

pub a_label_is_of_no_kind : is_kind k.Int (m.Label 0 0) ≡ false
a_label_is_of_no_kind = refl

pub either_and_both : either true false ∷ either false false ∷ both true false ∷ both true true ∷ [] ≡ true ∷ false ∷ false ∷ true ∷ []
either_and_both = refl

pub not_declared : is_undeclared None ≡ true
not_declared = refl

pub declared_before : is_declared (Some (m.Global 0)) ≡ true
declared_before = refl

-- ---- statements

abbrev pub at_slot : ℕ → Names
at_slot slot = record { scopes = two_scopes; labels = []; slot = slot }

pub the_largest_array : array_len (pos 4096) ≡ 4096
the_largest_array = refl

-- what breaks a rule takes no slots
pub a_larger_one : array_len (pos 4097) ≡ 0
a_larger_one = refl

pub an_array_of_less_than_none : array_len (negsuc 0) ≡ 0
an_array_of_less_than_none = refl

abbrev pub int_named : Named
int_named = record { name = y; len = None }

-- in one async body, at slot 5
pub what_it_means : meaning_at None 1 5 ∷ meaning_at (Some 3) 1 5 ∷ [] ≡ m.Local 1 5 ∷ m.LocalArray 1 5 3 ∷ []
what_it_means = refl

pub after_its_declaration : visible y (declared_at (Some int_named) 1 5 two_scopes) ≡ Some (m.Local 1 5)
after_its_declaration = refl

pub nothing_declared : declared_at None 1 5 two_scopes ≡ two_scopes
nothing_declared = refl

pub its_slot_is_not_passed : declared_in (Some int_named) 1 5 (at_slot 5) ≡ record { scopes = declared y (m.Local 1 5) two_scopes; labels = []; slot = 5 }
its_slot_is_not_passed = refl

pub a_scope_more : (opened (at_slot 5)).scopes ≡ [] ∷ two_scopes
a_scope_more = refl

pub and_shut_again : shut (opened (at_slot 5)) ≡ at_slot 5
and_shut_again = refl

pub two_slots_further : moved (at_slot 5) 2 ≡ at_slot 7
two_slots_further = refl

pub scopes_of_labels : labelled None 1 5 [] ∷ labelled (Some (codes "t")) 1 5 ([] ∷ []) ∷ [] ≡ ([] ∷ []) ∷ ((means (codes "t") (m.Label 1 5) ∷ []) ∷ [] ∷ []) ∷ []
scopes_of_labels = refl

-- a statement of which the number 7 is told
abbrev pub a_part : Part ℕ
a_part = part (Some int_named) 3 7

pub what_is_told : (part_names a_part ≡ Some int_named) × (part_words a_part ≡ 3) × (part_gives a_part ≡ 7)
what_is_told = (refl, refl, refl)

-- int y; yield; async { }
pub what_a_form_declares : names_step {X = ℕ} (Stmt-F.Int 0 y None) ∷ names_step {X = ℕ} (Stmt-F.Yield 0) ∷ names_step (Stmt-F.Async 0 a_part) ∷ [] ≡ Some int_named ∷ None ∷ None ∷ []
what_a_form_declares = refl

-- if (x) .. else ..; if (x) ..; while (x) ..; do { .. } finish; async .., each with a part that takes three slots
pub slots_of_a_form : words_step (Stmt-F.If 0 (e.Name 0 x) a_part (Some a_part)) ∷ words_step (Stmt-F.If 0 (e.Name 0 x) a_part None) ∷ words_step (Stmt-F.While 0 (e.Name 0 x) a_part)
    ∷ words_step (Stmt-F.Do 0 None (a_part ∷ [])) ∷ words_step (Stmt-F.Async 0 a_part) ∷ [] ≡ 6 ∷ 3 ∷ 3 ∷ 4 ∷ 0 ∷ []
slots_of_a_form = refl

-- where 7 is told of each statement
pub a_form_with_its_parts : part_step ℕ (λ f. 7) (Stmt-F.Block 0 (a_part ∷ a_part ∷ [])) ≡ part None 6 7
a_form_with_its_parts = refl

pub a_statement_told : part_all ℕ (λ f. 7) (s.Yield 0) ≡ part None 0 7
a_statement_told = stmt_folds (part_step ℕ (λ f. 7)) _ (s.rolls-Yield 0)

-- int y;
pub an_int : shape (s.Int 0 y None) ≡ part (Some (record { name = y; len = None })) 1 tt
an_int = stmt_folds shape_step _ (s.rolls-Int 0 y None)

-- int y[3];
pub an_array : shape (s.Array 0 y (pos 3)) ≡ part (Some (record { name = y; len = Some 3 })) 3 tt
an_array = stmt_folds shape_step _ (s.rolls-Array 0 y (pos 3))

-- do { int y; int y[3]; } finish; takes a slot of its own too, and declares nothing round it
pub a_block : shape (s.Do 0 None (s.Int 4 y None ∷ s.Array 11 y (pos 3) ∷ [])) ≡ part None 5 tt
a_block =
    stmt_folds shape_step _ (s.rolls-Do 0 None (s.Int 4 y None ∷ s.Array 11 y (pos 3) ∷ [])) ∙ rw (ap shape refl, inner_int, inner_array) refl where
      inner_int : shape (s.Int 4 y None) ≡ part (Some (record { name = y; len = None })) 1 tt
      inner_int = stmt_folds shape_step _ (s.rolls-Int 4 y None)

      inner_array : shape (s.Array 11 y (pos 3)) ≡ part (Some (record { name = y; len = Some 3 })) 3 tt
      inner_array = stmt_folds shape_step _ (s.rolls-Array 11 y (pos 3))

-- async { int y; } takes its slots in a frame of its own
pub a_body : shape (s.Async 0 (s.Int 6 y None)) ≡ part None 0 tt
a_body = stmt_folds shape_step _ (s.rolls-Async 0 (s.Int 6 y None))

abbrev int_y : Shape
int_y = part (Some (record { name = y; len = None })) 1 tt

abbrev array_y : Shape
array_y = part (Some (record { name = y; len = Some 3 })) 3 tt

-- the names after `int y;` at slot 5, in one async body
pub after_an_int : visible y (listed int_y 1 (at_slot 5)).scopes ≡ Some (m.Local 1 5)
after_an_int = refl

pub the_next_slot : (listed array_y 1 (at_slot 5)).slot ≡ 8
the_next_slot = refl

pub slots_of_two : sum_words (int_y ∷ array_y ∷ []) ∷ some_words (Some array_y) ∷ some_words {X = ℕ} None ∷ [] ≡ 4 ∷ 3 ∷ 0 ∷ []
slots_of_two = refl

-- the second is not kept, but takes its slots
pub after_two : names_after (int_y ∷ array_y ∷ []) 1 (at_slot 5) ≡ record { scopes = declared y (m.Local 1 5) two_scopes; labels = []; slot = 9 }
after_two = refl

pub one_that_may_be_left_out : (some_listed (Some array_y) 1 (at_slot 5)).slot ∷ (some_listed {X = ℕ} None 1 (at_slot 5)).slot ∷ [] ≡ 8 ∷ 5 ∷ []
one_that_may_be_left_out = refl

-- t: do { .. } finish; at slot 5
pub its_label : visible (codes "t") (in_do (Some (codes "t")) 1 (at_slot 5)).labels ≡ Some (m.Label 1 5)
its_label = refl

pub its_slot : (in_do (Some (codes "t")) 1 (at_slot 5)).slot ≡ 6
its_slot = refl

pub an_async_body_begins_at_slot_0 : (in_async (at_slot 5)).slot ≡ 0
an_async_body_begins_at_slot_0 = refl

-- ---- items

abbrev pub param : List ℕ → Bool → Param
param name is_array = record { at = 0; name = name; is_array = is_array }

-- f(int x, int y[])
abbrev pub params : List Param
params = param x false ∷ param y true ∷ []

pub parameters_at_slot_2 : param_at false 2 ∷ param_at true 2 ∷ [] ≡ m.Local 0 2 ∷ m.ArrayParam 2 ∷ []
parameters_at_slot_2 = refl

pub after_a_parameter : param_named (param y true) (at_slot 5) ≡ record { scopes = declared y (m.ArrayParam 5) two_scopes; labels = []; slot = 6 }
after_a_parameter = refl

pub their_kinds : kinds_in params ≡ false ∷ true ∷ []
their_kinds = refl

pub an_int_parameter : visible x (params_named params (function_names two_scopes)).scopes ≡ Some (m.Local 0 0)
an_int_parameter = refl

pub an_array_parameter : visible y (params_named params (function_names two_scopes)).scopes ≡ Some (m.ArrayParam 1)
an_array_parameter = refl

-- int x; int a[3]; core k(f); channel c(k, k, 5); file d("x"); int y;
abbrev pub items : List Item
items =
    i.Global 0 x None (pos 0)
    ∷ i.Global 0 (codes "a") (Some (pos 3)) (pos 0)
    ∷ i.Core 0 (codes "k") (codes "f")
    ∷ i.Channel 0 (codes "c") (codes "k") (codes "k") (pos 5)
    ∷ i.File 0 (codes "d") x
    ∷ i.Global 0 y None (pos 0) ∷ []

pub their_names : map item_name items ≡ x ∷ codes "a" ∷ codes "k" ∷ codes "c" ∷ codes "d" ∷ y ∷ []
their_names = refl

-- an array that may not have its size takes none
pub slots_of_globals : map global_slots (None ∷ Some (pos 3) ∷ Some (pos 4097) ∷ []) ≡ 1 ∷ 3 ∷ 0 ∷ []
slots_of_globals = refl

-- so many of each kind stand before an item
abbrev pub some_before : Counts
some_before = record { cores = 1; functions = 2; channels = 3; files = 4; slots = 5 }

pub what_each_means : map (item_meaning some_before) items ≡ m.Global 5 ∷ m.GlobalArray 5 3 ∷ m.Core 1 ∷ m.Channel 3 ∷ m.File 4 ∷ m.Global 5 ∷ []
what_each_means = refl

-- the array takes three slots
pub one_item_more : counted some_before (i.Global 0 (codes "a") (Some (pos 3)) (pos 0)) ≡ record { cores = 1; functions = 2; channels = 3; files = 4; slots = 8 }
one_item_more = refl

pub all_together : all_counts some_before ≡ 15
all_together = refl

-- a file alone has a path
pub paths_of_items : paths_with 4 (i.File 0 (codes "d") x) [] ∷ paths_with 4 (i.Core 0 (codes "k") (codes "f")) [] ∷ [] ≡ (means x (m.File 4) ∷ []) ∷ [] ∷ []
paths_of_items = refl

pub nothing_before : all_counts no_past.counts ≡ 0
nothing_before = refl

-- file d("x");
pub after_a_file : past_after no_past (i.File 0 (codes "d") x) ≡ record {
  counts = record { cores = 0; functions = 0; channels = 0; files = 1; slots = 0 };
  names = means (codes "d") (m.File 0) ∷ [];
  paths = means x (m.File 0) ∷ [];
}
after_a_file = refl

-- and then int y; int d; of which the second is not kept
pub after_three : (past_all (past_after no_past (i.File 0 (codes "d") x)) (i.Global 0 y None (pos 0) ∷ i.Global 0 (codes "d") None (pos 0) ∷ [])).names
    ≡ means (codes "d") (m.File 0) ∷ means y (m.Global 0) ∷ []
after_three = refl

pub their_counts : (whole items).counts ≡ record { cores = 1; functions = 0; channels = 1; files = 1; slots = 5 }
their_counts = refl

pub an_array_behind_an_int : visible (codes "a") (outermost items) ≡ Some (m.GlobalArray 1 3)
an_array_behind_an_int = refl

pub an_int_behind_an_array : visible y (outermost items) ≡ Some (m.Global 4)
an_int_behind_an_array = refl

pub a_core : visible (codes "k") (outermost items) ≡ Some (m.Core 0)
a_core = refl

pub its_name : core_names items ≡ codes "k" ∷ []
its_name = refl

pub its_capacity : capacities items ≡ pos 5 ∷ []
its_capacity = refl

pub its_path : file_paths items ≡ x ∷ []
its_path = refl

pub the_largest_capacity : capacity_size (pos 64) ≡ 64
the_largest_capacity = refl

pub a_larger_capacity : capacity_size (pos 65) ≡ 0
a_larger_capacity = refl

-- ---- room

abbrev pub no_counts : Counts
no_counts = record { cores = 0; functions = 0; channels = 0; files = 0; slots = 0 }

-- a small program has room, and one that weighs six times as much has none
pub a_small_program_has_room : HasCounts no_counts 1048576
a_small_program_has_room = omega arith

pub a_larger_one_has_none : HasCounts no_counts 6291456 → ⊥
a_larger_one_has_none h = omega (arith, h)
