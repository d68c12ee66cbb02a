-- The tables of the items of small programs, and what is reached in them, worked out by hand.
-- Each law computes a table of one program and compares it; the programs are those of `Examples`.
use Rattle.std.proofs.Common.{◌≡◌, refl, sym, ap, subst, ℕ, pos, [], ◌∷◌, map, codes, true, false, Some, None}
use Rattle.ac_tree.specs.declared.expr.Expr.TheVariants as e
use Rattle.ac_tree.specs.declared.stmt.Stmt.TheVariants as s
use Rattle.ac_tree.specs.declared.item.Item.TheVariants as i
use Rattle.ac_names.specs.declared.meaning.Meaning.TheVariants as m
use Rattle.ac_names.specs.Items.{outermost}
use Rattle.ac_reach.specs.declared.reached.Reached.TheVariants as r
use Rattle.ac_reach.specs.Reached.{is_entry, is_called, here_is}
use Rattle.ac_reach.specs.Reached as reach
use Rattle.ac_reach.proofs.Examples.{none_reached, only_core, one_row}
use Rattle.ac_types.specs.declared.numbered.Signature.{Signature}
use Rattle.ac_types.specs.Tables.{callee_of, callee, is_array_in, takes_array, ends_named}
use Rattle.ac_types.specs.Nodes.{calls_of}
use Rattle.ac_types.specs.Expressions.{plain}
use Rattle.ac_types.specs.Items.{channel_ends, all_ends}
use Rattle.ac_types.specs.Items.{first_tables, tables_of, signatures, core_number, reached_in}
use Rattle.ac_types.specs.Reached.{function_number, calls_in, entries_of, Reaches, AreReached, IsReachedByAnother}
use Rattle.ac_types.proofs.Examples.{a_function, a_number_at, no_tables, one_core, the_first_calls_the_second, with_a_channel, with_arrays}
use Rattle.ac_types.proofs.Forms.{expr_is, stmt_is}

-- ---- tables

pub tables_of_two_cores : tables_of with_a_channel (r.BySeveral ∷ [])
    ≡ record {
      functions = record { is_async = true; gives_int = false; params = [] } ∷ [];
      channels = record { from = Some 0; to = Some 1 } ∷ [];
      widths = 1 ∷ [];
      reached = r.BySeveral ∷ [];
    }
tables_of_two_cores = rw (stmt_is _ (s.rolls-Call 59 (e.Send 59 (codes "c") (a_number_at 67))), expr_is _ (e.rolls-Send 59 (codes "c") (a_number_at 67)), expr_is _ (e.rolls-Number 67 (pos 1))) refl

pub tables_before_widths : first_tables with_a_channel
    ≡ record { functions = record { is_async = true; gives_int = false; params = [] } ∷ []; channels = record { from = Some 0; to = Some 1 } ∷ []; widths = []; reached = [] }
tables_before_widths = refl

pub kinds_of_parameters : signatures with_arrays ≡ record { is_async = true; gives_int = false; params = [] } ∷ record { is_async = false; gives_int = false; params = true ∷ false ∷ [] } ∷ []
kinds_of_parameters = refl

abbrev a_signature : Signature
a_signature = record { is_async = true; gives_int = false; params = true ∷ false ∷ [] }

pub by_its_signature : callee_of 3 (Some a_signature) ∷ callee_of 3 None ∷ [] ≡ Some (record { number = 3; is_async = true; gives_int = false; params = 2 }) ∷ None ∷ []
by_its_signature = refl

pub arrays_of_a_signature : is_array_in 0 (Some a_signature) ∷ is_array_in 1 (Some a_signature) ∷ is_array_in 2 (Some a_signature) ∷ is_array_in 0 None ∷ [] ≡ true ∷ false ∷ false ∷ false ∷ []
arrays_of_a_signature = refl

-- of which the second name is no core
pub two_ends : channel_ends (outermost with_a_channel) (codes "b") (codes "f") ≡ record { from = Some 1; to = None }
two_ends = refl

pub ends_of_all_channels : all_ends (outermost with_a_channel) with_a_channel ≡ record { from = Some 0; to = Some 1 } ∷ []
ends_of_all_channels = refl

pub numbers_of_functions_meant : map function_number (Some (m.Function 2) ∷ Some (m.Core 2) ∷ None ∷ []) ≡ Some 2 ∷ None ∷ None ∷ []
numbers_of_functions_meant = refl

pub it_calls_nothing : calls_in no_tables [] (one_core []) ≡ [] ∷ []
it_calls_nothing = refl

pub a_callee : callee (tables_of with_arrays []) (Some (m.Function 1)) ≡ Some (record { number = 1; is_async = false; gives_int = false; params = 2 })
a_callee = refl

pub no_callee : map (callee (tables_of with_arrays [])) (None ∷ Some (m.Core 0) ∷ Some (m.Function 2) ∷ []) ≡ None ∷ None ∷ None ∷ []
no_callee = refl

pub array_parameters : map (takes_array (tables_of with_arrays []) (Some (m.Function 1))) (0 ∷ 1 ∷ 2 ∷ []) ≡ true ∷ false ∷ false ∷ []
array_parameters = refl

pub ends_of_a_channel : map (ends_named (tables_of with_a_channel [])) (Some (m.Channel 0) ∷ Some (m.Channel 1) ∷ Some (m.File 0) ∷ [])
    ≡ Some (record { from = Some 0; to = Some 1 }) ∷ None ∷ None ∷ []
ends_of_a_channel = refl

pub numbers_of_cores_meant : map core_number (Some (m.Core 2) ∷ Some (m.File 2) ∷ None ∷ []) ≡ Some 2 ∷ None ∷ None ∷ []
numbers_of_cores_meant = refl

-- the second enters what is no function
pub the_second_enters_none : entries_of (i.Core 0 (codes "a") (codes "f") ∷ i.Core 11 (codes "b") (codes "a") ∷ a_function 22 true false (codes "f") [] [] ∷ []) ≡ Some 0 ∷ None ∷ []
the_second_enters_none = refl

pub called_in_order : calls_of (record { at = 0; tests = []; calls = Some 3; carries = None } ∷ plain 4 [] ∷ record { at = 6; tests = []; calls = Some 1; carries = None } ∷ []) ≡ 3 ∷ 1 ∷ []
called_in_order = refl

pub without_a_row : map reached_in (None ∷ Some (r.ByOne 1) ∷ []) ≡ r.ByNone ∷ r.ByOne 1 ∷ []
without_a_row = refl

-- ---- what is reached in `core a(f); async void f() {}`

pub reached_by_its_core : AreReached (one_core []) (r.ByOne 0 ∷ [])
reached_by_its_core = one_row

pub not_reached_by_none : AreReached (one_core []) (r.ByNone ∷ []) → ⊥
not_reached_by_none h = h.each 0 r.ByNone refl 0 (is_entry 0 refl)

pub a_core_reaches_its_entry : Reaches (one_core []) 0 0
a_core_reaches_its_entry = is_entry 0 refl

pub no_other_core_does : Reaches (one_core []) 1 0 → ⊥
no_other_core_does h = none_reached ([] ∷ []) _ 0 refl h

pub a_core_reaches_what_its_entry_calls : Reaches with_arrays 0 1
a_core_reaches_what_its_entry_calls =
    subst (λ calls. reach.Reaches calls (Some 0 ∷ []) 0 1) (sym the_first_calls_the_second) (is_called 0 1 (is_entry 0 refl) (record { row = 1 ∷ []; stands = refl; among = here_is [] }))

some_core : (core : ℕ) → Some core ≡ None → ⊥
some_core core e = cc

pub another_than_none : IsReachedByAnother (one_core []) 0 None
another_than_none = record { other = 0; reaches = is_entry 0 refl; differs = some_core 0 }

pub no_other_than_its_core : IsReachedByAnother (one_core []) 0 (Some 0) → ⊥
no_other_than_its_core h = h.differs (ap (λ (k : ℕ). Some k) (only_core h.other h.reaches))
