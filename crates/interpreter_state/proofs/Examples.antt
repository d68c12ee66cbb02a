-- What the interpreter holds as the meaning holds it, and the oldest operation for which a test holds.
-- Each definition at a value of each kind; the oldest of three operations is the second, and neither a later one nor one of another link
-- is.
use Rattle.std.proofs.Common.{◌≡◌, ℕ, pos, List, [], ◌∷◌, true, false, Option, Some, None, refl}
use Rattle.work_item.specs.Store.{Store}
use Rattle.work_item.specs.declared.cell.Cell.TheVariants as c
use Rattle.work_item.specs.declared.cell.Place.{Place}
use Rattle.work_item.specs.declared.ids.Item.{Item}
use Rattle.cancel_scope.specs.declared.operation.Asked.TheVariants as a
use Rattle.cancel_scope.specs.declared.operation.Operation.{Operation}
use Rattle.cancel_scope.specs.Outstanding.{started, is_to_receive}
use Rattle.core_state.specs.Arrivals.{ok}
use Rattle.interpreter_state.specs.declared.held.Held.{Held}
use Rattle.interpreter_state.specs.declared.operation.Asked.TheVariants as k
use Rattle.interpreter_state.specs.declared.datum.DatumKind.TheVariants as d
use Rattle.interpreter_state.specs.Data.{cell_of}
use Rattle.interpreter_state.specs.Operations.{asked_of, IsOldest}
use Rattle.interpreter_state.specs.State.{shared_of, held_of}
use Rattle.interpreter_state.specs.Arrivals.{item_of, value_of, left_after, arrival_of}

abbrev in_globals : Place
in_globals = record { home = None; start = 3; len = 2 }

-- ---- what a slot holds

pub an_int : cell_of (d.Int (pos 7)) ≡ c.Int (pos 7)
an_int = refl

pub an_array : cell_of (d.Array in_globals) ≡ c.Array in_globals
an_array = refl

pub a_block : cell_of (d.Block (record { number = 2 })) ≡ c.Block (record { number = 2 })
a_block = refl

-- ---- what is asked of a link

pub a_message_is_sent : asked_of (k.Send (pos 5 ∷ [])) ≡ a.Send (pos 5 ∷ [])
a_message_is_sent = refl

pub a_message_is_received : asked_of (k.Recv in_globals) ≡ a.Recv in_globals
a_message_is_received = refl

pub two_bytes_are_read : asked_of (k.Read 1 7 in_globals) ≡ a.Read 1 7 in_globals
two_bytes_are_read = refl

pub two_bytes_are_written : asked_of (k.Write 1 7 (65 ∷ 10 ∷ [])) ≡ a.Write 1 7 (65 ∷ 10 ∷ [])
two_bytes_are_written = refl

-- ---- the oldest operation that waits for a message of a link

abbrev thread : ℕ → Item
thread number = record { number = number }

abbrev sends : Operation
sends = started 0 (a.Send (pos 5 ∷ [])) (thread 1)

abbrev receives : ℕ → Operation
receives number = started 2 (a.Recv in_globals) (thread number)

abbrev three : List Operation
three = sends ∷ receives 2 ∷ receives 3 ∷ []

pub the_second_is_the_oldest : IsOldest (is_to_receive 2) three 1 (receives 2)
the_second_is_the_oldest = (refl, refl)

pub the_third_is_not : IsOldest (is_to_receive 2) three 2 (receives 3) → ⊥
the_third_is_not h = let no : ◌≡◌ {A = Option ℕ} (Some 1) (Some 2) = h.0 in cc

pub none_is_on_another_link : (place : ℕ) (o : Operation) → IsOldest (is_to_receive 1) three place o → ⊥
none_is_on_another_link place o h = let no : ◌≡◌ {A = Option ℕ} None (Some place) = h.0 in cc

-- ---- what a core holds, which is no journal

module _ (h : Held) where
  pub steps_and_turns : h.steps ≡ 4 → h.turn ≡ 3 → ((shared_of h).steps ≡ 4) × ((shared_of h).turn ≡ 3)
  steps_and_turns steps turn = (steps, turn)

  pub no_entries : ((shared_of h).past ≡ []) × ((shared_of h).todo ≡ [])
  no_entries = (refl, refl)

  pub a_block_is_marked : h.marks.items ≡ false ∷ true ∷ [] → (held_of h).marks ≡ false ∷ true ∷ []
  a_block_is_marked marks = marks

  pub three_have_not_ended : h.operations.items ≡ three → (held_of h).operations ≡ three
  three_have_not_ended operations = operations

-- ---- what has come in

pub a_thread_goes_on : item_of (Some (record { item = thread 2; value = pos 7 })) ≡ Some (thread 2)
a_thread_goes_on = refl

pub with_a_value : value_of (Some (record { item = thread 2; value = pos 7 })) ≡ pos 7
with_a_value = refl

module _ (h : Held) where
  pub no_thread_goes_on : arrival_of h None ≡ record { operations = h.operations.items; store = h.memory; woken = None; value = ok }
  no_thread_goes_on = refl

pub one_is_left : (store : Store) → (left_after store (sends ∷ []) (Some (record { item = thread 2; value = pos 0 }))).operations ≡ sends ∷ []
one_is_left store = refl
