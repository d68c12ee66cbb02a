-- A core under a journal that is given, entry by entry.
use Rattle.std.specs.Prelude.{◌≡◌, ℕ, zero, suc, ◌≤◌, Bool, true, false, not, nat_eq}
use Rattle.std.specs.Prelude.{is_none, List, [], ◌∷◌, Option, Some, None, find}
use Rattle.std.specs.Prelude.{slice_get, if◌then◌else◌}
use Rattle.ac_base.specs.declared.ends.CoreEnd.{CoreEnd}
use Rattle.ac_base.specs.declared.entry.Entry.{Entry}
use Rattle.work_item.specs.declared.ids.Item.{Item}
use Rattle.work_item.specs.declared.ids.BlockId.{BlockId}
use Rattle.work_item.specs.Store.{cell_at}
use Rattle.cancel_scope.specs.declared.operation.Progress.{Progress}
use Rattle.cancel_scope.specs.declared.operation.Progress.TheVariants as progress
use Rattle.cancel_scope.specs.declared.operation.Operation.{Operation}
use Rattle.core_state.specs.Moves.{Move, On, Over, GoesOn}
use Rattle.core_state.specs.Frames.{block_in}
use Rattle.core_state.specs.Cancelling.{is_to_try}
use Rattle.stack_code.specs.declared.instr.Instr.{Instr}
use Rattle.stack_code.specs.declared.instr.Instr.TheVariants as i
use Rattle.stack_code.specs.declared.parts.Entered.{Entered}
use Rattle.stack_code.specs.Parts.{Parts, Begins}
use Rattle.code_meaning.specs.Machine.{Flat, FlatEnd, exec, first_flat, is_inside, Runs}

-- ---- journals that have a run

-- the code of the core comes to an end under this journal, each entry of which has come in
pub record HasRun (code : Parts) (core bound : ℕ) (journal : List Entry) : Type 0 where
  pub end : CoreEnd
  pub count : ℕ
  pub runs : Runs code core bound journal (record { core = Some end; count = count })

-- it has come so far: each entry of this journal has come in, and the core has not ended
pub record HasComeTo (code : Parts) (core bound : ℕ) (journal : List Entry) (m : Flat) : Type 0 where
  pub function : Entered
  pub begins : Begins code core function
  pub goes : GoesOn (exec code bound) (first_flat code core function journal) (On m)
  pub past : m.shared.past ≡ journal
  pub todo : m.shared.todo ≡ []

-- ---- turns

-- none of these entries is of an earlier turn than the one before it, of which the first comes after this turn
abbrev pub Rises : ℕ → List Entry → Type 0
Rises turn [] = Unit {0}
Rises turn (e ∷ es) = (turn ≤ e.turn) × Rises e.turn es

-- the turn of the last of these entries, or this turn
abbrev pub last_turn : ℕ → List Entry → ℕ
last_turn turn [] = turn
last_turn turn (e ∷ es) = last_turn e.turn es

-- ---- where an entry may come in

-- an operation that a cancel tries is on offer, so that its outcome is an entry
abbrev pub is_on_offer : Progress → Bool
is_on_offer (progress.Offered number) = true
is_on_offer _ = false

abbrev pub asks_of : Option Operation → Bool
asks_of None = false
asks_of (Some o) = is_on_offer o.progress

abbrev pub asks_at : Flat → BlockId → Bool
asks_at m block = asks_of (find (is_to_try (is_inside m block)) m.operations)

abbrev pub asks_by : Flat → Option Instr → Bool
asks_by m (Some (i.Cancel level slot)) = asks_at m (block_in (cell_at m.store m.current.frame level slot))
asks_by m _ = false

-- the running thread stands at a cancel that asks for the outcome of an offer
abbrev pub asks : Parts → Flat → Option Item → Bool
asks code m None = false
asks code m (Some t) = asks_by m (slice_get code.instrs m.current.place)

abbrev pub is_asking : Parts → Flat → Bool
is_asking code m = asks code m m.running

-- an entry of that turn cannot come in before the next move: a thread runs and asks for no outcome, or none runs and the turn is another
abbrev pub passes_by : Parts → ℕ → Flat → Bool
passes_by code turn m = if is_none m.running then not (nat_eq turn m.shared.turn) else not (is_asking code m)

-- so many moves, before none of which an entry of that turn can come in
abbrev pub Passes : Parts → ℕ → ℕ → ℕ → Move Flat FlatEnd → Move Flat FlatEnd → Type 0
Passes code bound turn zero from to = to ≡ from
Passes code bound turn (suc k) (Over x) to = to ≡ Over x
Passes code bound turn (suc k) (On m) to = (passes_by code turn m ≡ true) × Passes code bound turn k (exec code bound m) to

-- no entry of that turn can come in before the first of these moves
abbrev pub passes_first : Parts → ℕ → Move Flat FlatEnd → Bool
passes_first code turn (On m) = passes_by code turn m
passes_first code turn (Over x) = true
