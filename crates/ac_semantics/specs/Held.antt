-- What a core holds beside its threads.
use Rattle.std.specs.Prelude.{ℕ, List, [], ◌∷◌, ◌++◌, length, Bool, true, false, Option, slice_index_or, slice_set}
use Rattle.std.specs.List.{list_any}
use Rattle.ac_base.specs.declared.ends.EndWord.{EndWord}
use Rattle.ac_base.specs.declared.ends.CoreEnd.{CoreEnd}
use Rattle.work_item.specs.declared.ids.FrameId.{FrameId}
use Rattle.work_item.specs.declared.ids.BlockId.{BlockId}
use Rattle.work_item.specs.Store.{Store}
use Rattle.work_item.specs.declared.ids.Item.{Item}
use Rattle.cancel_scope.specs.declared.operation.Asked.{Asked}
use Rattle.cancel_scope.specs.declared.operation.Operation.{Operation}
use Rattle.cancel_scope.specs.Outstanding.{started}
use Rattle.core_state.specs.Frames.{with_entered}
use Rattle.core_state.specs.Shared.{Shared, with_step, with_turn, seen}

-- what it shares with its code, what its globals and frames hold, whether each block that was born is marked as cancelled, and its
-- operations that have not ended
pub record Held : Type 0 where
  pub shared : Shared
  pub store : Store
  pub marks : List Bool
  pub operations : List Operation

abbrev pub with_shared : Held → Shared → Held
with_shared s shared = record s { shared = shared }

abbrev pub with_store : Held → Store → Held
with_store s store = record s { store = store }

abbrev pub stepped : Held → Held
stepped s = with_shared s (with_step s.shared)

abbrev pub turned : Held → Held
turned s = with_shared s (with_turn s.shared)

abbrev pub next_block : Held → BlockId
next_block s = record { number = length s.marks }

-- a new block, kept in that slot of the frame
abbrev pub entered : Held → FrameId → ℕ → Held
entered s frame slot = record s { store = with_entered s.store frame slot (length s.marks); marks = s.marks ++ false ∷ [] }

-- a mark is for good
abbrev pub with_mark : Held → BlockId → Held
with_mark s block = record s { marks = slice_set s.marks block.number true }

-- one of these blocks is marked
abbrev pub any_marked : List Bool → List BlockId → Bool
any_marked marks blocks = list_any (λ (b : BlockId). slice_index_or marks b.number false) blocks

-- an operation more, for whose end that thread waits
abbrev pub with_started : Held → ℕ → Asked → Item → Held
with_started s link asked item = record s { operations = s.operations ++ started link asked item ∷ [] }

abbrev pub seen_of : EndWord → Bool → Held → Option CoreEnd
seen_of word idle s = seen word idle s.store.globals s.operations s.shared
