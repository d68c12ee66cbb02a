-- The blocks of a core, and what becomes of them as threads start and end and owners arrive.
use Rattle.std.specs.Prelude.{ℕ, ◌+◌, ◌-◌, List, [], ◌∷◌, ◌++◌, length, Option, Some, None, Bool}
use Rattle.std.specs.Prelude.{true, false, ◌&&◌, nat_eq, slice_index_or, slice_set, if◌then◌else◌}
use Rattle.work_item.specs.declared.ids.Item.{Item}
use Rattle.work_item.specs.declared.ids.BlockId.{BlockId}
use Rattle.finish_block.specs.declared.block.Block.{Block}
use Rattle.finish_block.specs.declared.blocks.Arrival.{Arrival}
use Rattle.finish_block.specs.declared.blocks.Arrival.TheVariants.{Passes, Waits}

-- the blocks stand at their numbers, and one that was given back is gone; the spare is for how many more there is room
pub record Table : Type 0 where
  pub blocks : List (Option Block)
  pub spare : ℕ

abbrev pub block_at : List (Option Block) → BlockId → Option Block
block_at blocks b = slice_index_or blocks b.number None

abbrev pub with_block : Table → BlockId → Option Block → Table
with_block t b x = record t { blocks = slice_set t.blocks b.number x }

abbrev pub parent_at : Option Block → Option BlockId
parent_at None = None
parent_at (Some x) = x.parent

-- ---- a new block, in which no thread was started yet

abbrev pub next_block : List (Option Block) → BlockId
next_block blocks = record { number = length blocks }

abbrev pub new_block : Option BlockId → Item → Block
new_block parent owner = record { parent = parent; owner = owner; count = 0; waits = false; cancelled = false }

abbrev pub entered : Table → Option BlockId → Item → Table
entered t parent owner = record { blocks = t.blocks ++ Some (new_block parent owner) ∷ []; spare = t.spare - 1 }

-- ---- a thread is started directly in the block

abbrev pub one_more : Option Block → Option Block
one_more None = None
one_more (Some x) = Some (record x { count = x.count + 1 })

abbrev pub begun : Table → BlockId → Table
begun t b = with_block t b (one_more (block_at t.blocks b))

-- ---- a thread of the block has ended: where it was the last and the owner waits, the owner is woken and the block given back

abbrev pub wakes : Block → Bool
wakes x = nat_eq x.count 1 && x.waits

abbrev pub woken_by : Option Block → Option Item
woken_by None = None
woken_by (Some x) = if wakes x then Some x.owner else None

abbrev pub woken : List (Option Block) → BlockId → Option Item
woken blocks b = woken_by (block_at blocks b)

abbrev pub one_less : Option Block → Option Block
one_less None = None
one_less (Some x) = if wakes x then None else Some (record x { count = x.count - 1 })

abbrev pub ended : Table → BlockId → Table
ended t b = with_block t b (one_less (block_at t.blocks b))

-- ---- the owner arrives at the finish: it passes where no thread of the block lives, and the block is given back; else it waits

abbrev pub arrival_at : Option Block → Arrival
arrival_at None = Waits
arrival_at (Some x) = if nat_eq x.count 0 then Passes else Waits

abbrev pub arrival : List (Option Block) → BlockId → Arrival
arrival blocks b = arrival_at (block_at blocks b)

abbrev pub left_at : Option Block → Option Block
left_at None = None
left_at (Some x) = if nat_eq x.count 0 then None else Some (record x { waits = true })

abbrev pub arrived : Table → BlockId → Table
arrived t b = with_block t b (left_at (block_at t.blocks b))

-- ---- the mark

abbrev pub with_mark : Option Block → Option Block
with_mark None = None
with_mark (Some x) = Some (record x { cancelled = true })

abbrev pub marked : Table → BlockId → Table
marked t b = with_block t b (with_mark (block_at t.blocks b))
