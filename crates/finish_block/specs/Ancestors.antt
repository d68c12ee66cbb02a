-- The blocks round a block, as a relation and as a list, and whether one of them is marked.
use Rattle.std.specs.Prelude.{◌≡◌, ℕ, zero, suc, List, [], ◌∷◌, length, Option, None, Some, IsSomeAnd, Bool, true, false}
use Rattle.std.specs.List.{list_any}
use Rattle.work_item.specs.declared.ids.BlockId.{BlockId}
use Rattle.finish_block.specs.declared.block.Block.{Block}
use Rattle.finish_block.specs.Table.{block_at, parent_at}
use Rattle.finish_block.specs.Conditions.{Lives}

-- this block is that one, or lies round it: it is the parent of that, or the parent's parent, and so on
pub data IsRound (blocks : List (Option Block)) (a : BlockId) : BlockId → Type 0 where
  itself : IsRound blocks a a
  further : (b p : BlockId) (x : Block) → block_at blocks b ≡ Some x → x.parent ≡ Some p → IsRound blocks a p → IsRound blocks a b

abbrev pub IsMarked : List (Option Block) → BlockId → Type 0
IsMarked blocks b = IsSomeAnd (block_at blocks b) (λ x. x.cancelled ≡ true)

-- the block or one of those round it is marked
pub record IsCancelled (blocks : List (Option Block)) (block : BlockId) : Type 0 where
  pub by : BlockId
  pub round : IsRound blocks by block
  pub mark : IsMarked blocks by

-- the block and all those round it live
abbrev pub AncestorsLive : List (Option Block) → BlockId → Type 0
AncestorsLive blocks b = (a : BlockId) → IsRound blocks a b → Lives blocks a

-- ---- as a list

-- the block and those round it, the innermost first, but not more than so many
abbrev pub few_round : ℕ → List (Option Block) → Option BlockId → List BlockId
few_round k blocks None = []
few_round zero blocks (Some b) = []
few_round (suc k) blocks (Some b) = b ∷ few_round k blocks (parent_at (block_at blocks b))

-- all of them: a block lies only in older ones
abbrev pub round : List (Option Block) → Option BlockId → List BlockId
round blocks block = few_round (length blocks) blocks block

abbrev pub is_marked : Option Block → Bool
is_marked None = false
is_marked (Some x) = x.cancelled

abbrev pub any_marked : List (Option Block) → List BlockId → Bool
any_marked blocks some = list_any (λ (b : BlockId). is_marked (block_at blocks b)) some
