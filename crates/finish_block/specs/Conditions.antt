-- What the calls on blocks ask for, and what always holds of the blocks.
use Rattle.std.specs.Prelude.{◌≡◌, ◌≢◌, ◌+◌, ◌<◌, ◌^◌, List, Option, Some, IsSome, IsSomeAnd, IfSome, true}
use Rattle.work_item.specs.declared.ids.BlockId.{BlockId}
use Rattle.finish_block.specs.declared.block.Block.{Block}
use Rattle.finish_block.specs.Table.{block_at}

-- the block was not given back
abbrev pub Lives : List (Option Block) → BlockId → Type 0
Lives blocks b = IsSome (block_at blocks b)

-- the parent lives, where one is given
abbrev pub ParentLives : List (Option Block) → Option BlockId → Type 0
ParentLives blocks parent = IfSome parent (Lives blocks)

-- no live block lies directly in it
abbrev pub Childless : List (Option Block) → BlockId → Type 0
Childless blocks b = (c : BlockId) (x : Block) → block_at blocks c ≡ Some x → x.parent ≢ Some b

-- the block lives, and its count can rise
abbrev pub CanCountMore : List (Option Block) → BlockId → Type 0
CanCountMore blocks b = IsSomeAnd (block_at blocks b) (λ x. x.count + 1 < 2 ^ 64)

-- the block lives, and so does a thread of it
abbrev pub HasThread : List (Option Block) → BlockId → Type 0
HasThread blocks b = IsSomeAnd (block_at blocks b) (λ x. 0 < x.count)

-- where the end of its last thread would give the block back, it is childless
abbrev pub ChildlessAtEnd : List (Option Block) → BlockId → Type 0
ChildlessAtEnd blocks b = IfSome (block_at blocks b) (λ x. x.count ≡ 1 → x.waits ≡ true → Childless blocks b)

-- where the arrival of its owner would give the block back, it is childless
abbrev pub ChildlessAtFinish : List (Option Block) → BlockId → Type 0
ChildlessAtFinish blocks b = IfSome (block_at blocks b) (λ x. x.count ≡ 0 → Childless blocks b)

-- the parent of a live block lives and is older
abbrev pub IsRooted : List (Option Block) → Type 0
IsRooted blocks = (b : BlockId) (x : Block) (p : BlockId) → block_at blocks b ≡ Some x → x.parent ≡ Some p
    → (p.number < b.number) × Lives blocks p
