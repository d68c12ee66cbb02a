-- The blocks of a core, as the code's meaning sees them.
use Rattle.std.specs.Prelude.{List, Option, Some, None, map}
use Rattle.finish_block.specs.declared.block.Block as kept
use Rattle.code_meaning.specs.Machine.{Block}

abbrev pub block_of : Option kept.Block → Option Block
block_of None = None
block_of (Some x) = Some (record { parent = x.parent; owner = x.owner; count = x.count; waits = x.waits; cancelled = x.cancelled })

abbrev pub blocks_of : List (Option kept.Block) → List (Option Block)
blocks_of blocks = map block_of blocks
