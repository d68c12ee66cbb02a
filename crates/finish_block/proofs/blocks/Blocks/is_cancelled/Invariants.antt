use Rattle.std.proofs.Common.{◌≡◌, ◌-◌, length}
use Rattle.finish_block.specs.Ancestors.{few_round, round, any_marked}
use Rattle.finish_block.proofs.blocks.Blocks.is_cancelled.Given as goal

abbrev pub invariant-up : goal.invariant-up
invariant-up l = any_marked l.self.blocks (few_round (length l.self.blocks - l.counter) l.self.blocks l.current) ≡ any_marked l.self.blocks (round l.self.blocks l.fn.block)
