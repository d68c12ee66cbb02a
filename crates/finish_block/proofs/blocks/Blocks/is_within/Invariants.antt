use Rattle.std.proofs.Common.{◌≡◌, ◌-◌, length, nat_eq, Bool}
use Rattle.std.specs.List.{list_any}
use Rattle.work_item.specs.declared.ids.BlockId.{BlockId}
use Rattle.finish_block.specs.Ancestors.{few_round, round}
use Rattle.finish_block.proofs.blocks.Blocks.is_within.Given as goal

abbrev pub invariant-up : goal.invariant-up
invariant-up l =
    let is : BlockId → Bool = λ x. nat_eq l.outer.number x.number in
    list_any is (few_round (length l.self.blocks - l.counter) l.self.blocks l.current) ≡ list_any is (round l.self.blocks l.fn.block)
