use Rattle.std.proofs.Common.{refl}
use Rattle.ac_names.specs.Numbered.{capacities}
use Rattle.ac_names.proofs.Numbers.{none_left}
use Rattle.ac_names.proofs.numbered.find_capacity.Goals as goal

pub unreachable-requires : goal.unreachable-requires
unreachable-requires c = none_left capacities c.args.items.now c.loop-item.item-index c.loop-item.left c.args.number refl c.loop-item-test.false c.loop-item.invariant c.requires
