use Rattle.std.proofs.Common.{refl}
use Rattle.ac_names.specs.Numbered.{core_names}
use Rattle.ac_names.proofs.Numbers.{none_left}
use Rattle.ac_names.proofs.numbered.find_core.Goals as goal

pub unreachable-requires : goal.unreachable-requires
unreachable-requires c = none_left core_names c.args.items.now c.loop-item.item-index c.loop-item.left c.args.number refl c.loop-item-test.false c.loop-item.invariant c.requires
