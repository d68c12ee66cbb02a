-- Why a program is refused.
use Rattle.ac_tree.specs.declared.item.Program.{Program}
use Rattle.ac_types.specs.declared.fault.CheckFault.{CheckFault}
use Rattle.ac_types.specs.declared.fault.CheckFault.TheVariants as f
use Rattle.ac_types.specs.Reached.{IsLeastBroken}

abbrev pub IsFault : Program → CheckFault → Type 0
IsFault p (f.Broken rule at) = IsLeastBroken p.items rule at
IsFault p f.NoMemory = Unit {0}
