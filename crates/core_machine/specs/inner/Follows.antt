-- How a stretch goes on after an instruction.
use Rattle.std.specs.Prelude.{Result, Ok, Err}
use Rattle.ac_base.specs.declared.memory.NoMemory.{NoMemory}
use Rattle.core_machine.specs.declared.went.Went.{Went}
use Rattle.core_machine.specs.declared.went.Went.TheVariants as went
use Rattle.core_machine.specs.declared.went.Follows.{Follows}
use Rattle.core_machine.specs.declared.went.Follows.TheVariants.{Same, Away, Asks, Refused}

-- after one that went so, or was refused memory
abbrev pub follows_of : Result Went NoMemory → Follows
follows_of (Ok went.On) = Same
follows_of (Ok went.Away) = Away
follows_of (Ok went.Asks) = Asks
follows_of (Err error) = Refused
