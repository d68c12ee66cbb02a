-- What a decision takes.
use Rattle.std.specs.Prelude.{Option, Some, None}
use Rattle.ac_links.specs.Payloads.{Taking}
use Rattle.ac_links.specs.Payloads.Taking.{Message, Done}
use Rattle.core_channels.specs.declared.decision.Taken.{Taken}
use Rattle.core_channels.specs.declared.decision.Taken.TheVariants as it

abbrev pub taking : Taken → Taking
taking (it.Message value) = Message value
taking (it.Done answer) = Done answer

abbrev pub taking_of : Option Taken → Option Taking
taking_of None = None
taking_of (Some taken) = Some (taking taken)
