-- How the answers of the ends are told.
use Rattle.std.specs.Prelude.{ℤ, List, Bool, true, false}
use Rattle.ac_base.specs.declared.entry.Payload.{Payload}
use Rattle.ac_base.specs.declared.entry.Payload.TheVariants.{Int}
use Rattle.core_channels.specs.declared.answers.Arrived.{Arrived}
use Rattle.core_channels.specs.declared.answers.Arrived.TheVariants as arrived
use Rattle.core_channels.specs.declared.answers.Offering.{Offering}
use Rattle.core_channels.specs.declared.answers.Offering.TheVariants.{Offered, NoRoom, NotYet, ClockFull}
use Rattle.core_channels.specs.declared.answers.Learning.{Learning}
use Rattle.core_channels.specs.declared.answers.Learning.TheVariants as learning
use Rattle.core_channels.specs.declared.answers.Receiving.{Receiving}
use Rattle.core_channels.specs.declared.answers.Receiving.TheVariants as receiving
use Rattle.request_ends.specs.declared.asking.Replied.{Replied}
use Rattle.request_ends.specs.declared.asking.Replied.TheVariants as replied

-- what was not offered is handed back as the payload that it was
abbrev pub as_payload : Offering (List ℤ) → Offering Payload
as_payload (Offered number s) = Offered number s
as_payload (NoRoom back) = NoRoom (Int back)
as_payload (NotYet back) = NotYet (Int back)
as_payload (ClockFull back) = ClockFull (Int back)

abbrev pub learned_as : Learning → Arrived
learned_as (learning.Know number s) = arrived.Know number s
learned_as (learning.Room number s) = arrived.Room number s
learned_as learning.Undecided = arrived.Nothing
learned_as learning.AllKnown = arrived.Nothing
learned_as learning.ClockFull = arrived.ClockFull

abbrev pub received_as : Receiving (List ℤ) → Arrived
received_as (receiving.Took number value s) = arrived.Got number value s
received_as (receiving.Passed number s) = arrived.Pass number s
received_as receiving.Nothing = arrived.Nothing
received_as receiving.NotYet = arrived.NotYet
received_as receiving.ClockFull = arrived.ClockFull

abbrev pub replied_as : Replied → Arrived
replied_as (replied.Reply number answer s) = arrived.Reply number answer s
replied_as replied.Nothing = arrived.Nothing
replied_as replied.ClockFull = arrived.ClockFull

-- there is no decision to be learned
abbrev pub is_quiet : Learning → Bool
is_quiet (learning.Know number s) = false
is_quiet (learning.Room number s) = false
is_quiet learning.Undecided = true
is_quiet learning.AllKnown = true
is_quiet learning.ClockFull = false
