-- Which answers tell of an entry.
use Rattle.std.specs.Prelude.{Bool, true, false}
use Rattle.ac_base.specs.declared.entry.Payload.{Payload}
use Rattle.core_channels.specs.declared.answers.Offering.{Offering}
use Rattle.core_channels.specs.declared.answers.Offering.TheVariants.{Offered, NoRoom, NotYet, ClockFull}
use Rattle.core_channels.specs.declared.answers.Learning.{Learning}
use Rattle.core_channels.specs.declared.answers.Learning.TheVariants as learning
use Rattle.core_channels.specs.declared.answers.Withdrawing.{Withdrawing}
use Rattle.core_channels.specs.declared.answers.Withdrawing.TheVariants as withdrawing
use Rattle.request_ends.specs.declared.asking.Replied.{Replied}
use Rattle.request_ends.specs.declared.asking.Replied.TheVariants as replied

abbrev pub enters_offering : Offering Payload → Bool
enters_offering (Offered number s) = true
enters_offering (NoRoom back) = false
enters_offering (NotYet back) = false
enters_offering (ClockFull back) = false

abbrev pub enters_withdrawal : Withdrawing → Bool
enters_withdrawal (withdrawing.Withdrawn s) = true
enters_withdrawal (withdrawing.Taken s) = true
enters_withdrawal withdrawing.ClockFull = false

abbrev pub enters_learning : Learning → Bool
enters_learning (learning.Know number s) = true
enters_learning (learning.Room number s) = true
enters_learning learning.Undecided = false
enters_learning learning.AllKnown = false
enters_learning learning.ClockFull = false

abbrev pub enters_reply : Replied → Bool
enters_reply (replied.Reply number answer s) = true
enters_reply replied.Nothing = false
enters_reply replied.ClockFull = false
