-- What has come by a poll: its answer, and beside it the message or the reply.
use Rattle.core_channels.specs.declared.answers.Arrived.{Arrived}
use Rattle.core_channels.specs.declared.answers.Arrived.TheVariants.{Know, Room, Got, Pass, Reply, Nothing, NotYet, ClockFull}
use Rattle.end_ports.specs.declared.brought.Brought.{Brought}
use Rattle.end_ports.specs.declared.brought.Polled.{Polled}
use Rattle.end_ports.specs.declared.brought.Polled.TheVariants as polled

-- what has come by a poll of this answer that has left this
abbrev pub arrival_of : Polled → Brought → Arrived
arrival_of (polled.Know number s) left = Know number s
arrival_of (polled.Room number s) left = Room number s
arrival_of (polled.Got number s) left = Got number left.message s
arrival_of (polled.Pass number s) left = Pass number s
arrival_of (polled.Reply number s) left = Reply number left.answer s
arrival_of polled.Nothing left = Nothing
arrival_of polled.NotYet left = NotYet
arrival_of polled.ClockFull left = ClockFull
