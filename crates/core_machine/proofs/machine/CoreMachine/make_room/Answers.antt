use Rattle.core_machine.proofs.Points.{makes_room, room_same, room_sound, room_state, room_tracks}
use Rattle.core_machine.proofs.machine.CoreMachine.make_room.Goals as goal

pub invariant_of-self : goal.invariant_of-self
invariant_of-self c = room_sound c.self.inside.running c.make_room.new.self c.args.self.now c.self.view_is c.self.invariant c.make_room.ensures.stays c.make_room.ensures.same

pub returns-clause-same : goal.returns-clause-same
returns-clause-same c = room_same c.self.inside.running c.make_room.new.self c.args.self.now c.self.view_is c.self.invariant c.make_room.ensures.stays c.make_room.ensures.same

pub returns-clause-state : goal.returns-clause-state
returns-clause-state c = room_state c.self.inside.running c.make_room.new.self c.args.self.now c.self.view_is c.self.invariant c.make_room.ensures.stays c.make_room.ensures.same

pub returns-clause-room : goal.returns-clause-room
returns-clause-room c = makes_room c.make_room.new.self c.make_room.result c.make_room.ensures.journal c.make_room.ensures.ready c.make_room.ensures.settled

pub returns-clause-tracks : goal.returns-clause-tracks
returns-clause-tracks c = room_tracks c.self.inside.running c.make_room.new.self c.args.self.now c.self.view_is c.self.invariant c.make_room.ensures.stays c.make_room.ensures.same

pub returns-clause-run : goal.returns-clause-run
returns-clause-run c = (room_sound c.self.inside.running c.make_room.new.self c.args.self.now c.self.view_is c.self.invariant c.make_room.ensures.stays c.make_room.ensures.same).ran
