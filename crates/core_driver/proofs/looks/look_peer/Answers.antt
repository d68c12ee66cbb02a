use Rattle.std.proofs.Common.{◌≡◌, ℕ, Some, None, true, false, sym, ap, ◌∙◌}
use Rattle.ac_base.specs.declared.entry.Event.TheVariants as event
use Rattle.core_machine.specs.Points.{is_at_point}
use Rattle.core_ports.specs.AtHand.{AtHand}
use Rattle.core_ports.specs.declared.side.Side.TheVariants.{Peer, Neither}
use Rattle.core_driver.proofs.Together.{entered_looks, nothing_looks, peer_frees_nothing, peer_knows_nothing, roomed_looks, still_going, told_moves, up_to}
use Rattle.core_driver.proofs.Looking.{counts_here, full_there, no_requests, peer_holds, peer_is_channel, peer_looked, poll_called}
use Rattle.core_driver.specs.inner.Outside.{outside}
use Rattle.core_driver.proofs.looks.look_peer.Goals as goal

pub receives_from-wants-requires : goal.receives_from-wants-requires
receives_from-wants-requires g c = still_going _ (ap is_at_point c.make_room.ensures.state ∙ c.requires.point)

pub poll-requires-clause-link : goal.poll-requires-clause-link
poll-requires-clause-link g c = peer_holds _ (c.requires.in_step.ports.peer c.args.link c.requires.side)

pub poll-requires-clause-clock : goal.poll-requires-clause-clock
poll-requires-clause-clock g c = up_to _ _ c.requires.in_step

pub got-requires-clause-point : goal.got-requires-clause-point
got-requires-clause-point g c = ap is_at_point c.make_room.ensures.state ∙ c.requires.point

pub got-requires-clause-some : goal.got-requires-clause-some
got-requires-clause-some g c = sym c.receives_from-wants.ensures ∙ c.in-Got.ensures.answer

pub passed-requires-clause-point : goal.passed-requires-clause-point
passed-requires-clause-point g c = ap is_at_point c.make_room.ensures.state ∙ c.requires.point

pub passed-requires-clause-some : goal.passed-requires-clause-some
passed-requires-clause-some g c = sym c.receives_from-wants.ensures ∙ c.in-Pass.ensures.answer

pub returns-in_err-make_room-clause-looks : goal.returns-in_err-make_room-clause-looks
returns-in_err-make_room-clause-looks g c = roomed_looks c.args.machine.now c.make_room.new.self _ c.requires.in_step c.requires.point c.make_room.ensures.same c.make_room.ensures.state
    c.make_room.ensures.run

pub returns-in_err-make_room-clause-stays : goal.returns-in_err-make_room-clause-stays
returns-in_err-make_room-clause-stays g c = g.met.P.Ports.stays_self c.args.ports.now

pub returns-in-Got-clause-looks : goal.returns-in-Got-clause-looks
returns-in-Got-clause-looks g c = entered_looks c.args.machine.now c.make_room.new.self _ c.requires.in_step c.requires.point
    c.make_room.ensures.same c.make_room.ensures.state c.make_room.ensures.run _ (record { event = event.Got c.args.link c.in-Got.number c.in-Got.value; stamp = c.in-Got.stamp })
    (poll_called (outside (g.P.Ports.told c.args.ports.now) c.args.clock.now)
    (outside (g.P.Ports.told c.poll.new.self) c.poll.new.clock) (Some (record { event = event.Got c.args.link c.in-Got.number c.in-Got.value; stamp = c.in-Got.stamp })) c.args.link
    c.in-Got.ensures.tells c.in-Got.ensures.hand
    c.in-Got.ensures.terms c.in-Got.ensures.polls c.in-Got.ensures.tries) c.got.new.self c.got.ensures.come c.got.ensures.less c.got.ensures.run

pub returns-in-Got-clause-looked : goal.returns-in-Got-clause-looked
returns-in-Got-clause-looked g c = λ e. peer_looked _ _ _ _ c.args.link
    (entered_looks c.args.machine.now c.make_room.new.self _ c.requires.in_step c.requires.point c.make_room.ensures.same c.make_room.ensures.state c.make_room.ensures.run _
    (record { event = event.Got c.args.link c.in-Got.number c.in-Got.value; stamp = c.in-Got.stamp })
    (poll_called (outside (g.P.Ports.told c.args.ports.now) c.args.clock.now)
    (outside (g.P.Ports.told c.poll.new.self) c.poll.new.clock)
    (Some (record { event = event.Got c.args.link c.in-Got.number c.in-Got.value; stamp = c.in-Got.stamp })) c.args.link c.in-Got.ensures.tells c.in-Got.ensures.hand c.in-Got.ensures.terms
    c.in-Got.ensures.polls c.in-Got.ensures.tries) c.got.new.self c.got.ensures.come c.got.ensures.less c.got.ensures.run)
    (counts_here (g.P.Ports.told c.args.ports.now).polls (g.P.Ports.told c.poll.new.self).polls c.args.link c.in-Got.ensures.polls) c.requires.side
    (λ same waits. absurd (told_moves (outside (g.P.Ports.told c.args.ports.now) c.args.clock.now)
    (outside (g.P.Ports.told c.poll.new.self) c.poll.new.clock) (record { event = event.Got c.args.link c.in-Got.number c.in-Got.value; stamp = c.in-Got.stamp })
    (poll_called (outside (g.P.Ports.told c.args.ports.now) c.args.clock.now)
    (outside (g.P.Ports.told c.poll.new.self) c.poll.new.clock) (Some (record { event = event.Got c.args.link c.in-Got.number c.in-Got.value; stamp = c.in-Got.stamp })) c.args.link
    c.in-Got.ensures.tells c.in-Got.ensures.hand
    c.in-Got.ensures.terms c.in-Got.ensures.polls c.in-Got.ensures.tries) same))

pub returns-in-Pass-clause-looks : goal.returns-in-Pass-clause-looks
returns-in-Pass-clause-looks g c = entered_looks c.args.machine.now c.make_room.new.self _ c.requires.in_step c.requires.point c.make_room.ensures.same c.make_room.ensures.state
    c.make_room.ensures.run _ (record { event = event.Pass c.args.link c.in-Pass.number; stamp = c.in-Pass.stamp })
    (poll_called (outside (g.P.Ports.told c.args.ports.now) c.args.clock.now)
    (outside (g.P.Ports.told c.poll.new.self) c.poll.new.clock) (Some (record { event = event.Pass c.args.link c.in-Pass.number; stamp = c.in-Pass.stamp })) c.args.link c.in-Pass.ensures.tells
    c.in-Pass.ensures.hand
    c.in-Pass.ensures.terms c.in-Pass.ensures.polls c.in-Pass.ensures.tries) c.passed.new.self c.passed.ensures.come c.passed.ensures.less c.passed.ensures.run

pub returns-in-Pass-clause-looked : goal.returns-in-Pass-clause-looked
returns-in-Pass-clause-looked g c = λ e. peer_looked _ _ _ _ c.args.link (entered_looks c.args.machine.now c.make_room.new.self _ c.requires.in_step c.requires.point
    c.make_room.ensures.same c.make_room.ensures.state c.make_room.ensures.run _ (record { event = event.Pass c.args.link c.in-Pass.number; stamp = c.in-Pass.stamp })
    (poll_called (outside (g.P.Ports.told c.args.ports.now) c.args.clock.now)
    (outside (g.P.Ports.told c.poll.new.self) c.poll.new.clock) (Some (record { event = event.Pass c.args.link c.in-Pass.number; stamp = c.in-Pass.stamp })) c.args.link c.in-Pass.ensures.tells
    c.in-Pass.ensures.hand
    c.in-Pass.ensures.terms c.in-Pass.ensures.polls c.in-Pass.ensures.tries) c.passed.new.self c.passed.ensures.come c.passed.ensures.less c.passed.ensures.run)
    (counts_here (g.P.Ports.told c.args.ports.now).polls (g.P.Ports.told c.poll.new.self).polls c.args.link c.in-Pass.ensures.polls) c.requires.side
    (λ same waits. absurd (told_moves (outside (g.P.Ports.told c.args.ports.now) c.args.clock.now)
    (outside (g.P.Ports.told c.poll.new.self) c.poll.new.clock)
    (record { event = event.Pass c.args.link c.in-Pass.number; stamp = c.in-Pass.stamp })
    (poll_called (outside (g.P.Ports.told c.args.ports.now) c.args.clock.now)
    (outside (g.P.Ports.told c.poll.new.self) c.poll.new.clock)
    (Some (record { event = event.Pass c.args.link c.in-Pass.number; stamp = c.in-Pass.stamp })) c.args.link c.in-Pass.ensures.tells c.in-Pass.ensures.hand c.in-Pass.ensures.terms
    c.in-Pass.ensures.polls c.in-Pass.ensures.tries) same))

pub returns-in-Nothing-clause-looks : goal.returns-in-Nothing-clause-looks
returns-in-Nothing-clause-looks g c = nothing_looks c.args.machine.now c.make_room.new.self _ c.requires.in_step c.requires.point c.make_room.ensures.same c.make_room.ensures.state
    c.make_room.ensures.run _ (poll_called (outside (g.P.Ports.told c.args.ports.now) c.args.clock.now)
    (outside (g.P.Ports.told c.poll.new.self) c.poll.new.clock) None c.args.link c.in-Nothing.ensures.tells c.in-Nothing.ensures.hand c.in-Nothing.ensures.terms c.in-Nothing.ensures.polls
    c.in-Nothing.ensures.tries)

pub returns-in-Nothing-clause-looked : goal.returns-in-Nothing-clause-looked
returns-in-Nothing-clause-looked g c = λ e. peer_looked _ _ _ _ c.args.link (nothing_looks c.args.machine.now c.make_room.new.self _ c.requires.in_step c.requires.point
    c.make_room.ensures.same c.make_room.ensures.state c.make_room.ensures.run _
    (poll_called (outside (g.P.Ports.told c.args.ports.now) c.args.clock.now)
    (outside (g.P.Ports.told c.poll.new.self) c.poll.new.clock) None c.args.link c.in-Nothing.ensures.tells c.in-Nothing.ensures.hand
    c.in-Nothing.ensures.terms c.in-Nothing.ensures.polls c.in-Nothing.ensures.tries))
    (counts_here (g.P.Ports.told c.args.ports.now).polls (g.P.Ports.told c.poll.new.self).polls c.args.link c.in-Nothing.ensures.polls) c.requires.side
    (λ same waits. ap (λ (f : ℕ → AtHand). (f c.args.link).front) c.in-Nothing.ensures.hand ∙ c.in-Nothing.ensures.answer.front (c.receives_from-wants.ensures ∙ waits))

pub returns-in-NotYet-clause-looks : goal.returns-in-NotYet-clause-looks
returns-in-NotYet-clause-looks g c = nothing_looks c.args.machine.now c.make_room.new.self _ c.requires.in_step c.requires.point c.make_room.ensures.same c.make_room.ensures.state
    c.make_room.ensures.run _ (poll_called (outside (g.P.Ports.told c.args.ports.now) c.args.clock.now)
    (outside (g.P.Ports.told c.poll.new.self) c.poll.new.clock) None c.args.link c.in-NotYet.ensures.tells c.in-NotYet.ensures.hand c.in-NotYet.ensures.terms c.in-NotYet.ensures.polls
    c.in-NotYet.ensures.tries)

pub returns-in-NotYet-clause-looked : goal.returns-in-NotYet-clause-looked
returns-in-NotYet-clause-looked g c = λ e. peer_looked _ _ _ _ c.args.link (nothing_looks c.args.machine.now c.make_room.new.self _ c.requires.in_step c.requires.point
    c.make_room.ensures.same c.make_room.ensures.state c.make_room.ensures.run _
    (poll_called (outside (g.P.Ports.told c.args.ports.now) c.args.clock.now)
    (outside (g.P.Ports.told c.poll.new.self) c.poll.new.clock) None c.args.link c.in-NotYet.ensures.tells c.in-NotYet.ensures.hand
    c.in-NotYet.ensures.terms c.in-NotYet.ensures.polls c.in-NotYet.ensures.tries))
    (counts_here (g.P.Ports.told c.args.ports.now).polls (g.P.Ports.told c.poll.new.self).polls c.args.link c.in-NotYet.ensures.polls) c.requires.side
    (λ same waits. ap (λ (f : ℕ → AtHand). (f c.args.link).front) c.in-NotYet.ensures.hand ∙ c.in-NotYet.ensures.answer.0.front (c.receives_from-wants.ensures ∙ waits))

pub returns-in-ClockFull-clause-looks : goal.returns-in-ClockFull-clause-looks
returns-in-ClockFull-clause-looks g c = nothing_looks c.args.machine.now c.make_room.new.self _ c.requires.in_step c.requires.point c.make_room.ensures.same c.make_room.ensures.state
    c.make_room.ensures.run _ (poll_called (outside (g.P.Ports.told c.args.ports.now) c.args.clock.now)
    (outside (g.P.Ports.told c.poll.new.self) c.poll.new.clock) None c.args.link c.in-ClockFull.ensures.tells c.in-ClockFull.ensures.hand c.in-ClockFull.ensures.terms c.in-ClockFull.ensures.polls
    c.in-ClockFull.ensures.tries)

pub returns-in-ClockFull-clause-heard : goal.returns-in-ClockFull-clause-heard
returns-in-ClockFull-clause-heard g c = λ e. full_there (outside (g.P.Ports.told c.args.ports.now) c.args.clock.now)
    (outside (g.P.Ports.told c.poll.new.self) c.poll.new.clock) c.args.link c.in-ClockFull.ensures.tells.1 c.in-ClockFull.ensures.answer.0

pub unreachable-requires : goal.unreachable-requires
unreachable-requires g c = peer_knows_nothing _ _ c.args.link c.in-Know.number (c.requires.in_step.ports.peer c.args.link c.requires.side) c.in-Know.ensures.tells.fits

pub unreachable-requires-in-Room : goal.unreachable-requires-in-Room
unreachable-requires-in-Room g c = peer_frees_nothing _ _ c.args.link c.in-Room.number (c.requires.in_step.ports.peer c.args.link c.requires.side) c.in-Room.ensures.tells.fits

pub unreachable-requires-in-Reply : goal.unreachable-requires-in-Reply
unreachable-requires-in-Reply g c = let no : false ≡ true = sym (no_requests _ _ _ _ c.args.link c.requires.in_step.ports (peer_is_channel _ _ c.args.link c.requires.side)
    (λ none. let no : Peer ≡ Neither = sym c.requires.side ∙ none in cc)) ∙
    c.in-Reply.ensures.answer.1 in cc
