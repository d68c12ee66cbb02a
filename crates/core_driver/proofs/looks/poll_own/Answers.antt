use Rattle.std.proofs.Common.{◌≡◌, ℕ, Some, None, true, refl, ap, ◌∙◌, subst}
use Rattle.ac_base.specs.declared.entry.Event.TheVariants as event
use Rattle.core_machine.specs.Points.{is_at_point}
use Rattle.ac_links.specs.Party.{LinkEnd}
use Rattle.core_ports.specs.AtHand.{AtHand}
use Rattle.core_ports.specs.Ends.{awaits_reply}
use Rattle.core_driver.proofs.Together.{entered_looks, frees_after, knows_after, nothing_looks, owner_gets_nothing, owner_is_no_peer}
use Rattle.core_driver.proofs.Together.{owner_passes_nothing, roomed_looks, told_moves, up_to}
use Rattle.core_driver.proofs.Awaiting.{reply_after}
use Rattle.core_driver.proofs.Looking.{counts_here, full_there, owner_holds, poll_called}
use Rattle.core_driver.specs.inner.Outside.{outside}
use Rattle.core_driver.proofs.looks.poll_own.Goals as goal

pub poll-requires-clause-link : goal.poll-requires-clause-link
poll-requires-clause-link g c = owner_holds _ (c.requires.in_step.ports.owner c.args.link c.requires.side)

pub poll-requires-clause-clock : goal.poll-requires-clause-clock
poll-requires-clause-clock g c = up_to _ _ c.requires.in_step

pub replied-requires-clause-point : goal.replied-requires-clause-point
replied-requires-clause-point g c = ap is_at_point c.make_room.ensures.state ∙ c.requires.point

pub replied-requires-clause-some : goal.replied-requires-clause-some
replied-requires-clause-some g c = reply_after c.args.machine.now c.make_room.new.self _ c.requires.in_step c.requires.point c.make_room.ensures.same c.make_room.ensures.state
    c.make_room.ensures.run c.make_room.ensures.tracks c.args.link c.requires.side c.in-Reply.ensures.answer.1 c.in-Reply.ensures.answer.3 c.in-Reply.number
    c.in-Reply.ensures.answer.2

pub know-requires-clause-point : goal.know-requires-clause-point
know-requires-clause-point g c = ap is_at_point c.make_room.ensures.state ∙ c.requires.point

pub know-requires-clause-some : goal.know-requires-clause-some
know-requires-clause-some g c = knows_after c.args.machine.now c.make_room.new.self _ c.requires.in_step c.requires.point c.make_room.ensures.same c.make_room.ensures.state
    c.make_room.ensures.run c.make_room.ensures.tracks c.args.link c.in-Know.number (c.requires.in_step.ports.owner c.args.link c.requires.side) c.in-Know.ensures.tells.fits

pub roomed-requires-clause-point : goal.roomed-requires-clause-point
roomed-requires-clause-point g c = ap is_at_point c.make_room.ensures.state ∙ c.requires.point

pub roomed-requires-clause-keeps : goal.roomed-requires-clause-keeps
roomed-requires-clause-keeps g c = frees_after c.args.machine.now c.make_room.new.self _ c.requires.in_step c.requires.point c.make_room.ensures.same c.make_room.ensures.state
    c.make_room.ensures.run c.make_room.ensures.tracks c.args.link c.in-Room.number (c.requires.in_step.ports.owner c.args.link c.requires.side) c.in-Room.ensures.tells.fits

pub returns-in_err-make_room-clause-looks : goal.returns-in_err-make_room-clause-looks
returns-in_err-make_room-clause-looks g c = roomed_looks c.args.machine.now c.make_room.new.self _ c.requires.in_step c.requires.point c.make_room.ensures.same c.make_room.ensures.state
    c.make_room.ensures.run

pub returns-in_err-make_room-clause-stays : goal.returns-in_err-make_room-clause-stays
returns-in_err-make_room-clause-stays g c = g.met.P.Ports.stays_self c.args.ports.now

pub returns-in-Know-clause-looks : goal.returns-in-Know-clause-looks
returns-in-Know-clause-looks g c = entered_looks c.args.machine.now c.make_room.new.self _ c.requires.in_step c.requires.point c.make_room.ensures.same c.make_room.ensures.state
    c.make_room.ensures.run _ (record { event = event.Know c.args.link c.in-Know.number; stamp = c.in-Know.stamp })
    (poll_called (outside (g.P.Ports.told c.args.ports.now) c.args.clock.now)
    (outside (g.P.Ports.told c.poll.new.self) c.poll.new.clock) (Some (record { event = event.Know c.args.link c.in-Know.number; stamp = c.in-Know.stamp })) c.args.link c.in-Know.ensures.tells
    c.in-Know.ensures.hand
    c.in-Know.ensures.terms c.in-Know.ensures.polls c.in-Know.ensures.tries) c.know.new.self c.know.ensures.come c.know.ensures.less c.know.ensures.run

pub returns-in-Know-clause-polled : goal.returns-in-Know-clause-polled
returns-in-Know-clause-polled g c = counts_here (g.P.Ports.told c.args.ports.now).polls (g.P.Ports.told c.poll.new.self).polls c.args.link c.in-Know.ensures.polls

pub returns-in-Know-clause-decision : goal.returns-in-Know-clause-decision
returns-in-Know-clause-decision g c = λ e same. absurd (told_moves (outside (g.P.Ports.told c.args.ports.now) c.args.clock.now)
    (outside (g.P.Ports.told c.poll.new.self) c.poll.new.clock) (record { event = event.Know c.args.link c.in-Know.number; stamp = c.in-Know.stamp })
    (poll_called (outside (g.P.Ports.told c.args.ports.now) c.args.clock.now)
    (outside (g.P.Ports.told c.poll.new.self) c.poll.new.clock) (Some (record { event = event.Know c.args.link c.in-Know.number; stamp = c.in-Know.stamp })) c.args.link c.in-Know.ensures.tells
    c.in-Know.ensures.hand
    c.in-Know.ensures.terms c.in-Know.ensures.polls c.in-Know.ensures.tries) same)

pub returns-in-Know-clause-reply : goal.returns-in-Know-clause-reply
returns-in-Know-clause-reply g c = λ e same asks waits. absurd (told_moves (outside (g.P.Ports.told c.args.ports.now) c.args.clock.now)
    (outside (g.P.Ports.told c.poll.new.self) c.poll.new.clock) (record { event = event.Know c.args.link c.in-Know.number; stamp = c.in-Know.stamp })
    (poll_called (outside (g.P.Ports.told c.args.ports.now) c.args.clock.now)
    (outside (g.P.Ports.told c.poll.new.self) c.poll.new.clock) (Some (record { event = event.Know c.args.link c.in-Know.number; stamp = c.in-Know.stamp })) c.args.link c.in-Know.ensures.tells
    c.in-Know.ensures.hand
    c.in-Know.ensures.terms c.in-Know.ensures.polls c.in-Know.ensures.tries) same)

pub returns-in-Reply-clause-looks : goal.returns-in-Reply-clause-looks
returns-in-Reply-clause-looks g c = entered_looks c.args.machine.now c.make_room.new.self _ c.requires.in_step c.requires.point c.make_room.ensures.same c.make_room.ensures.state
    c.make_room.ensures.run _ (record { event = event.Reply c.args.link c.in-Reply.number c.in-Reply.answer; stamp = c.in-Reply.stamp })
    (poll_called (outside (g.P.Ports.told c.args.ports.now) c.args.clock.now)
    (outside (g.P.Ports.told c.poll.new.self) c.poll.new.clock) (Some (record { event = event.Reply c.args.link c.in-Reply.number c.in-Reply.answer; stamp = c.in-Reply.stamp })) c.args.link
    c.in-Reply.ensures.tells c.in-Reply.ensures.hand c.in-Reply.ensures.terms c.in-Reply.ensures.polls c.in-Reply.ensures.tries) c.replied.new.self
    c.replied.ensures.come c.replied.ensures.less c.replied.ensures.run

pub returns-in-Reply-clause-polled : goal.returns-in-Reply-clause-polled
returns-in-Reply-clause-polled g c = counts_here (g.P.Ports.told c.args.ports.now).polls (g.P.Ports.told c.poll.new.self).polls c.args.link c.in-Reply.ensures.polls

pub returns-in-Reply-clause-decision : goal.returns-in-Reply-clause-decision
returns-in-Reply-clause-decision g c = λ e same. absurd (told_moves (outside (g.P.Ports.told c.args.ports.now) c.args.clock.now)
    (outside (g.P.Ports.told c.poll.new.self) c.poll.new.clock) (record { event = event.Reply c.args.link c.in-Reply.number c.in-Reply.answer; stamp = c.in-Reply.stamp })
    (poll_called (outside (g.P.Ports.told c.args.ports.now) c.args.clock.now)
    (outside (g.P.Ports.told c.poll.new.self) c.poll.new.clock) (Some (record { event = event.Reply c.args.link c.in-Reply.number c.in-Reply.answer; stamp = c.in-Reply.stamp })) c.args.link
    c.in-Reply.ensures.tells c.in-Reply.ensures.hand c.in-Reply.ensures.terms c.in-Reply.ensures.polls c.in-Reply.ensures.tries) same)

pub returns-in-Reply-clause-reply : goal.returns-in-Reply-clause-reply
returns-in-Reply-clause-reply g c = λ e same asks waits. absurd (told_moves (outside (g.P.Ports.told c.args.ports.now) c.args.clock.now)
    (outside (g.P.Ports.told c.poll.new.self) c.poll.new.clock) (record { event = event.Reply c.args.link c.in-Reply.number c.in-Reply.answer; stamp = c.in-Reply.stamp })
    (poll_called (outside (g.P.Ports.told c.args.ports.now) c.args.clock.now)
    (outside (g.P.Ports.told c.poll.new.self) c.poll.new.clock) (Some (record { event = event.Reply c.args.link c.in-Reply.number c.in-Reply.answer; stamp = c.in-Reply.stamp })) c.args.link
    c.in-Reply.ensures.tells c.in-Reply.ensures.hand c.in-Reply.ensures.terms c.in-Reply.ensures.polls c.in-Reply.ensures.tries) same)

pub returns-in-Room-clause-looks : goal.returns-in-Room-clause-looks
returns-in-Room-clause-looks g c = entered_looks c.args.machine.now c.make_room.new.self _ c.requires.in_step c.requires.point c.make_room.ensures.same c.make_room.ensures.state
    c.make_room.ensures.run _ (record { event = event.Room c.args.link c.in-Room.number; stamp = c.in-Room.stamp })
    (poll_called (outside (g.P.Ports.told c.args.ports.now) c.args.clock.now)
    (outside (g.P.Ports.told c.poll.new.self) c.poll.new.clock) (Some (record { event = event.Room c.args.link c.in-Room.number; stamp = c.in-Room.stamp })) c.args.link c.in-Room.ensures.tells
    c.in-Room.ensures.hand
    c.in-Room.ensures.terms c.in-Room.ensures.polls c.in-Room.ensures.tries) c.roomed.new.self c.roomed.ensures.come c.roomed.ensures.less c.roomed.ensures.run

pub returns-in-Room-clause-polled : goal.returns-in-Room-clause-polled
returns-in-Room-clause-polled g c = counts_here (g.P.Ports.told c.args.ports.now).polls (g.P.Ports.told c.poll.new.self).polls c.args.link c.in-Room.ensures.polls

pub returns-in-Room-clause-decision : goal.returns-in-Room-clause-decision
returns-in-Room-clause-decision g c = λ e same. absurd (told_moves (outside (g.P.Ports.told c.args.ports.now) c.args.clock.now)
    (outside (g.P.Ports.told c.poll.new.self) c.poll.new.clock) (record { event = event.Room c.args.link c.in-Room.number; stamp = c.in-Room.stamp })
    (poll_called (outside (g.P.Ports.told c.args.ports.now) c.args.clock.now)
    (outside (g.P.Ports.told c.poll.new.self) c.poll.new.clock) (Some (record { event = event.Room c.args.link c.in-Room.number; stamp = c.in-Room.stamp })) c.args.link c.in-Room.ensures.tells
    c.in-Room.ensures.hand
    c.in-Room.ensures.terms c.in-Room.ensures.polls c.in-Room.ensures.tries) same)

pub returns-in-Room-clause-reply : goal.returns-in-Room-clause-reply
returns-in-Room-clause-reply g c = λ e same asks waits. absurd (told_moves (outside (g.P.Ports.told c.args.ports.now) c.args.clock.now)
    (outside (g.P.Ports.told c.poll.new.self) c.poll.new.clock) (record { event = event.Room c.args.link c.in-Room.number; stamp = c.in-Room.stamp })
    (poll_called (outside (g.P.Ports.told c.args.ports.now) c.args.clock.now)
    (outside (g.P.Ports.told c.poll.new.self) c.poll.new.clock) (Some (record { event = event.Room c.args.link c.in-Room.number; stamp = c.in-Room.stamp })) c.args.link c.in-Room.ensures.tells
    c.in-Room.ensures.hand
    c.in-Room.ensures.terms c.in-Room.ensures.polls c.in-Room.ensures.tries) same)

pub returns-in-Nothing-clause-looks : goal.returns-in-Nothing-clause-looks
returns-in-Nothing-clause-looks g c = nothing_looks c.args.machine.now c.make_room.new.self _ c.requires.in_step c.requires.point c.make_room.ensures.same c.make_room.ensures.state
    c.make_room.ensures.run _ (poll_called (outside (g.P.Ports.told c.args.ports.now) c.args.clock.now)
    (outside (g.P.Ports.told c.poll.new.self) c.poll.new.clock) None c.args.link c.in-Nothing.ensures.tells c.in-Nothing.ensures.hand c.in-Nothing.ensures.terms c.in-Nothing.ensures.polls
    c.in-Nothing.ensures.tries)

pub returns-in-Nothing-clause-polled : goal.returns-in-Nothing-clause-polled
returns-in-Nothing-clause-polled g c = counts_here (g.P.Ports.told c.args.ports.now).polls (g.P.Ports.told c.poll.new.self).polls c.args.link c.in-Nothing.ensures.polls

pub returns-in-Nothing-clause-decision : goal.returns-in-Nothing-clause-decision
returns-in-Nothing-clause-decision g c = λ e same. ap (λ (f : ℕ → AtHand). (f c.args.link).decision) c.in-Nothing.ensures.hand ∙ c.in-Nothing.ensures.answer.decision

pub returns-in-ClockFull-clause-looks : goal.returns-in-ClockFull-clause-looks
returns-in-ClockFull-clause-looks g c = nothing_looks c.args.machine.now c.make_room.new.self _ c.requires.in_step c.requires.point c.make_room.ensures.same c.make_room.ensures.state
    c.make_room.ensures.run _ (poll_called (outside (g.P.Ports.told c.args.ports.now) c.args.clock.now)
    (outside (g.P.Ports.told c.poll.new.self) c.poll.new.clock) None c.args.link c.in-ClockFull.ensures.tells c.in-ClockFull.ensures.hand c.in-ClockFull.ensures.terms c.in-ClockFull.ensures.polls
    c.in-ClockFull.ensures.tries)

pub returns-in-ClockFull-clause-heard : goal.returns-in-ClockFull-clause-heard
returns-in-ClockFull-clause-heard g c = λ e. full_there (outside (g.P.Ports.told c.args.ports.now) c.args.clock.now)
    (outside (g.P.Ports.told c.poll.new.self) c.poll.new.clock) c.args.link c.in-ClockFull.ensures.tells.1 c.in-ClockFull.ensures.answer.0

pub returns-in-ClockFull-clause-polled : goal.returns-in-ClockFull-clause-polled
returns-in-ClockFull-clause-polled g c = counts_here (g.P.Ports.told c.args.ports.now).polls (g.P.Ports.told c.poll.new.self).polls c.args.link c.in-ClockFull.ensures.polls

pub returns-in-Nothing-clause-reply : goal.returns-in-Nothing-clause-reply
returns-in-Nothing-clause-reply g c = λ e same asks waits.
    let there = subst (λ (x : ℕ → LinkEnd). awaits_reply (x c.args.link) ≡ true) c.in-Nothing.ensures.tells.0 waits in
    ap (λ (f : ℕ → AtHand). (f c.args.link).reply) c.in-Nothing.ensures.hand ∙ c.in-Nothing.ensures.answer.reply refl there

pub unreachable-requires : goal.unreachable-requires
unreachable-requires g c = owner_gets_nothing _ _ c.args.link c.in-Got.number c.in-Got.value (c.requires.in_step.ports.owner c.args.link c.requires.side) c.in-Got.ensures.tells.fits

pub unreachable-requires-in-Pass : goal.unreachable-requires-in-Pass
unreachable-requires-in-Pass g c = owner_passes_nothing _ _ c.args.link c.in-Pass.number (c.requires.in_step.ports.owner c.args.link c.requires.side) c.in-Pass.ensures.tells.fits

pub unreachable-requires-in-NotYet : goal.unreachable-requires-in-NotYet
unreachable-requires-in-NotYet g c = owner_is_no_peer _ (c.requires.in_step.ports.owner c.args.link c.requires.side) c.in-NotYet.ensures.answer.1
