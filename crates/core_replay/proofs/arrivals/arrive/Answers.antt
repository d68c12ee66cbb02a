use Rattle.std.proofs.Common.{false, refl}
use Rattle.ac_base.specs.declared.entry.Event.TheVariants as event
use Rattle.core_replay.proofs.Coming.{came_played, came_takes, got_plain, if_came, know_plain, never_at_points, never_comes, pass_plain, maybe_played, reply_plain, still_played}
use Rattle.core_replay.proofs.arrivals.arrive.Goals as goal

pub returns-in-Offer-clause-takes : goal.returns-in-Offer-clause-takes
returns-in-Offer-clause-takes c =
    let v = event.Offer c.in-Offer.link c.in-Offer.number c.in-Offer.payload in
    if_came c.make_room.new.self c.args.machine.now c.offer.new.machine v c.args.entry.now c.offer.result c.offer.ensures.comes
    (λ came. came_takes c.args.machine.now c.make_room.new.self c.make_room.ensures.same c.make_room.ensures.state c.args.entry.now c.requires.now
    c.offer.new.machine c.requires.awaits c.requires.point came v c.in-Offer.is)

pub returns-in-Know-clause-played : goal.returns-in-Know-clause-played
returns-in-Know-clause-played c =
    let p = still_played c.args.machine.now c.make_room.new.self c.args.offers.now c.make_room.ensures.same c.make_room.ensures.run c.requires.played in
    came_played c.make_room.new.self c.know.new.machine c.args.offers.now (event.Know c.in-Know.link c.in-Know.number) c.args.entry.now.stamp c.know.result c.know.ensures.comes c.know.ensures.run p
    (know_plain c.in-Know.link c.in-Know.number)

pub returns-in-Know-clause-takes : goal.returns-in-Know-clause-takes
returns-in-Know-clause-takes c =
    came_takes c.args.machine.now c.make_room.new.self c.make_room.ensures.same c.make_room.ensures.state c.args.entry.now c.requires.now c.know.new.machine c.requires.awaits c.requires.point
    c.know.result (event.Know c.in-Know.link c.in-Know.number) c.in-Know.is c.know.ensures.comes

pub returns-in-Room-clause-takes : goal.returns-in-Room-clause-takes
returns-in-Room-clause-takes c =
    came_takes c.args.machine.now c.make_room.new.self c.make_room.ensures.same c.make_room.ensures.state c.args.entry.now c.requires.now c.room.new.machine c.requires.awaits c.requires.point
    c.room.result (event.Room c.in-Room.link c.in-Room.number) c.in-Room.is c.room.ensures.comes

pub returns-in-Got-clause-played : goal.returns-in-Got-clause-played
returns-in-Got-clause-played c =
    let p = still_played c.args.machine.now c.make_room.new.self c.args.offers.now c.make_room.ensures.same c.make_room.ensures.run c.requires.played in
    came_played c.make_room.new.self c.got.new.machine c.args.offers.now
    (event.Got c.in-Got.link c.in-Got.number c.in-Got.value) c.args.entry.now.stamp c.got.result c.got.ensures.comes c.got.ensures.run p
    (got_plain c.in-Got.link c.in-Got.number c.in-Got.value)

pub returns-in-Got-clause-takes : goal.returns-in-Got-clause-takes
returns-in-Got-clause-takes c =
    came_takes c.args.machine.now c.make_room.new.self c.make_room.ensures.same c.make_room.ensures.state c.args.entry.now c.requires.now c.got.new.machine c.requires.awaits c.requires.point
    c.got.result (event.Got c.in-Got.link c.in-Got.number c.in-Got.value) c.in-Got.is c.got.ensures.comes

pub returns-in-Pass-clause-played : goal.returns-in-Pass-clause-played
returns-in-Pass-clause-played c =
    let p = still_played c.args.machine.now c.make_room.new.self c.args.offers.now c.make_room.ensures.same c.make_room.ensures.run c.requires.played in
    came_played c.make_room.new.self c.pass.new.machine c.args.offers.now (event.Pass c.in-Pass.link c.in-Pass.number) c.args.entry.now.stamp c.pass.result c.pass.ensures.comes c.pass.ensures.run p
    (pass_plain c.in-Pass.link c.in-Pass.number)

pub returns-in-Pass-clause-takes : goal.returns-in-Pass-clause-takes
returns-in-Pass-clause-takes c =
    came_takes c.args.machine.now c.make_room.new.self c.make_room.ensures.same c.make_room.ensures.state c.args.entry.now c.requires.now c.pass.new.machine c.requires.awaits c.requires.point
    c.pass.result (event.Pass c.in-Pass.link c.in-Pass.number) c.in-Pass.is c.pass.ensures.comes

pub returns-in-Reply-clause-played : goal.returns-in-Reply-clause-played
returns-in-Reply-clause-played c =
    let p = still_played c.args.machine.now c.make_room.new.self c.args.offers.now c.make_room.ensures.same c.make_room.ensures.run c.requires.played in
    maybe_played c.make_room.new.self c.reply.new.machine c.args.offers.now (event.Reply c.in-Reply.link c.in-Reply.number c.in-Reply.answer) c.args.entry.now.stamp c.reply.result
    c.reply.ensures.comes c.reply.ensures.err c.reply.ensures.run p (reply_plain c.in-Reply.link c.in-Reply.number c.in-Reply.answer)

pub returns-in-Reply-clause-takes : goal.returns-in-Reply-clause-takes
returns-in-Reply-clause-takes c =
    let v = event.Reply c.in-Reply.link c.in-Reply.number c.in-Reply.answer in
    if_came c.make_room.new.self c.args.machine.now c.reply.new.machine v c.args.entry.now c.reply.result c.reply.ensures.comes
    (λ came. came_takes c.args.machine.now c.make_room.new.self c.make_room.ensures.same c.make_room.ensures.state c.args.entry.now c.requires.now
    c.reply.new.machine c.requires.awaits c.requires.point came v c.in-Reply.is)

pub returns-in-Withdraw-clause-takes : goal.returns-in-Withdraw-clause-takes
returns-in-Withdraw-clause-takes c =
    came_takes c.args.machine.now c.make_room.new.self c.make_room.ensures.same c.make_room.ensures.state c.args.entry.now c.requires.now c.make_room.new.self c.requires.awaits
    c.requires.point false c.args.entry.now.event refl
    (never_comes c.make_room.new.self c.args.entry.now.event c.args.entry.now.stamp (never_at_points c.args.entry.now.event c.in-Withdraw.is))

pub returns-in-Withdraw-2-clause-takes : goal.returns-in-Withdraw-2-clause-takes
returns-in-Withdraw-2-clause-takes c =
    came_takes c.args.machine.now c.make_room.new.self c.make_room.ensures.same c.make_room.ensures.state c.args.entry.now c.requires.now c.make_room.new.self c.requires.awaits
    c.requires.point false c.args.entry.now.event refl
    (never_comes c.make_room.new.self c.args.entry.now.event c.args.entry.now.stamp (never_at_points c.args.entry.now.event c.in-Withdraw.is))
