use Rattle.std.proofs.Common.{sym, ◌∙◌}
use Rattle.ac_base.specs.declared.entry.Event.TheVariants as event
use Rattle.core_state.specs.Cancelling.{NeverHappens, IsTaken}
use Rattle.core_replay.proofs.Coming.{still_played}
use Rattle.core_replay.proofs.Deciding.{decided_takes, is_the_know, is_the_withdrawal, no_outcome, other_turn, taken_played, withdrawn_played}
use Rattle.core_replay.proofs.outcomes.decide.Goals as goal

pub returns-then-entry-turns-clause-takes : goal.returns-then-entry-turns-clause-takes
returns-then-entry-turns-clause-takes c =
    other_turn c.args.machine.now c.args.entry.now c.requires.awaits c.args.tried c.requires.asks c.turns.result c.turns.ensures c.if-entry-turns.true

pub returns-then-withdraws-clause-played : goal.returns-then-withdraws-clause-played
returns-then-withdraws-clause-played c =
    let p = still_played c.args.machine.now c.make_room.new.self c.args.offers.now c.make_room.ensures.same c.make_room.ensures.run c.requires.played in
    withdrawn_played c.make_room.new.self c.withdrawn-then-withdraws.new.self c.args.offers.now c.args.tried c.args.entry.now.stamp c.withdrawn-then-withdraws.ensures.run p
    c.withdrawn-then-withdraws.ensures.decided c.make_room.ensures.tracks c.withdrawn.new.self c.withdrawn.ensures.counts c.in_ok-withdrawn.ensures.kept

pub returns-then-withdraws-clause-takes : goal.returns-then-withdraws-clause-takes
returns-then-withdraws-clause-takes c =
    let v = event.Withdraw c.args.tried.link c.args.tried.number in
    decided_takes c.args.machine.now c.make_room.new.self c.make_room.ensures.same c.make_room.ensures.state c.args.entry.now c.turns.result c.turns.ensures c.if-entry-turns.false
    c.withdrawn-then-withdraws.new.self c.args.tried NeverHappens v
    (is_the_withdrawal c.args.tried.link c.args.tried.number c.args.entry.now.event (sym c.withdraws.ensures ∙ c.if-withdraws.true)) c.withdrawn-then-withdraws.ensures.decided

pub returns-then-knows-clause-played : goal.returns-then-knows-clause-played
returns-then-knows-clause-played c =
    let p = still_played c.args.machine.now c.make_room-then-knows.new.self c.args.offers.now c.make_room-then-knows.ensures.same c.make_room-then-knows.ensures.run c.requires.played in
    taken_played c.make_room-then-knows.new.self c.taken.new.self c.args.offers.now c.args.tried c.args.entry.now.stamp c.taken.ensures.run p c.taken.ensures.decided

pub returns-then-knows-clause-takes : goal.returns-then-knows-clause-takes
returns-then-knows-clause-takes c =
    let v = event.Know c.args.tried.link c.args.tried.number in
    decided_takes c.args.machine.now c.make_room-then-knows.new.self c.make_room-then-knows.ensures.same c.make_room-then-knows.ensures.state c.args.entry.now c.turns.result c.turns.ensures
    c.if-entry-turns.false c.taken.new.self c.args.tried IsTaken v
    (is_the_know c.args.tried.link c.args.tried.number c.args.entry.now.event (sym c.knows.ensures ∙ c.if-knows.true)) c.taken.ensures.decided

pub returns-clause-takes : goal.returns-clause-takes
returns-clause-takes c =
    no_outcome c.args.machine.now c.args.entry.now c.requires.awaits c.args.tried c.requires.asks (sym c.withdraws.ensures ∙ c.if-withdraws.false) (sym c.knows.ensures ∙ c.if-knows.false)
