use Rattle.std.proofs.Common.{sym, ◌∙◌}
use Rattle.core_replay.proofs.Coming.{room_played}
use Rattle.core_replay.proofs.arrivals.room.Goals as goal

pub returns-clause-played : goal.returns-clause-played
returns-clause-played c =
    let keeps = sym (c.requires.played.offers.keep c.args.link c.args.number) ∙ sym c.keeps_room.ensures ∙ c.if-not-keeps_room.false in
    room_played c.args.machine.now c.roomed-2.new.self c.args.offers.now c.roomed.new.self c.args.link c.args.number c.args.stamp c.roomed-2.ensures.come c.roomed-2.ensures.run c.requires.played
    keeps c.roomed.ensures.counts c.roomed.ensures.kept
