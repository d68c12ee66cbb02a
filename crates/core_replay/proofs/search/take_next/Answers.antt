use Rattle.std.proofs.Common.{false, refl, sym, ◌∙◌}
use Rattle.core_replay.proofs.Coming.{refused_takes, still_played}
use Rattle.core_replay.proofs.Going.{awaits_first, awaits_next, ends_before, idles_before, late_takes, over_takes, same_since, since}
use Rattle.core_replay.proofs.search.take_next.Goals as goal

pub returns-then-ended-clause-takes : goal.returns-then-ended-clause-takes
returns-then-ended-clause-takes c = over_takes c.args.machine.now c.args.entry.now c.requires.stands (sym c.ended.ensures ∙ c.if-ended.true)

pub returns-then-entry-turns-clause-takes : goal.returns-then-entry-turns-clause-takes
returns-then-entry-turns-clause-takes c =
    late_takes c.args.machine.now c.args.entry.now c.turns.result c.requires.stands (sym c.ended.ensures ∙ c.if-ended.false) c.turns.ensures c.if-entry-turns.true

pub returns-in-Never-clause-takes : goal.returns-in-Never-clause-takes
returns-in-Never-clause-takes c =
    let m = c.moves.machine in
    let e = c.args.entry.now in
    since c.args.machine.now m m e false c.moves.invariant.same c.moves.invariant.journal
    (refused_takes m m e refl (idles_before m e c.moves.invariant.awaits c.in-Never.ensures.0 c.in-Never.ensures.1))

pub returns-then-ended-2-clause-takes : goal.returns-then-ended-2-clause-takes
returns-then-ended-2-clause-takes c =
    let m = c.moves.machine in
    let n = c.turn.new.self in
    let e = c.args.entry.now in
    since c.args.machine.now m n e false c.moves.invariant.same c.moves.invariant.journal
    (refused_takes m n e c.turn.ensures.same.journal
    (ends_before m e c.moves.invariant.awaits n (sym c.ended-in-Later.ensures ∙ c.if-ended-2.true) (c.turn.ensures.passes e.turn c.in-Later.ensures.2)))

pub moves-init : goal.moves-init
moves-init c =
    let going = sym c.ended.ensures ∙ c.if-ended.false in
    record {
      same = record { code = refl; core = refl; bound = refl };
      journal = refl;
      going = going;
      played = c.requires.played;
      awaits = awaits_first c.args.machine.now c.args.entry.now c.turns.result going c.requires.played.run c.turns.ensures c.if-entry-turns.false;
    }

pub moves-preserved : goal.moves-preserved
moves-preserved c =
    let m = c.moves.machine in
    let n = c.turn.new.self in
    let e = c.args.entry.now in
    let going = sym c.ended-in-Later.ensures ∙ c.if-ended-2.false in
    record {
      same = same_since c.args.machine.now m n c.moves.invariant.same c.turn.ensures.same;
      journal = c.turn.ensures.same.journal ∙ c.moves.invariant.journal;
      going = going;
      played = still_played m n c.moves.offers c.turn.ensures.same c.turn.ensures.run c.moves.invariant.played;
      awaits = awaits_next m e c.moves.invariant.awaits n c.turn.ensures.same c.turn.ensures.run going (c.turn.ensures.passes e.turn c.in-Later.ensures.2);
    }
