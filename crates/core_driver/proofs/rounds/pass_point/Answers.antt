use Rattle.std.proofs.Common.{◌≡◌, refl, sym, ◌∙◌}
use Rattle.core_driver.proofs.Together.{holds_then, still_going, turn_holds}
use Rattle.core_driver.proofs.Deciding.{asks_nothing}
use Rattle.core_driver.proofs.Polling.{polled_by_look, polled_by_point}
use Rattle.core_driver.proofs.Looking.{full_never, or_none}
use Rattle.core_driver.proofs.Resting.{less_by_entry, less_by_move}
use Rattle.std.proofs.lemmas.Result.{err_from_is_err_and}
use Rattle.core_driver.proofs.rounds.pass_point.Goals as goal

pub returns-in_err-full-clause-holds : goal.returns-in_err-full-clause-holds
returns-in_err-full-clause-holds g c = c.look_round.ensures.looks.holds

pub returns-then-full-clause-holds : goal.returns-then-full-clause-holds
returns-then-full-clause-holds g c = c.look_round.ensures.looks.holds

pub returns-then-full-clause-came : goal.returns-then-full-clause-came
returns-then-full-clause-came g c = record { going = still_going _ c.look_round.ensures.looks.point; full = c.in_ok-full.ensures.heard c.if-full.true }

pub returns-then-full-clause-full : goal.returns-then-full-clause-full
returns-then-full-clause-full g c = rw (← c.if-full.true) c.in_ok-full.ensures.full

pub returns-then-after-before-clause-holds : goal.returns-then-after-before-clause-holds
returns-then-after-before-clause-holds g c = c.look_round.ensures.looks.holds

pub returns-then-after-before-clause-came : goal.returns-then-after-before-clause-came
returns-then-after-before-clause-came g c =
    let clock : c.look_round.new.clock ≡ c.args.clock.now = sym c.last-after.ensures.same ∙ c.if-after-before.true ∙ c.last-before.ensures.same in
    record {
      idle = sym c.idle.ensures ∙ c.if-idle.true;
      state = c.look_round.ensures.looks.state clock;
      clock = clock;
      looked = c.in_ok-full.ensures.looked c.if-full.false;
    }

pub returns-then-after-before-clause-full : goal.returns-then-after-before-clause-full
returns-then-after-before-clause-full g c = full_never _ _ _ _ refl c.in_ok-full.ensures.full c.if-full.false ∙ or_none _

pub returns-then-idle-clause-holds : goal.returns-then-idle-clause-holds
returns-then-idle-clause-holds g c = c.look_round.ensures.looks.holds

pub returns-then-idle-clause-came : goal.returns-then-idle-clause-came
returns-then-idle-clause-came g c =
    less_by_entry c.args._ranks.now c.args.machine.now c.look_round.new.machine _ _ c.look_round.ensures.looks (rw (← c.last-before.ensures.same) c.last-before.ensures.bound)
    (λ e. c.if-after-before.false (c.last-after.ensures.same ∙ e ∙ sym c.last-before.ensures.same))

pub returns-then-idle-clause-full : goal.returns-then-idle-clause-full
returns-then-idle-clause-full g c = full_never _ _ _ _ refl c.in_ok-full.ensures.full c.if-full.false ∙ or_none _

pub turn-requires-clause-going : goal.turn-requires-clause-going
turn-requires-clause-going g c = still_going _ c.look_round.ensures.looks.point

pub turn-requires-clause-busy : goal.turn-requires-clause-busy
turn-requires-clause-busy g c = sym c.idle.ensures ∙ c.if-idle.false

pub turn-requires-clause-decided : goal.turn-requires-clause-decided
turn-requires-clause-decided g c = asks_nothing c.look_round.new.machine.code c.look_round.new.machine.state c.look_round.ensures.looks.point

pub turn-requires-clause-ranked : goal.turn-requires-clause-ranked
turn-requires-clause-ranked g c = rw c.look_round.ensures.looks.holds.machine.code c.requires.ranked

pub returns-clause-holds : goal.returns-clause-holds
returns-clause-holds g c = holds_then c.args.machine.now c.look_round.new.machine c.turn.new.self _ _ _ c.look_round.ensures.looks.holds
    (turn_holds c.look_round.new.machine c.turn.new.self _ c.look_round.ensures.looks.holds.in_step c.turn.ensures.same c.turn.ensures.run)

pub returns-clause-came : goal.returns-clause-came
returns-clause-came g c = less_by_move c.args._ranks.now c.args.machine.now c.look_round.new.machine c.turn.new.self _ _ c.look_round.ensures.looks c.in_ok-turn.ensures.less

pub returns-clause-full : goal.returns-clause-full
returns-clause-full g c = full_never _ _ _ _ refl c.in_ok-full.ensures.full c.if-full.false ∙ or_none _

pub returns-in_err-turn-clause-holds : goal.returns-in_err-turn-clause-holds
returns-in_err-turn-clause-holds g c = holds_then c.args.machine.now c.look_round.new.machine c.turn.new.self _ _ _ c.look_round.ensures.looks.holds
    (turn_holds c.look_round.new.machine c.turn.new.self _ c.look_round.ensures.looks.holds.in_step c.turn.ensures.same c.turn.ensures.run)

pub returns-in_err-turn-clause-full : goal.returns-in_err-turn-clause-full
returns-in_err-turn-clause-full g c = let p = err_from_is_err_and c.from_residual-in_err-turn.result c.from_residual-in_err-turn.ensures.1 in rw p.1
    (full_never _ _ _ _ refl c.in_ok-full.ensures.full c.if-full.false)

pub returns-in_err-full-clause-polled : goal.returns-in_err-full-clause-polled
returns-in_err-full-clause-polled g c = polled_by_look c.args.machine.now c.look_round.new.machine _ _ c.look_round.ensures.looks

pub returns-then-full-clause-polled : goal.returns-then-full-clause-polled
returns-then-full-clause-polled g c = polled_by_look c.args.machine.now c.look_round.new.machine _ _ c.look_round.ensures.looks

pub returns-then-after-before-clause-polled : goal.returns-then-after-before-clause-polled
returns-then-after-before-clause-polled g c = polled_by_look c.args.machine.now c.look_round.new.machine _ _ c.look_round.ensures.looks

pub returns-then-idle-clause-polled : goal.returns-then-idle-clause-polled
returns-then-idle-clause-polled g c = polled_by_look c.args.machine.now c.look_round.new.machine _ _ c.look_round.ensures.looks

pub returns-clause-polled : goal.returns-clause-polled
returns-clause-polled g c = polled_by_point c.args.machine.now c.look_round.new.machine c.turn.new.self _ _ c.look_round.ensures.looks (c.in_ok-full.ensures.looked c.if-full.false)
    c.turn.ensures.same c.turn.ensures.passes

pub returns-in_err-turn-clause-polled : goal.returns-in_err-turn-clause-polled
returns-in_err-turn-clause-polled g c = polled_by_point c.args.machine.now c.look_round.new.machine c.turn.new.self _ _ c.look_round.ensures.looks (c.in_ok-full.ensures.looked c.if-full.false)
    c.turn.ensures.same c.turn.ensures.passes
