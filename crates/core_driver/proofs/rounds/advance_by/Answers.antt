use Rattle.std.proofs.Common.{◌||◌, refl, sym, ap, ◌∙◌, arith}
use Rattle.std.proofs.lemmas.Result.{err_from_is_err_and}
use Rattle.core_driver.specs.Pauses.{is_clock_full}
use Rattle.core_driver.specs.inner.Outside.{outside}
use Rattle.core_driver.specs.inner.Rounds.{is_seen_full}
use Rattle.core_driver.proofs.Together.{holds_still, holds_then, same_later}
use Rattle.core_driver.proofs.Looking.{full_never, full_next, or_none}
use Rattle.core_driver.proofs.Polling.{polled_none, polled_then}
use Rattle.core_driver.proofs.Resting.{end_is_no_full_clock, end_is_not_full, end_is_not_idle, falls_on, falls_quiet, leaves_nothing, looked_more, looked_none, paused_at, times_is}
use Rattle.core_driver.proofs.rounds.advance_by.Goals as goal

pub turns-init : goal.turns-init
turns-init g c = record {
  holds = holds_still _ _ c.requires.in_step;
  polled = polled_none c.args.machine.now (g.P.Ports.told c.args.ports.now).polls;
  full = refl;
  quiet = c.requires.some;
  looked = looked_none c.args.machine.now (outside (g.P.Ports.told c.args.ports.now) c.args.clock.now)
      (outside (g.P.Ports.told c.args.ports.now) c.args.clock.now) (same_later (outside (g.P.Ports.told c.args.ports.now) c.args.clock.now));
  stays = g.met.P.Ports.stays_self c.args.ports.now;
}

pub next_stretch-requires-clause-in_step : goal.next_stretch-requires-clause-in_step
next_stretch-requires-clause-in_step g c = c.turns.invariant.holds.in_step

pub next_stretch-requires-clause-going : goal.next_stretch-requires-clause-going
next_stretch-requires-clause-going g c = c.in_default.ensures.ended

pub next_stretch-requires-clause-ranked : goal.next_stretch-requires-clause-ranked
next_stretch-requires-clause-ranked g c = rw c.turns.invariant.holds.machine.code c.requires.ranked

pub returns-in-Some-clause-holds : goal.returns-in-Some-clause-holds
returns-in-Some-clause-holds g c = c.turns.invariant.holds

pub returns-in-Some-clause-pause : goal.returns-in-Some-clause-pause
returns-in-Some-clause-pause g c = rw c.pause_of.ensures (paused_at _ c.in-Some.ending c.in-Some.ensures.ended)

pub returns-in-Some-clause-full : goal.returns-in-Some-clause-full
returns-in-Some-clause-full g c = c.turns.invariant.full ∙ or_none _ ∙ ap (λ b. (g.P.Ports.told c.args.ports.now).full || b)
    (sym (ap is_clock_full c.pause_of.ensures ∙ end_is_not_full c.in-Some.ending))

pub returns-in-Some-clause-heard : goal.returns-in-Some-clause-heard
returns-in-Some-clause-heard g c = λ e. absurd (end_is_no_full_clock c.in-Some.ending (sym c.pause_of.ensures ∙ e))

pub returns-in-Some-clause-idle : goal.returns-in-Some-clause-idle
returns-in-Some-clause-idle g c = λ e. absurd (end_is_not_idle c.in-Some.ending (sym c.pause_of.ensures ∙ e))

pub returns-in-Some-clause-looked : goal.returns-in-Some-clause-looked
returns-in-Some-clause-looked g c = λ e. absurd (end_is_not_idle c.in-Some.ending (sym c.pause_of.ensures ∙ e))

pub returns-in-Some-clause-stays : goal.returns-in-Some-clause-stays
returns-in-Some-clause-stays g c = c.turns.invariant.stays

pub returns-in_err-seen-clause-holds : goal.returns-in_err-seen-clause-holds
returns-in_err-seen-clause-holds g c = holds_then c.args.machine.now c.turns.machine c.next_stretch.new.machine _ _ _ c.turns.invariant.holds c.next_stretch.ensures.holds

pub returns-in_err-seen-clause-full : goal.returns-in_err-seen-clause-full
returns-in_err-seen-clause-full g c = let p = err_from_is_err_and c.from_residual.result c.from_residual.ensures.1 in rw p.1 (c.in_err-seen.ensures.full ∙ c.turns.invariant.full)

pub returns-in_err-seen-clause-stays : goal.returns-in_err-seen-clause-stays
returns-in_err-seen-clause-stays g c = g.met.P.Ports.stays_then c.args.ports.now c.turns.ports c.next_stretch.new.ports c.turns.invariant.stays c.next_stretch.ensures.stays

pub returns-in-Full-clause-holds : goal.returns-in-Full-clause-holds
returns-in-Full-clause-holds g c = holds_then c.args.machine.now c.turns.machine c.next_stretch.new.machine _ _ _ c.turns.invariant.holds c.next_stretch.ensures.holds

pub returns-in-Full-clause-pause : goal.returns-in-Full-clause-pause
returns-in-Full-clause-pause g c = let came = (rw c.in-Full.is at c.in_ok-seen.ensures.came) in came.going

pub returns-in-Full-clause-full : goal.returns-in-Full-clause-full
returns-in-Full-clause-full g c = full_next _ _ _ _ c.turns.invariant.full (c.in_ok-seen.ensures.full ∙ ap (λ b. (g.P.Ports.told c.turns.ports).full || b) (ap is_seen_full c.in-Full.is))

pub returns-in-Full-clause-heard : goal.returns-in-Full-clause-heard
returns-in-Full-clause-heard g c = λ e. let came = (rw c.in-Full.is at c.in_ok-seen.ensures.came) in came.full

pub returns-in-Full-clause-stays : goal.returns-in-Full-clause-stays
returns-in-Full-clause-stays g c = g.met.P.Ports.stays_then c.args.ports.now c.turns.ports c.next_stretch.new.ports c.turns.invariant.stays c.next_stretch.ensures.stays

pub turns-preserved-in-WentOn : goal.turns-preserved-in-WentOn
turns-preserved-in-WentOn g c = record {
  holds = holds_then c.args.machine.now c.turns.machine c.next_stretch.new.machine _ _ _ c.turns.invariant.holds c.next_stretch.ensures.holds;
  polled = polled_then c.args.machine.now c.turns.machine c.next_stretch.new.machine _ _ _ c.turns.invariant.polled c.next_stretch.ensures.polled c.next_stretch.ensures.holds.machine
      c.turns.invariant.holds.in_step.run c.in_default.ensures.ended;
  full = full_never _ _ _ _ c.turns.invariant.full c.in_ok-seen.ensures.full (ap is_seen_full c.in-WentOn.is);
  quiet = c.requires.some;
  looked = looked_none c.next_stretch.new.machine _ _ (holds_then c.args.machine.now c.turns.machine c.next_stretch.new.machine _ _ _ c.turns.invariant.holds
      c.next_stretch.ensures.holds).ports;
  stays = g.met.P.Ports.stays_then c.args.ports.now c.turns.ports c.next_stretch.new.ports c.turns.invariant.stays c.next_stretch.ensures.stays;
}

pub turns-smaller-in-WentOn : goal.turns-smaller-in-WentOn
turns-smaller-in-WentOn g c = let came = (rw c.in-WentOn.is at c.in_ok-seen.ensures.came) in falls_on c.args._ranks.now c.args.polls c.turns.quiet c.turns.machine c.next_stretch.new.machine
    c.turns.clock c.next_stretch.new.clock came

pub turns-preserved : goal.turns-preserved
turns-preserved g c = record {
  holds = holds_then c.args.machine.now c.turns.machine c.next_stretch.new.machine _ _ _ c.turns.invariant.holds c.next_stretch.ensures.holds;
  polled = polled_then c.args.machine.now c.turns.machine c.next_stretch.new.machine _ _ _ c.turns.invariant.polled c.next_stretch.ensures.polled c.next_stretch.ensures.holds.machine
      c.turns.invariant.holds.in_step.run c.in_default.ensures.ended;
  full = full_never _ _ _ _ c.turns.invariant.full c.in_ok-seen.ensures.full (ap is_seen_full c.in-Nothing.is);
  quiet = let low = c.turns.invariant.quiet in let other = c.if-quiet-polls.false in omega (arith, low, other);
  looked = looked_more c.turns.quiet c.turns.machine c.next_stretch.new.machine (outside (g.P.Ports.told c.args.ports.now) c.args.clock.now)
      (outside (g.P.Ports.told c.turns.ports) c.turns.clock) (outside (g.P.Ports.told c.next_stretch.new.ports) c.next_stretch.new.clock) c.turns.invariant.looked
      c.next_stretch.ensures.holds (rw c.in-Nothing.is at c.in_ok-seen.ensures.came);
  stays = g.met.P.Ports.stays_then c.args.ports.now c.turns.ports c.next_stretch.new.ports c.turns.invariant.stays c.next_stretch.ensures.stays;
}

pub turns-smaller : goal.turns-smaller
turns-smaller g c = falls_quiet c.args._ranks.now c.args.polls c.turns.quiet c.turns.machine c.next_stretch.new.machine _ _ c.next_stretch.ensures.holds
    (rw c.in-Nothing.is at c.in_ok-seen.ensures.came) c.turns.invariant.quiet

pub returns-then-quiet-polls-clause-holds : goal.returns-then-quiet-polls-clause-holds
returns-then-quiet-polls-clause-holds g c = holds_then c.args.machine.now c.turns.machine c.next_stretch.new.machine _ _ _ c.turns.invariant.holds c.next_stretch.ensures.holds

pub returns-then-quiet-polls-clause-pause : goal.returns-then-quiet-polls-clause-pause
returns-then-quiet-polls-clause-pause g c = let came = (rw c.in-Nothing.is at c.in_ok-seen.ensures.came) in came.idle

pub returns-then-quiet-polls-clause-full : goal.returns-then-quiet-polls-clause-full
returns-then-quiet-polls-clause-full g c = full_never _ _ _ _ c.turns.invariant.full c.in_ok-seen.ensures.full (ap is_seen_full c.in-Nothing.is) ∙ or_none _

pub returns-then-quiet-polls-clause-idle : goal.returns-then-quiet-polls-clause-idle
returns-then-quiet-polls-clause-idle g c = λ e. leaves_nothing c.turns.machine c.next_stretch.new.machine _ _ c.next_stretch.ensures.holds (rw c.in-Nothing.is at c.in_ok-seen.ensures.came)

pub returns-then-quiet-polls-clause-looked : goal.returns-then-quiet-polls-clause-looked
returns-then-quiet-polls-clause-looked g c = λ e. times_is _ _ c.next_stretch.new.machine _ _ _ _ c.if-quiet-polls.true
    (looked_more c.turns.quiet c.turns.machine c.next_stretch.new.machine (outside (g.P.Ports.told c.args.ports.now) c.args.clock.now)
    (outside (g.P.Ports.told c.turns.ports) c.turns.clock) (outside (g.P.Ports.told c.next_stretch.new.ports) c.next_stretch.new.clock) c.turns.invariant.looked
    c.next_stretch.ensures.holds (rw c.in-Nothing.is at c.in_ok-seen.ensures.came))

pub returns-then-quiet-polls-clause-stays : goal.returns-then-quiet-polls-clause-stays
returns-then-quiet-polls-clause-stays g c = g.met.P.Ports.stays_then c.args.ports.now c.turns.ports c.next_stretch.new.ports c.turns.invariant.stays c.next_stretch.ensures.stays

pub returns-in-Some-clause-polled : goal.returns-in-Some-clause-polled
returns-in-Some-clause-polled g c = c.turns.invariant.polled

pub returns-in_err-seen-clause-polled : goal.returns-in_err-seen-clause-polled
returns-in_err-seen-clause-polled g c = polled_then c.args.machine.now c.turns.machine c.next_stretch.new.machine _ _ _ c.turns.invariant.polled c.next_stretch.ensures.polled
    c.next_stretch.ensures.holds.machine
    c.turns.invariant.holds.in_step.run c.in_default.ensures.ended

pub returns-in-Full-clause-polled : goal.returns-in-Full-clause-polled
returns-in-Full-clause-polled g c = polled_then c.args.machine.now c.turns.machine c.next_stretch.new.machine _ _ _ c.turns.invariant.polled c.next_stretch.ensures.polled
    c.next_stretch.ensures.holds.machine
    c.turns.invariant.holds.in_step.run c.in_default.ensures.ended

pub returns-then-quiet-polls-clause-polled : goal.returns-then-quiet-polls-clause-polled
returns-then-quiet-polls-clause-polled g c = polled_then c.args.machine.now c.turns.machine c.next_stretch.new.machine _ _ _ c.turns.invariant.polled c.next_stretch.ensures.polled
    c.next_stretch.ensures.holds.machine
    c.turns.invariant.holds.in_step.run c.in_default.ensures.ended
