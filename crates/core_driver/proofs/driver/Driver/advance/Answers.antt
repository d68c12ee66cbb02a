use Rattle.std.proofs.Common.{◌≡◌, true, false, sym, ap, ◌∙◌}
use Rattle.std.proofs.lemmas.Result.{err_from_is_err_and}
use Rattle.core_driver.specs.Driven.{Driven}
use Rattle.core_driver.proofs.Driving.{full_by, heard_by, in_step_by, kept_by, kept_still, later_by, quiet_by}
use Rattle.core_driver.proofs.Polling.{polled_none, polled_seen}
use Rattle.core_driver.proofs.driver.Driver.advance.Goals as goal

pub advance_by-requires-clause-in_step : goal.advance_by-requires-clause-in_step
advance_by-requires-clause-in_step g c = in_step_by c.self.inside.machine c.self.inside.full c.args.self.now _ c.self.view_is c.self.invariant c.requires.ports c.requires.agrees

pub advance_by-requires-clause-ranked : goal.advance_by-requires-clause-ranked
advance_by-requires-clause-ranked g c = rw (← c.code.ensures) c.ranks-ranks.ensures

pub invariant_of-self : goal.invariant_of-self
invariant_of-self g c = kept_still c.self.inside.machine c.self.inside.full c.args.self.now _ c.self.view_is c.self.invariant c.advance_by.new.machine _
    c.advance_by.ensures.holds c.if-self.false

pub invariant_of-self-2 : goal.invariant_of-self-2
invariant_of-self-2 g c = kept_by c.self.inside.machine c.self.inside.full c.args.self.now _ c.self.view_is c.self.invariant c.advance_by.new.machine _ c.advance_by.ensures.holds
    c.in_ok-pause.pause c.is_clock_full-self-inside.result c.in_ok-pause.ensures.pause c.is_clock_full-self-inside.ensures

pub returns-in_err-pause-clause-later : goal.returns-in_err-pause-clause-later
returns-in_err-pause-clause-later g c = later_by c.self.inside.machine c.self.inside.full c.args.self.now _ c.self.view_is c.self.invariant c.advance_by.new.machine _
    c.advance_by.ensures.holds

pub returns-in_err-pause-clause-run : goal.returns-in_err-pause-clause-run
returns-in_err-pause-clause-run g c = c.advance_by.ensures.holds.in_step.run

pub returns-in_err-pause-clause-terms : goal.returns-in_err-pause-clause-terms
returns-in_err-pause-clause-terms g c = c.advance_by.ensures.holds.ports.terms

pub returns-in_err-pause-clause-ports : goal.returns-in_err-pause-clause-ports
returns-in_err-pause-clause-ports g c = c.advance_by.ensures.holds.in_step.ports

pub returns-in_err-pause-clause-agrees : goal.returns-in_err-pause-clause-agrees
returns-in_err-pause-clause-agrees g c = c.advance_by.ensures.holds.in_step.agrees

pub returns-in_err-pause-clause-quiet : goal.returns-in_err-pause-clause-quiet
returns-in_err-pause-clause-quiet g c = quiet_by c.self.inside.machine c.self.inside.full c.args.self.now _ c.self.view_is c.self.invariant c.advance_by.new.machine _
    c.advance_by.ensures.holds

pub returns-clause-later : goal.returns-clause-later
returns-clause-later g c = later_by c.self.inside.machine c.self.inside.full c.args.self.now _ c.self.view_is c.self.invariant c.advance_by.new.machine _ c.advance_by.ensures.holds

pub returns-clause-run : goal.returns-clause-run
returns-clause-run g c = c.advance_by.ensures.holds.in_step.run

pub returns-clause-terms : goal.returns-clause-terms
returns-clause-terms g c = c.advance_by.ensures.holds.ports.terms

pub returns-clause-ports : goal.returns-clause-ports
returns-clause-ports g c = c.advance_by.ensures.holds.in_step.ports

pub returns-clause-agrees : goal.returns-clause-agrees
returns-clause-agrees g c = c.advance_by.ensures.holds.in_step.agrees

pub returns-clause-quiet : goal.returns-clause-quiet
returns-clause-quiet g c = quiet_by c.self.inside.machine c.self.inside.full c.args.self.now _ c.self.view_is c.self.invariant c.advance_by.new.machine _ c.advance_by.ensures.holds

pub returns-in_err-pause-clause-full : goal.returns-in_err-pause-clause-full
returns-in_err-pause-clause-full g c = let p = err_from_is_err_and c.from_residual.result c.from_residual.ensures.1 in rw p.1 (ap (λ (d : Driven). d.full) c.self.view_is)

pub returns-clause-full : goal.returns-clause-full
returns-clause-full g c = full_by c.self.inside.machine c.self.inside.full c.args.self.now _ c.self.view_is c.self.invariant c.advance_by.new.machine _ c.advance_by.ensures.holds
    c.is_clock_full-self-inside.result _ c.if-self.false c.is_clock_full-self-inside.ensures

pub returns-clause-heard : goal.returns-clause-heard
returns-clause-heard g c = λ e full. heard_by c.self.inside.machine c.self.inside.full c.args.self.now _ c.self.view_is c.self.invariant c.advance_by.new.machine _
    c.advance_by.ensures.holds (c.in_ok-pause.ensures.heard full)

pub returns-in_err-pause-clause-for_good : goal.returns-in_err-pause-clause-for_good
returns-in_err-pause-clause-for_good g c = λ e. let no : false ≡ true = sym c.if-self.false ∙ ap (λ (d : Driven). d.full) c.self.view_is ∙ e in absurd (cc)

pub returns-clause-for_good : goal.returns-clause-for_good
returns-clause-for_good g c = λ e. let no : false ≡ true = sym c.if-self.false ∙ ap (λ (d : Driven). d.full) c.self.view_is ∙ e in absurd (cc)

pub returns-in_err-pause-clause-polled : goal.returns-in_err-pause-clause-polled
returns-in_err-pause-clause-polled g c = polled_seen c.self.inside.machine c.advance_by.new.machine c.self.inside.full c.args.self.now _ _ c.self.view_is c.advance_by.ensures.polled

pub returns-clause-polled : goal.returns-clause-polled
returns-clause-polled g c = polled_seen c.self.inside.machine c.advance_by.new.machine c.self.inside.full c.args.self.now _ _ c.self.view_is c.advance_by.ensures.polled

pub returns-then-self-clause-polled : goal.returns-then-self-clause-polled
returns-then-self-clause-polled g c = polled_none c.args.self.now.machine (g.P.Ports.told c.args.ports.now).polls
