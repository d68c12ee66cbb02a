use Rattle.std.proofs.Common.{◌≡◌, ◌<◌}
use Rattle.core_driver.specs.Idle.{HasLooked}
use Rattle.core_driver.specs.Polled.{ArePolled}
use Rattle.core_driver.specs.inner.InStep.{Holds}
use Rattle.core_driver.specs.inner.Outside.{outside}
use Rattle.core_driver.specs.inner.Rounds.{left_with}
use Rattle.core_driver.proofs.rounds.advance_by.Given as goal

abbrev pub invariant-turns : goal.invariant-turns
invariant-turns g l = record {
  holds : Holds l.fn.machine (outside (g.P.Ports.told l.fn.ports) l.fn.clock) l.machine (outside (g.P.Ports.told l.ports) l.clock);
  polled : ArePolled l.fn.machine l.machine (g.P.Ports.told l.fn.ports).polls (g.P.Ports.told l.ports).polls;
  full : (g.P.Ports.told l.ports).full ≡ (g.P.Ports.told l.fn.ports).full;
  quiet : l.quiet < l.polls;
  looked : HasLooked l.quiet l.machine (g.P.Ports.told l.fn.ports).polls (g.P.Ports.told l.ports).polls (g.P.Ports.told l.fn.ports).tries (g.P.Ports.told l.ports).tries;
  stays : g.P.Ports.stays l.fn.ports l.ports;
}

abbrev pub decreases-turns : goal.decreases-turns
decreases-turns g l = left_with l._ranks l.polls l.machine l.clock l.quiet
