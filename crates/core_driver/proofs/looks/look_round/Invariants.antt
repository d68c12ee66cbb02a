use Rattle.std.proofs.Common.{◌≡◌, ℕ, ◌<◌}
use Rattle.core_driver.specs.inner.InStep.{IsLookedAt, Looks}
use Rattle.core_driver.specs.inner.Outside.{outside}
use Rattle.core_driver.proofs.looks.look_round.Given as goal

abbrev pub invariant-loop-link : goal.invariant-loop-link
invariant-loop-link g l = record {
  looks : Looks l.fn.machine (outside (g.P.Ports.told l.fn.ports) l.fn.clock) l.machine (outside (g.P.Ports.told l.ports) l.clock);
  full : (g.P.Ports.told l.ports).full ≡ (g.P.Ports.told l.fn.ports).full;
  looked : (k : ℕ) → k < l.link → IsLookedAt (outside (g.P.Ports.told l.fn.ports) l.fn.clock) l.machine (outside (g.P.Ports.told l.ports) l.clock) k;
  stays : g.P.Ports.stays l.fn.ports l.ports;
}
