use Rattle.std.proofs.Common.{◌≡◌, ◌≤◌, ◌<◌, ◌^◌, None, Some, IsSome, false, slice_get}
use Rattle.core_machine.specs.State.{flat_of, state_of, IsSound}
use Rattle.core_machine.specs.Tried.{tried_of}
use Rattle.core_machine.specs.inner.Left.{left_of}
use Rattle.core_machine.specs.inner.Changes.{KeepsCode, at_address}
use Rattle.core_machine.specs.inner.Led.{IsLed}
use Rattle.core_machine.specs.inner.Needs.{Finds}
use Rattle.core_machine.proofs.running.Running.stretch.Given as goal

abbrev pub invariant-steps : goal.invariant-steps
invariant-steps l = record {
  led : IsLed l.fn.self (at_address l.self l.address);
  keeps : KeepsCode l.fn.self l.self;
  sound : IsSound (at_address l.self l.address);
  running : l.self.ended ≡ None;
  runs : IsSome l.self.schedule.running;
  settled : l.self.threads.pending ≡ false;
  here : slice_get l.self.code.now.instrs l.address ≡ Some l.instr;
  inside : l.address < 2 ^ 32;
  finds : Finds l.self.code.now (flat_of (at_address l.self l.address)) l.instr;
  less : left_of l.fn._ranks (at_address l.self l.address) ≤ left_of l.fn._ranks l.fn.self;
  asks : IsSome (tried_of l.self.code.now (state_of (at_address l.self l.address))) → left_of l.fn._ranks (at_address l.self l.address) < left_of l.fn._ranks l.fn.self;
}

abbrev pub decreases-steps : goal.decreases-steps
decreases-steps l = left_of l.fn._ranks (at_address l.self l.address)
