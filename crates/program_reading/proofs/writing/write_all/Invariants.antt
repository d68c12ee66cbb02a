use Rattle.std.proofs.Common.{length, ◌-◌, ◌≡◌, ◌≤◌, take}
use Rattle.ac_outside.specs.Told.{GrewBy}
use Rattle.program_reading.proofs.writing.write_all.Given as goal

abbrev pub invariant-writing : goal.invariant-writing
invariant-writing g l = record {
  within : l.at ≤ length l.text;
  taken : GrewBy (g.K.Sink.told l.initial.sink).held (g.K.Sink.told l.sink).held (take l.at l.text);
  well : (g.K.Sink.told l.sink).faults ≡ (g.K.Sink.told l.initial.sink).faults;
}

abbrev pub decreases-writing : goal.decreases-writing
decreases-writing g l = length l.text - l.at
