use Rattle.channel_ends.specs.Sending.{AreWithin}
use Rattle.channel_ends.specs.Settled.{AreEnds}
use Rattle.unit_tests.proofs.ends.answered.Given as goal

abbrev pub invariant-loop-at : goal.invariant-loop-at
invariant-loop-at l = record {
  within : AreWithin l.mine l.send.notes.offers;
  ends : AreEnds l.send l.recv;
}
