use Rattle.channel_ends.specs.Pairs.{IsSameSend}
use Rattle.channel_ends.specs.Sending.{AreWithin}
use Rattle.unit_tests.proofs.two_ends.offer_all.Given as goal

abbrev pub invariant-loop-call : goal.invariant-loop-call
invariant-loop-call l = record {
  within : AreWithin l.clock l.send.notes.offers;
  same : IsSameSend l.initial.send l.send;
}
