use Rattle.std.proofs.Common.{◌≡◌, ◌++◌, drop, map}
use Rattle.ac_translation.specs.Translation.{ends_of}
use Rattle.ac_compile.proofs.whole.ends_of.Given as goal

abbrev pub invariant-loop-channel : goal.invariant-loop-channel
invariant-loop-channel l = l.list ++ map ends_of (drop l.channel-index l.channels) ≡ map ends_of l.channels
