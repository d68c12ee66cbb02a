use Rattle.std.proofs.Common.{◌+◌, length}
use Rattle.trace_audit.proofs.Linking.{AreParties}
use Rattle.trace_audit.proofs.parties.parties_of.Given as goal

abbrev pub invariant-loop-ends : goal.invariant-loop-ends
invariant-loop-ends l = AreParties l.code l.parties l.ends-index

abbrev pub invariant-loop-core : goal.invariant-loop-core
invariant-loop-core l = AreParties l.code l.parties (length l.code.ends + l.core)
