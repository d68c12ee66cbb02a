use Rattle.std.proofs.Common.{◌≡◌, ℕ, ◌<◌, Some, true}
use Rattle.std.specs.Prelude.{slice_get}
use Rattle.ac_base.specs.declared.ends.CoreEnd.{CoreEnd}
use Rattle.trace_text.specs.declared.trace.TraceEnd.{TraceEnd}
use Rattle.trace_audit.specs.inner.Comparing.{is_told}
use Rattle.trace_audit.proofs.ends.are_told.Given as goal

abbrev pub invariant-loop-core : goal.invariant-loop-core
invariant-loop-core l = (k : ℕ) (t : TraceEnd) (end : CoreEnd) → k < l.core → slice_get l.told k ≡ Some t → slice_get l.ends k ≡ Some end → is_told t end ≡ true
