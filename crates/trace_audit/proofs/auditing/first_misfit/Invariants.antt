use Rattle.std.proofs.Common.{[], take}
use Rattle.stack_code.specs.Parts.{Parts}
use Rattle.trace_text.specs.declared.trace.Trace.{Trace}
use Rattle.trace_audit.specs.inner.Coded.{AllFit}
use Rattle.trace_audit.specs.inner.Replaying.{HasTaken, TookAll}
use Rattle.trace_audit.proofs.auditing.first_misfit.Given as goal

abbrev pub invariant-loop-place : goal.invariant-loop-place
invariant-loop-place l = record {
  taken : (code : Parts) (t : Trace) → HasTaken code t [] l.initial.legal l.initial.replays.cores.items
      → HasTaken code t (take l.place l.entries) l.legal l.replays.cores.items × AllFit code t [] (take l.place l.entries);
  took_all : TookAll l.replays.cores.items;
}
