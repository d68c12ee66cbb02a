-- What holds of the causal order of all histories that are legal.
use Rattle.std.specs.Prelude.{◌≡◌, ℕ, suc, ◌<◌, List, length, slice_get, Some}
use Rattle.ac_base.specs.declared.entry.Stamped.{Stamped}
use Rattle.ac_commands.specs.declared.program.Resolved.{Resolved}
use Rattle.ac_translation.specs.Translation.{code_of}
use Rattle.ac_history.specs.History.{IsLegal, start}
use Rattle.trace_text.specs.declared.trace.Trace.{Trace}
use Rattle.trace_audit.specs.Laws.{IsSound}
use Rattle.trace_audit.specs.RunTrace.{IsRunTrace}
use Rattle.code_safety.specs.KeptEnds.{KeepsEnds}
use Rattle.ac_causal.specs.Before.{IsBefore}
use Rattle.ac_causal.specs.Cuts.{IsCut, IsClosed}
use Rattle.ac_causal.specs.States.{cut_history}

-- what is before an entry stands before it in the history
abbrev pub BeforeIsEarlier : Type 0
BeforeIsEarlier = (capacities widths : List ℕ) (cores : ℕ) (es : List Stamped) (i j : ℕ) → IsLegal (start capacities widths cores) es
    → IsBefore es i j → i < j

-- and has a lesser stamp
abbrev pub StampsRise : Type 0
StampsRise = (capacities widths : List ℕ) (cores : ℕ) (es : List Stamped) (i j : ℕ) (a b : Stamped)
    → IsLegal (start capacities widths cores) es
    → slice_get es i ≡ Some a → slice_get es j ≡ Some b → IsBefore es i j → a.entry.stamp < b.entry.stamp

-- what an audit says yes to is a legal history, with the links and the cores of the program's code
abbrev pub RunsAreLegal : Type 0
RunsAreLegal = (program : Resolved) (t : Trace) → IsRunTrace program t
    → IsLegal (start (code_of program).capacities (code_of program).widths (length (code_of program).entries)) t.entries

-- of a run of a program whose cores use channels at their own ends alone, the entries of a closed cut, merged, are legal
abbrev pub ClosedCutsAreLegal : Type 0
ClosedCutsAreLegal = (program : Resolved) (t : Trace) (counts : List ℕ) → IsSound program → KeepsEnds (code_of program)
    → IsRunTrace program t → IsCut t.entries (suc (length program.cores)) counts → IsClosed t.entries counts
    → IsLegal (start (code_of program).capacities (code_of program).widths (length program.cores)) (cut_history t.entries counts)
