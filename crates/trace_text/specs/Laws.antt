-- Version 1 is what the text of a trace was when a message was one int.
use Rattle.std.specs.Prelude.{◌≡◌, ℕ, List, false}
use Rattle.trace_text.specs.declared.trace.Trace.{Trace}
use Rattle.trace_text.specs.Versions.{is_wide}
use Rattle.trace_text.specs.Text.{trace_text}
use Rattle.trace_text.specs.Spelling.{SpellsTrace, IsTheTrace}
use Rattle.trace_text.specs.FirstVersion.{first_text, FirstSpells}

-- a trace in which every message has one int has the text that it had
abbrev pub FirstTextStays : Type 0
FirstTextStays = (t : Trace) → is_wide t ≡ false → trace_text t ≡ first_text t

-- a text that spelled a trace spells the same one, and no other
abbrev pub FirstTracesStay : Type 0
FirstTracesStay = (text : List ℕ) (t : Trace) → FirstSpells text t → IsTheTrace text t

-- no further text spells such a trace
abbrev pub FirstTracesOnly : Type 0
FirstTracesOnly = (text : List ℕ) (t : Trace) → is_wide t ≡ false → SpellsTrace text t → FirstSpells text t
