-- The versions of the text of a trace. Version 1 spells messages of one int. Version 2 spells messages of 1 to 16 ints, and is taken only
-- where version 1 does not do.
use Rattle.std.specs.Prelude.{◌≡◌, ℤ, List, length, Bool, false, not, ◌==◌, if◌then◌else◌}
use Rattle.std.specs.List.{list_any}
use Rattle.ac_base.specs.declared.entry.Payload.{Payload}
use Rattle.ac_base.specs.declared.entry.Payload.TheVariants as p
use Rattle.ac_base.specs.declared.entry.Event.{Event}
use Rattle.ac_base.specs.declared.entry.Event.TheVariants as e
use Rattle.ac_base.specs.declared.entry.Stamped.{Stamped}
use Rattle.trace_text.specs.declared.version.Version.{Version}
use Rattle.trace_text.specs.declared.version.Version.TheVariants.{First, Second}
use Rattle.trace_text.specs.declared.trace.Trace.{Trace}

-- the message has not exactly one int
abbrev pub is_wide_message : List ℤ → Bool
is_wide_message message = not (length message == 1)

abbrev pub is_wide_payload : Payload → Bool
is_wide_payload (p.Int message) = is_wide_message message
is_wide_payload _ = false

abbrev pub is_wide_event : Event → Bool
is_wide_event (e.Offer link number payload) = is_wide_payload payload
is_wide_event (e.Got link number message) = is_wide_message message
is_wide_event _ = false

abbrev pub is_wide_entry : Stamped → Bool
is_wide_entry s = is_wide_event s.entry.event

-- some message of the trace has not exactly one int
abbrev pub is_wide : Trace → Bool
is_wide t = list_any is_wide_entry t.entries

-- the version in which a trace is spelled
abbrev pub version_of : Trace → Version
version_of t = if is_wide t then Second else First

-- the version has a spelling for each message of the trace
abbrev pub CanSpell : Version → Trace → Type 0
CanSpell First t = is_wide t ≡ false
CanSpell Second t = Unit {0}
