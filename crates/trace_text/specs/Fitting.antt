-- The numbers of a trace fit their types: what its values in memory say by themselves, and a text of it tells.
use Rattle.std.specs.Prelude.{◌<◌, ◌^◌, All}
use Rattle.ac_base.specs.declared.entry.Stamped.{Stamped}
use Rattle.trace_text.specs.declared.trace.Trace.{Trace}
use Rattle.trace_text.specs.Spelling.{AreBytes, IsEvent, IsEnd}

-- but for the stamp, an entry is within the limits of its line
pub record EntryFits (s : Stamped) : Type 0 where
  pub party : s.party < 2 ^ 32
  pub turn : s.entry.turn < 2 ^ 64
  pub event : IsEvent s.entry.event

pub record NumbersFit (t : Trace) : Type 0 where
  pub files : All AreBytes t.start
  pub entries : All EntryFits t.entries
  pub ends : All IsEnd t.ends
