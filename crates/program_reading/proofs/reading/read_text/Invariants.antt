use Rattle.std.proofs.Common.{◌≡◌, ◌+◌, ◌-◌, ◌≤◌, length, IsTrue, vec_len}
use Rattle.std.specs.Io.KnownBytes.{Consumes}
use Rattle.ac_outside.specs.Told.{CountsOne, CountsAtMost, AddsName}
use Rattle.program_reading.proofs.reading.read_text.Given as goal

abbrev pub invariant-reading : goal.invariant-reading
invariant-reading g l = record {
  open_ : IsTrue (g.L.Library.told l.library).is_open;
  same : (g.L.Library.told l.library).text_at ≡ (g.L.Library.told l.fn.library).text_at;
  once : CountsOne (g.L.Library.told l.fn.library).opens (g.L.Library.told l.library).opens;
  named : AddsName (g.L.Library.told l.fn.library).names (g.L.Library.told l.library).names l.name;
  well : (g.L.Library.told l.library).faults ≡ (g.L.Library.told l.fn.library).faults;
  consumed : Consumes ((g.L.Library.told l.fn.library).text_at l.name) (g.L.Library.told l.library).left l.text.items;
  few : CountsAtMost (g.L.Library.told l.fn.library).reads (g.L.Library.told l.library).reads (length l.text.items);
  within : vec_len l.text ≤ l.limit + 1;
}

abbrev pub decreases-reading : goal.decreases-reading
decreases-reading g l = (l.limit + 1) - vec_len l.text
