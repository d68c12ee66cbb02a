-- A trace that a text spells has no more entries than the text has bytes, as each has a line: by induction on the lines.
use Rattle.std.proofs.Common.{◌≡◌, ℕ, ◌<◌, ◌≤◌, ◌^◌, List, [], ◌∷◌, ◌++◌, length, refl, ap, length-append, arith}
use Rattle.std.specs.Prelude.{suc}
use Rattle.ac_base.specs.declared.entry.Stamped.{Stamped}
use Rattle.trace_text.specs.declared.trace.Trace.{Trace}
use Rattle.trace_text.specs.declared.version.Version.{Version}
use Rattle.trace_text.specs.Outcomes.{trace_limit}
use Rattle.trace_text.specs.Spelling.{IsTheTrace}
use Rattle.trace_text.specs.Text.{entry_lines, end_lines, file_lines, joined, trace_lines}
use Rattle.trace_text.specs.Versions.{version_of}

a_line_each : (version : Version) (ss : List Stamped) → length (entry_lines version ss) ≡ length ss
a_line_each version [] = refl
a_line_each version (s ∷ ss) = ap suc (a_line_each version ss)

a_byte_each : (ls : List (List ℕ)) → length ls ≤ length (joined ls)
a_byte_each [] = omega arith
a_byte_each (l ∷ ls) = omega (arith, a_byte_each ls, length-append l (10 ∷ joined ls))

pub few_entries : (traced : List ℕ) (run : Trace) → IsTheTrace traced run → length traced ≤ trace_limit → length run.entries < 2 ^ 32
few_entries traced run is short =
    let version = version_of run in
    let entries = entry_lines version run.entries in
    let ends = end_lines 0 run.ends in
    let files = file_lines 0 run.start in
    omega (
      arith,
      short,
      ap length is.spells.is_text,
      a_byte_each (trace_lines version run),
      length-append files (entries ++ ends),
      length-append entries ends,
      a_line_each version run.entries,
    )
