-- Code and source have the same runs.
use Rattle.std.specs.Prelude.{ℕ, List, Option, ◌↔◌}
use Rattle.ac_base.specs.declared.ends.CoreEnd.{CoreEnd}
use Rattle.ac_base.specs.declared.entry.Entry.{Entry}
use Rattle.ac_commands.specs.declared.program.Resolved.{Resolved}
use Rattle.ac_semantics.specs.Replay.{Replays}
use Rattle.stack_code.specs.Parts.{Parts}
use Rattle.code_meaning.specs.Machine.{Runs}

-- each core of the code comes to just the ends that it comes to in the source, with every bound on steps and under every journal
abbrev pub IsSame : Parts → Resolved → Type 0
IsSame code program =
    (core bound : ℕ) (journal : List Entry) (end : Option CoreEnd) →
    Replays program core bound journal end ↔ ((count : ℕ) × Runs code core bound journal (record { core = end; count = count }))
