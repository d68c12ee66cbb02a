-- A run whose trace is run again.
use Rattle.std.specs.Prelude.{◌≡◌, ℕ, List}
use Rattle.ac_base.specs.declared.ends.MachineEnd.{MachineEnd}
use Rattle.ac_commands.specs.declared.program.Resolved.{Resolved}
use Rattle.program_run.specs.declared.ended.Ended.{Ended}
use Rattle.program_run.specs.DiskLeft.{deeds_of}
use Rattle.program_run.specs.Run.{IsRunOf}
use Rattle.trace_audit.specs.Laws.{IsSound, trace_of}
use Rattle.ac_replay.specs.Replaying.{AreReplayed, deeds_in}

-- the ends of a run are those of its trace, and no others are; and the requests that were done are those in its trace
pub record IsRepeated (program : Resolved) (ended : Ended) : Type 0 where
  pub ends : AreReplayed program (trace_of ended) ended.cores
  pub only : (others : List MachineEnd) → AreReplayed program (trace_of ended) others → others ≡ ended.cores
  pub deeds : deeds_in program (trace_of ended) ≡ deeds_of program ended.journals

abbrev pub RunsAreRepeated : Type 0
RunsAreRepeated = (program : Resolved) (bound : ℕ) (start : List (List ℕ)) (ended : Ended) → IsSound program →
    IsRunOf program bound start ended → IsRepeated program ended
