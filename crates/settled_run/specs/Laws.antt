-- What holds of the cores of a code and of the worker, each with its own ends, once these are settled.
use Rattle.std.specs.Prelude.{◌≡◌, ◌*◌, ◌≤◌, ℕ, List, length, Some, slice_get}
use Rattle.ac_base.specs.declared.entry.Entry.{Entry}
use Rattle.ac_base.specs.declared.entry.Payload.{Payload}
use Rattle.ac_commands.specs.declared.program.Resolved.{Resolved}
use Rattle.stack_code.specs.Parts.{Parts}
use Rattle.stack_code.specs.Valid.{IsValid}
use Rattle.ac_translation.specs.Translation.{code_of}
use Rattle.ac_translation.specs.Same.{IsSame}
use Rattle.ac_links.specs.declared.payloads.Terms.{Terms}
use Rattle.ac_links.specs.Party.{LinkEnd}
use Rattle.ac_outside.specs.Disks.{DiskTold}
use Rattle.core_ports.specs.PortsTold.{PortsTold}
use Rattle.program_run.specs.declared.ended.Ended.{Ended}
use Rattle.program_run.specs.Run.{IsRunOf}
use Rattle.program_run.specs.DiskLeft.{LeavesDisk}
use Rattle.run_laws.specs.Cores.{CoreView}
use Rattle.run_laws.specs.Laws.{IsRunOfCores}
use Rattle.settled_run.specs.Ends.{other_ends}
use Rattle.settled_run.specs.Settled.{AreSettledEnds}
use Rattle.settled_run.specs.Telling.{TellsAll}
use Rattle.settled_run.specs.Parties.{AreCoresWith, CanGoNoFurther, WorkerHolds, WorkerCanGoNoFurther}
use Rattle.settled_run.specs.Disk.{ArePopped, HasServed}

-- Where the ends are settled, the ports tell all, and each core and the worker can go no further, and all cores together may take at most
-- 4,000,000 steps, they have made a run of any program whose code this is.
abbrev pub SettledEndsMakeARun : Type 0
SettledEndsMakeARun = (program : Resolved) (code : Parts) (bound : ℕ) (files : List (List ℕ)) (cores : List CoreView)
    (ports : ℕ → PortsTold) (terms : ℕ → Terms) (worker : ℕ → LinkEnd) (entries : List Entry) (ended : Ended)
    → IsValid code → code ≡ code_of program → IsSame code program → length code.entries * bound ≤ 4000000
    → AreSettledEnds code ports worker → AreCoresWith code bound cores ports → WorkerHolds code terms worker entries
    → ((k : ℕ) (c : CoreView) → slice_get cores k ≡ Some c → TellsAll (ports k) (other_ends code ports worker k))
    → ((k : ℕ) (c : CoreView) → slice_get cores k ≡ Some c → CanGoNoFurther c (ports k))
    → WorkerCanGoNoFurther code ports worker entries
    → IsRunOfCores bound files cores entries ended → IsRunOf program bound files ended

-- Where the ends are settled, the requests that were offered are those that the worker has taken, and a disk that has served its journal is
-- left as the history of the journals says.
abbrev pub SettledEndsLeaveTheDisk : Type 0
SettledEndsLeaveTheDisk = (program : Resolved) (code : Parts) (bound : ℕ) (files : List (List ℕ)) (cores : List CoreView)
    (ports : ℕ → PortsTold) (terms : ℕ → Terms) (worker : ℕ → LinkEnd) (entries : List Entry) (popped : ℕ → List Payload)
    (before after : DiskTold) (ended : Ended)
    → IsValid code → code ≡ code_of program
    → AreSettledEnds code ports worker → AreCoresWith code bound cores ports → WorkerHolds code terms worker entries
    → ArePopped code ports popped → HasServed terms (length code.entries) worker entries popped files before after
    → IsRunOfCores bound files cores entries ended → LeavesDisk program files ended.journals before after
