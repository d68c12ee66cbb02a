-- What holds of the cores of a code and of the worker on links that they share.
use Rattle.std.specs.Prelude.{◌≡◌, ℕ, suc, ◌^◌, ◌<◌, ◌≤◌, List, length, map, slice_get, Some, ◌*◌}
use Rattle.std.specs.List.{AllByRecursion}
use Rattle.ac_base.specs.declared.entry.Entry.{Entry}
use Rattle.stack_code.specs.Parts.{Parts}
use Rattle.stack_code.specs.Valid.{HasLinks, IsValid}
use Rattle.ac_commands.specs.declared.program.Resolved.{Resolved}
use Rattle.ac_translation.specs.Translation.{code_of}
use Rattle.ac_translation.specs.Same.{IsSame}
use Rattle.ac_history.specs.Merged.{merged, entries_of}
use Rattle.ac_history.specs.History.{IsLegal, start}
use Rattle.ac_history.specs.Files.{IsServed, contents, deeds, deeds_by}
use Rattle.ac_history.specs.Quiet.{after_all_of, IsQuiet}
use Rattle.ac_history.specs.Working.{WorkerDisk}
use Rattle.ac_links.specs.Order.{of_party}
use Rattle.core_channels.specs.LinkViews.{LinkViews}
use Rattle.file_ops.specs.Agreement.{worker_ends}
use Rattle.program_run.specs.Parties.{owner_of, peer_of}
use Rattle.run_laws.specs.Network.{terms_in, request_in}
use Rattle.program_run.specs.declared.ended.Ended.{Ended}
use Rattle.program_run.specs.Run.{IsRunOf}
use Rattle.run_laws.specs.Cores.{CoreView, IsAtRest, HasFullClock, IsDone, AreCoresOf, AreOfTheirWidth, journals_of, ends_of}
use Rattle.run_laws.specs.Workers.{WorkerAgreesWith, WorkerRests, WorkerHasNoStamp, WorkerIsDone}

-- the journals of cores and of a worker that agree with their links, merged by the stamps of their entries, are a legal history, where each
-- message that a core offers has the width of its channel
abbrev pub CoresAreLegal : Type 0
CoresAreLegal = (code : Parts) (bound : ℕ) (cores : List CoreView) (entries : List Entry) (links : List LinkViews) → HasLinks code →
    AreCoresOf code bound cores links → WorkerAgreesWith code entries links → AreOfTheirWidth code cores
    → IsLegal (start code.capacities code.widths (length code.entries)) (merged (journals_of cores entries))

-- and where no stamp of it is great, neither a core nor the worker has used all stamps
abbrev pub NoClockIsFull : Type 0
NoClockIsFull = (code : Parts) (bound : ℕ) (cores : List CoreView) (entries : List Entry) (links : List LinkViews) (most : ℕ)
    → HasLinks code → AreCoresOf code bound cores links → WorkerAgreesWith code entries links
    → AllByRecursion (λ e. e.entry.stamp ≤ most) (merged (journals_of cores entries)) → suc most < 2 ^ 60
    → ((k : ℕ) (c : CoreView) → slice_get cores k ≡ Some c → HasFullClock c links → ⊥) × (WorkerHasNoStamp entries links → ⊥)

-- where each core is at rest, and so is the worker, the history is quiet
abbrev pub CoresAreQuiet : Type 0
CoresAreQuiet = (code : Parts) (bound : ℕ) (cores : List CoreView) (entries : List Entry) (links : List LinkViews) → HasLinks code →
    AreCoresOf code bound cores links → WorkerAgreesWith code entries links
    → ((k : ℕ) (c : CoreView) → slice_get cores k ≡ Some c → IsAtRest c links) → WorkerRests code links
    → IsQuiet (owner_of code.ends) (peer_of code.ends (length code.entries))
    (after_all_of (start code.capacities code.widths (length code.entries)) (merged (journals_of cores entries))) (ends_of cores)

-- what was done in the history is what the worker's journal says, of the requests that stand on the links; and where a disk has served that
-- journal, it has served the history, and holds its contents
abbrev pub CoresAreServed : Type 0
CoresAreServed = (code : Parts) (bound : ℕ) (cores : List CoreView) (entries : List Entry) (links : List LinkViews) → HasLinks code →
    AreCoresOf code bound cores links → WorkerAgreesWith code entries links
    → (deeds (start code.capacities code.widths (length code.entries)) (merged (journals_of cores entries))
    ≡ deeds_by (request_in links) (of_party (length code.entries) entries))
    × ((files left : List (List ℕ))
    → WorkerDisk (terms_in links) (length code.entries) (worker_ends (length code.ends) (length code.entries) links) entries
    (request_in links) files left
    → IsServed files (deeds (start code.capacities code.widths (length code.entries)) (merged (journals_of cores entries)))
    × (left ≡ contents files (deeds (start code.capacities code.widths (length code.entries)) (merged (journals_of cores entries)))))

-- ---- the run of a program

-- a run of these cores from these files on: their journals and that of the worker, and what is seen of them
pub record IsRunOfCores (bound : ℕ) (files : List (List ℕ)) (cores : List CoreView) (entries : List Entry) (ended : Ended) : Type 0 where
  pub steps : ended.steps ≡ bound
  pub start : ended.start ≡ files
  pub journals : map entries_of ended.journals ≡ journals_of cores entries
  pub ends : ended.cores ≡ map (λ c. c.end) cores

-- where each core and the worker are done, and all together may take at most 4,000,000 steps, it is a run of any program whose code this is
abbrev pub CoresMakeARun : Type 0
CoresMakeARun = (program : Resolved) (code : Parts) (bound : ℕ) (files : List (List ℕ)) (cores : List CoreView) (entries : List Entry)
    (links : List LinkViews) (ended : Ended)
    → IsValid code → code ≡ code_of program → IsSame code program → length code.entries * bound ≤ 4000000
    → AreCoresOf code bound cores links → WorkerAgreesWith code entries links
    → ((k : ℕ) (c : CoreView) → slice_get cores k ≡ Some c → IsDone c links) → WorkerIsDone code entries links
    → IsRunOfCores bound files cores entries ended → IsRunOf program bound files ended
