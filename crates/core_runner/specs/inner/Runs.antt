-- What parties are that have run.
use Rattle.std.specs.Prelude.{◌≡◌, ℕ, List, [], ◌∷◌, ◌++◌, map}
use Rattle.std.specs.List.{AllByRecursion}
use Rattle.ac_outside.specs.Disks.{DiskTold}
use Rattle.file_worker.specs.declared.worker.Worker.{Worker}
use Rattle.file_worker.specs.Agreement.{WorkerAgrees}
use Rattle.file_worker.specs.Workers.{desk_of, told_of}
use Rattle.program_run.specs.declared.ended.Ended.{Ended}
use Rattle.run_laws.specs.Laws.{IsRunOfCores}
use Rattle.run_parties.specs.declared.run_party.RunParty.{RunParty}
use Rattle.run_parties.specs.declared.run_party.RunParty.TheVariants.{Disk}
use Rattle.run_parties.specs.Seats.{core_of}
use Rattle.run_parties.specs.Parties.{IsLaterParty, AreSettledAt, PartyStops}
use Rattle.run_parties.specs.Seated.{HasItsPorts}
use Rattle.settled_rounds.specs.declared.party.Way.{Way}
use Rattle.settled_rounds.specs.Linked.{OnLinks, Pointwise}
use Rattle.core_runner.specs.inner.Parties.{seats_in}

-- these parties are later cores and a later worker, whose ends are settled, and can go no further; their journals, and how the cores have
-- ended, are those of this run, and the worker's disk tells this
pub record HaveRun {D : Type 0} (told : D → DiskTold) (ways : List Way) (bound : ℕ) (files : List (List ℕ)) (before : List (RunParty D))
    (left : DiskTold) (ended : Ended) : Type 0 where
  pub cores : List (RunParty D)
  pub worker : Worker D
  pub later : Pointwise (IsLaterParty told) before (cores ++ Disk worker ∷ [])
  pub settled : OnLinks AreSettledAt ways (cores ++ Disk worker ∷ [])
  pub stopped : AllByRecursion PartyStops (cores ++ Disk worker ∷ [])
  pub ports : AllByRecursion HasItsPorts (seats_in cores)
  pub agrees : WorkerAgrees (desk_of worker)
  pub tells : told_of told worker ≡ left
  pub made : IsRunOfCores bound files (map core_of (seats_in cores)) (desk_of worker).entries ended
