-- Parties that have run from their beginning have made a run of each program whose code theirs is, and have left the disk as its history says.
use Rattle.std.proofs.Common.{◌≡◌, ℕ, ◌*◌, ◌≤◌, List, [], ◌∷◌, ◌++◌, subst, length}
use Rattle.std.specs.Prelude.{IfSome}
use Rattle.ac_commands.specs.declared.program.Resolved.{Resolved}
use Rattle.ac_outside.specs.Disks.{DiskTold}
use Rattle.ac_translation.specs.Translation.{code_of}
use Rattle.ac_translation.specs.Same.{IsSame}
use Rattle.stack_code.specs.Parts.{Parts}
use Rattle.stack_code.specs.Valid.{IsValid}
use Rattle.file_ops.specs.Asked.{texts}
use Rattle.file_worker.specs.declared.worker.Worker.{Worker}
use Rattle.file_worker.specs.Workers.{told_of}
use Rattle.program_run.specs.declared.ended.Ended.{Ended}
use Rattle.program_run.specs.DiskLeft.{LeavesDisk}
use Rattle.program_run.specs.Run.{IsRunOf}
use Rattle.run_parties.specs.declared.run_party.RunParty.{RunParty}
use Rattle.run_parties.specs.declared.run_party.RunParty.TheVariants.{Disk}
use Rattle.settled_run.specs.Laws.{SettledEndsMakeARun, SettledEndsLeaveTheDisk}
use Rattle.settled_rounds.specs.declared.party.Way.{Way}
use Rattle.core_runner.specs.inner.Runs.{HaveRun}
use Rattle.core_runner.proofs.AfterRun.{views, cores_with, each_stops, core_low}
use Rattle.core_runner.proofs.NewParties.{HasBegun}
use Rattle.core_runner.proofs.Served.{popped, are_popped, has_served}
use Rattle.core_runner.proofs.Settled.{desk, worker, ports, terms, settled_ends, worker_holds}
use Rattle.core_runner.proofs.Telling.{tells_all, worker_rests}

module _ {D : Type 0} (told : D → DiskTold) (code : Parts) (valid : IsValid code) (bound : ℕ) (files : List (List ℕ)) (cores : List (RunParty D)) (ways : List Way)
    (w : Worker D) (b : HasBegun code bound cores ways w) (left : DiskTold) (ended : Ended) (ran : HaveRun told ways bound files (cores ++ Disk w ∷ []) left ended)
    (program : Resolved) (is_code : code ≡ code_of program) where
  pub is_a_run : SettledEndsMakeARun → length code.entries * bound ≤ 4000000 → IsSame code program → IsRunOf program bound files ended
  is_a_run law few is_same =
      let well = valid.lists.links in
      law program code bound files (views told code well bound files cores ways w b left ended ran) (ports told code well bound files cores ways w b left ended ran)
      (terms told code well bound files cores ways w b left ended ran) (worker told code well bound files cores ways w b left ended ran)
      (desk told code well bound files cores ways w b left ended ran).entries ended valid is_code is_same few
      (settled_ends told code well bound files cores ways w b left ended ran) (cores_with told code well bound files cores ways w b left ended ran)
      (worker_holds told code well bound files cores ways w b left ended ran)
      (λ k v at. tells_all told code well bound files cores ways w b left ended ran k (core_low told code well bound files cores ways w b left ended ran k v at))
      (each_stops told code well bound files cores ways w b left ended ran)
      (worker_rests told code well bound files cores ways w b left ended ran valid.lists.cores.some) ran.made

  pub disk_is_left : SettledEndsLeaveTheDisk → IfSome (told_of told w).held (λ h. (told_of told w).bound ≡ length h.files) → IfSome (told_of told w).held (λ h. texts h ≡ files)
      → LeavesDisk program files ended.journals (told_of told w) left
  disk_is_left law as_bound same =
      let well = valid.lists.links in
      subst (LeavesDisk program files ended.journals (told_of told w)) ran.tells
      (law program code bound files (views told code well bound files cores ways w b left ended ran) (ports told code well bound files cores ways w b left ended ran)
      (terms told code well bound files cores ways w b left ended ran) (worker told code well bound files cores ways w b left ended ran)
      (desk told code well bound files cores ways w b left ended ran).entries (popped told code well bound files cores ways w b left ended ran)
      (told_of told w) (told_of told ran.worker) ended valid is_code
      (settled_ends told code well bound files cores ways w b left ended ran) (cores_with told code well bound files cores ways w b left ended ran)
      (worker_holds told code well bound files cores ways w b left ended ran) (are_popped told code well bound files cores ways w b left ended ran)
      (has_served told code well bound files cores ways w b left ended ran as_bound same) ran.made)
