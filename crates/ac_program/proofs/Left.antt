-- What want of memory leaves of the disk, and what a status tells of its count of faults. A file that is too long was bound and not read,
-- as one may be that stops for want of memory.
use Rattle.std.proofs.Common.{◌≡◌, ◌≢◌, ℕ, List, Option, None, Some, ap, ◌∙◌, inr, arith}
use Rattle.std.specs.Prelude.{IfSome}
use Rattle.ac_outside.specs.Causes.{Rose}
use Rattle.ac_outside.specs.Disks.{DiskTold, Held}
use Rattle.starting_files.specs.declared.fault.StartFault.TheVariants as f
use Rattle.starting_files.specs.Starting.{AreStopped, StopsAtFile}
use Rattle.ac_tree.specs.declared.item.Program.{Program}
use Rattle.ac_program.specs.declared.execute.Done.{Done}
use Rattle.ac_words.specs.declared.task.Task.{Task}
use Rattle.ac_words.specs.declared.task.Task.TheVariants as t
use Rattle.ac_program.specs.Making.{AreLeft, Makes, stopped}
use Rattle.program_reading.specs.Reading.{Gave}
use Rattle.program_run.specs.declared.ended.Ended.{Ended}
use Rattle.ac_program.specs.Headline.{IsLeft, TellsDisk, alone, of_program}

given_as : (told : Option (List ℕ)) (source text : List ℕ) → Gave told source → text ≡ source → Gave told text
given_as None source text g e = tt
given_as (Some known) source text g e = e ∙ g

-- what is left of a source that the library gave
pub left_as : (told : Option (List ℕ)) (source : List ℕ) (task : Task) (disk later : DiskTold) → Gave told source → IsLeft (Some source) task disk later
    → IsLeft told task disk later
left_as told source task disk later g (alone e) = alone e
left_as told source task disk later g (of_program text program h k left) = of_program text program (given_as told source text g h) k left

-- a file that is too long is bound, and none of its reads was made
long_held : (held after : Option Held) (paths : List (List ℕ)) (number file : ℕ) → IfSome held (λ h. StopsAtFile h after paths number (f.TooLong file))
    → IfSome held (λ h. StopsAtFile h after paths number f.NoMemory)
long_held None after paths number file told = tt
long_held (Some h) after paths number file told = record {
  path = told.path;
  here = told.here;
  short = told.short;
  stops = inr (record { reads = 0; some = omega arith; most = omega arith; left = told.stops.2 });
}

pub long_left : (paths : List (List ℕ)) (file : ℕ) (disk later : DiskTold) → AreStopped paths (f.TooLong file) disk later → AreLeft paths disk later
long_left paths file disk later h = stopped (record {
  number = h.number;
  within = h.within;
  is_number = tt;
  asked = h.asked;
  cause = h.cause;
  latest = tt;
  told = long_held disk.held later.held paths h.number file h.told;
})

-- ---- the count of its faults

abbrev faults_of : DiskTold → ℕ
faults_of disk = disk.faults

some_is_none : {A : Type 0} (run : Option A) (it : A) → run ≡ Some it → run ≡ None → ⊥
some_is_none run it e n = cc (e, n)

-- where there is no run, the disk was left alone
pub made_faults : (task : Task) (program : Program) (disk later : DiskTold) (done : Done) → Makes task program disk later done → done.run ≡ None → later.faults ≡ disk.faults
made_faults (t.Run steps telling) program disk later done d none = absurd (some_is_none done.run d.ended d.kept none)
made_faults t.Check program disk later done d none = ap faults_of d.alone
made_faults t.Code program disk later done d none = ap faults_of d.alone

-- what a status tells of a disk of which no call failed but in a run, and of one of which a call did
pub tells_well : (disk later : DiskTold) (status : ℕ) (run : Option Ended) → status ≢ 9 → (status ≢ 11 → run ≡ None → later.faults ≡ disk.faults) → TellsDisk disk later status run
tells_well disk later status run never same = record { told = λ e. absurd (never e); only = λ _ _ kept none. same kept none }

pub tells_fault : (disk later : DiskTold) (status : ℕ) (run : Option Ended) → (status ≢ 8 → status ≡ 9) → Rose disk.faults later.faults → TellsDisk disk later status run
tells_fault disk later status run is rose = record { told = λ _. rose; only = λ n m _ _. absurd (n (is m)) }
