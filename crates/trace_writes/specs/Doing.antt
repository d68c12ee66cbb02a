-- What writes make of a disk on which they are done, one after the other.
use Rattle.std.specs.Prelude.{◌≡◌, ℕ, ◌+◌, ◌<◌, ◌≤◌, List, [], ◌∷◌, ◌++◌, length, take, IfSome, None, Some}
use Rattle.ac_outside.specs.Causes.{Rose}
use Rattle.ac_outside.specs.Disks.{Held, DiskTold, BindsNone, with_written}
use Rattle.trace_writes.specs.declared.write.FileWrite.{FileWrite}

-- a disk with so many bound files can do it
pub record CanDo (bound : ℕ) (w : FileWrite) : Type 0 where
  pub named : w.file < bound
  pub within : w.from + length w.bytes ≤ 1048576

-- what a disk holds after these writes, each of them by one call
abbrev pub with_writes : Held → List FileWrite → Held
with_writes held [] = held
with_writes held (w ∷ ws) = with_writes (with_written held w.file w.from w.bytes) ws

-- all were done, no call failed, and nothing else was
pub record DidAll (ws : List FileWrite) (before after : DiskTold) : Type 0 where
  pub none : BindsNone before after
  pub well : after.faults ≡ before.faults
  pub told : IfSome before.held (λ held. after.held ≡ Some (with_writes held ws))
  pub silent : before.held ≡ None → after.held ≡ None

-- these were done, and then the call of the next failed, the first to do so, and the last call: so many of the first bytes went in
pub record FailedAt (done : List FileWrite) (torn : FileWrite) (before after : DiskTold) : Type 0 where
  pub taken : ℕ
  pub part : taken ≤ length torn.bytes
  pub none : BindsNone before after
  pub later : before.faults ≤ after.faults
  pub failed : Rose before.faults after.faults
  pub latest : after.earlier ≡ before.faults
  pub told : IfSome before.held (λ held.
      after.held ≡ Some (with_written (with_writes held done) torn.file torn.from (take taken torn.bytes)))
  pub silent : before.held ≡ None → after.held ≡ None

-- one of them failed, and those before it were done
pub record DidSome (ws : List FileWrite) (before after : DiskTold) : Type 0 where
  pub done : List FileWrite
  pub torn : FileWrite
  pub others : List FileWrite
  pub form : ws ≡ done ++ torn ∷ others
  pub failed_at : FailedAt done torn before after
