-- What a call of a disk makes of what the disk tells.
use Rattle.std.specs.Prelude.{◌≡◌, ℕ, ◌≤◌, List, length, take, None, Some, IfSome, IfOk, IfErr, ⊤}
use Rattle.std.specs.declared.result.Result.{Result}
use Rattle.ac_outside.specs.declared.failed.BindFault.{BindFault}
use Rattle.ac_outside.specs.declared.failed.Failed.{Failed}
use Rattle.ac_outside.specs.declared.failed.Torn.{Torn}
use Rattle.ac_outside.specs.Causes.{HasCause, BindHasCause}
use Rattle.ac_outside.specs.Disks.{DiskTold, BindLeaves, BindsNone, bound_by, called, stays_ready, with_written}
use Rattle.ac_outside.specs.Files.{bytes_in, file_of, part}

-- a bind of this path, by its answer
pub record HasBound (before after : DiskTold) (path : List ℕ) (result : Result ℕ BindFault) : Type 0 where
  pub bound : after.bound ≡ bound_by before.bound result
  pub ready : after.is_ready ≡ stays_ready result
  pub leaves : IfSome before.held (λ held. BindLeaves held after.held path result)
  pub silent : before.held ≡ None → after.held ≡ None
  pub cause : BindHasCause before.faults after.faults result

-- a read of so many bytes of a bound file from a place on, by its answer; `into` is what the slice holds then
pub record HasRead (before after : DiskTold) (file from len : ℕ) (into : List ℕ) (result : Result ℕ Failed) : Type 0 where
  pub none : BindsNone before after
  pub same : IfSome before.held (λ held. after.held ≡ Some (called held))
  pub silent : before.held ≡ None → after.held ≡ None
  pub bytes : IfSome before.held (λ held. IfOk result (λ count. take count into ≡ part (file_of held.files file).bytes from len))
  pub cause : HasCause before.faults after.faults result

-- a write of these bytes at a place of a bound file, by its answer
pub record HasWritten (before after : DiskTold) (file from : ℕ) (bytes : List ℕ) (result : Result ⊤ Torn) : Type 0 where
  pub none : BindsNone before after
  pub most : IfErr result (λ torn. torn.taken ≤ length bytes)
  pub left : IfSome before.held (λ held. after.held ≡ Some (with_written held file from (bytes_in result bytes)))
  pub silent : before.held ≡ None → after.held ≡ None
  pub cause : HasCause before.faults after.faults result
