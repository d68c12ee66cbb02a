-- When a call of an object outside may answer that it failed.
use Rattle.std.specs.Prelude.{◌≡◌, ℕ, ◌≤◌, OnOk, OnErr, Ok, Err}
use Rattle.std.specs.declared.result.Result.{Result}
use Rattle.ac_outside.specs.declared.failed.BindFault.{BindFault}
use Rattle.ac_outside.specs.declared.failed.BindFault.TheVariants.{Failed, NoMemory}
use Rattle.ac_outside.specs.Told.{one_more}

-- a count rose at least once; one at its last value stays there
abbrev pub Rose : ℕ → ℕ → Type 0
Rose before after = one_more before ≤ after

-- The count of faults rose where the call failed, and stayed where it did not.
pub record HasCause {T E : Type 0} (before after : ℕ) (result : Result T E) : Type 0 where
  pub later : before ≤ after
  pub failed : OnErr result (Rose before after)
  pub unchanged : OnOk result (after ≡ before)

-- The count of faults rose where a bind failed, and stayed where it did not, also where memory was refused.
abbrev pub BindHasCause : ℕ → ℕ → Result ℕ BindFault → Type 0
BindHasCause before after (Ok len) = after ≡ before
BindHasCause before after (Err Failed) = (before ≤ after) × Rose before after
BindHasCause before after (Err NoMemory) = after ≡ before
