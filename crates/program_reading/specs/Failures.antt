-- Which statuses stand for a failure: `before` and `after` are what the library tells before and after a call, `sink` and `written` what
-- the sink does.
use Rattle.std.specs.Prelude.{◌≡◌, ◌≢◌, ℕ}
use Rattle.ac_outside.specs.Causes.{Rose}
use Rattle.ac_outside.specs.Told.{LibraryTold, SinkTold}

-- 7 where a call of the library failed, unless one of the sink did too, and at no other time
pub record TellsLibrary (before after : LibraryTold) (status : ℕ) : Type 0 where
  pub told : status ≡ 7 → Rose before.faults after.faults
  pub only : status ≢ 7 → status ≢ 8 → after.faults ≡ before.faults

-- 8 exactly where a call of the sink failed
pub record TellsSink (sink written : SinkTold) (status : ℕ) : Type 0 where
  pub told : status ≡ 8 → Rose sink.faults written.faults
  pub only : status ≢ 8 → written.faults ≡ sink.faults
