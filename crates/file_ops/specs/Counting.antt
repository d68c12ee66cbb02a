-- How often the disk was called, and failed, by what was done.
use Rattle.std.specs.Prelude.{◌≡◌, ◌≤◌, ℕ, zero, suc, List, length, Bool, ◌&&◌, IfSome}
use Rattle.std.specs.List.{filter}
use Rattle.ac_history.specs.Files.{Deed}
use Rattle.ac_outside.specs.Disks.{DiskTold}
use Rattle.ac_outside.specs.Told.{one_more}
use Rattle.file_ops.specs.Asked.{is_of_bound, is_fault}

-- a count that rose n times, up to its last value
abbrev pub raised : ℕ → ℕ → ℕ
raised count zero = count
raised count (suc n) = one_more (raised count n)

-- it was done by a call of the disk
abbrev pub is_call : ℕ → Deed → Bool
is_call bound d = is_of_bound bound d.payload

-- by one that failed
abbrev pub is_failure : ℕ → Deed → Bool
is_failure bound d = is_of_bound bound d.payload && is_fault d.answer

abbrev pub calls_among : ℕ → List Deed → ℕ
calls_among bound ds = length (filter (is_call bound) ds)

abbrev pub failures_among : ℕ → List Deed → ℕ
failures_among bound ds = length (filter (is_failure bound) ds)

-- each of these deeds whose file is bound was one call, and the disk was called no more; it failed in no fewer calls than are answered by
-- FAULT, and in none where none is
pub record AreCounted (before after : DiskTold) (ds : List Deed) : Type 0 where
  pub calls : IfSome before.held (λ h. IfSome after.held (λ g. g.calls ≡ raised h.calls (calls_among before.bound ds)))
  pub failures : raised before.faults (failures_among before.bound ds) ≤ after.faults
  pub none : failures_among before.bound ds ≡ 0 → after.faults ≡ before.faults
