-- What the worker holds of the links of a run and of its disk.
use Rattle.std.specs.Prelude.{◌≡◌, ◌≤◌, ℕ, ◌+◌, List, None, Bool, ◌&&◌, nat_le, nat_lt, if◌then◌else◌}
use Rattle.ac_links.specs.Party.{LinkEnd}
use Rattle.ac_links.specs.Party.LinkEnd.{Decides, Absent}
use Rattle.ac_history.specs.Files.{padded}
use Rattle.ac_outside.specs.Disks.{Held, DiskTold}
use Rattle.core_channels.specs.LinkViews.{LinkViews, link_at}
use Rattle.file_ops.specs.Asked.{texts}

-- ---- the ends that a worker holds

-- one link for each core, from `first` on
abbrev pub is_own : ℕ → ℕ → ℕ → Bool
is_own first cores l = nat_le first l && nat_lt l (first + cores)

abbrev pub worker_ends : ℕ → ℕ → List LinkViews → ℕ → LinkEnd
worker_ends first cores links l = if is_own first cores l then Decides (link_at links l).decisions else Absent

-- ---- the disk

-- all sixteen files, of which those that are not bound are empty
abbrev pub files_of : Held → List (List ℕ)
files_of held = padded (texts held)

-- the bound files are as many, no other was to be bound, the disk may still be called, and if it told nothing it still tells nothing
pub record DiskGoesOn (old new : DiskTold) : Type 0 where
  pub bound : new.bound ≡ old.bound
  pub is_ready : new.is_ready ≡ old.is_ready
  pub binds : new.binds ≡ old.binds
  pub silent : old.held ≡ None → new.held ≡ None
  pub later : old.faults ≤ new.faults
