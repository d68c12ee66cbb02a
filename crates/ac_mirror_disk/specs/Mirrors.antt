-- What contracts see of a mirror, and what it tells.
use Rattle.std.specs.Prelude.{◌≡◌, ℕ, Bool, ◌&&◌, List}
use Rattle.std.specs.Prelude.{length, None, Some, IfSome, IsSome, IsTrue, if◌then◌else◌, refl}
use Rattle.std.specs.Option.{option_map}
use Rattle.std.specs.declared.option.Option.{Option}
use Rattle.ac_outside.specs.Causes.{Rose}
use Rattle.ac_outside.specs.Disks.{DiskTold, Held}
use Rattle.ac_mirror_disk.specs.declared.side.Side.{Side}
use Rattle.ac_mirror_disk.specs.Pairs.{IfBoth, HaveSameFiles}

-- A mirror: its two sides, the paths of its bound files in order, the paths that it was to bind, whether memory was given at every
-- bind, whether
-- both sides told the same files as it was made, whether no bind of a side has failed since both held the same, and how often it was called
-- and has failed.
pub record Mirrored (A B : Type 0) : Type 0 where
  pub a : Side A
  pub b : Side B
  pub paths : List (List ℕ)
  pub binds : List (List ℕ)
  pub is_ready : Bool
  pub is_alike : Bool
  pub is_even : Bool
  pub calls : ℕ
  pub faults : ℕ
  pub earlier : ℕ

-- what a disk holds, after this number of calls
abbrev pub counted : ℕ → Held → Held
counted calls held = record { files = held.files; found = held.found; calls = calls }

-- how many files are bound: as many as are told, and else as there are paths
abbrev pub bound_of : Option Held → List (List ℕ) → ℕ
bound_of None paths = length paths
bound_of (Some held) paths = length held.files

-- two disks tell what they hold, and under each path stands the same on both
pub record AreAlike (first second : Option Held) : Type 0 where
  pub one : IsSome first
  pub other : IsSome second
  pub found : IfBoth first second (λ x y. x.found ≡ y.found)

module _ {A B : Type 0} (told_a : A → DiskTold) (told_b : B → DiskTold) where
  -- what the first side holds that is in use
  abbrev pub standing_held : Mirrored A B → Option Held
  standing_held m = if m.a.in_use then (told_a m.a.disk).held else (told_b m.b.disk).held

  -- What a mirror holds: what the first side in use holds, where both sides told the same as the mirror was made and memory was never
  -- refused.
  abbrev pub mirror_contents : Mirrored A B → Option Held
  mirror_contents m = if m.is_ready && m.is_alike then option_map (counted m.calls) (standing_held m) else None

  abbrev pub told_by_mirror : Mirrored A B → DiskTold
  told_by_mirror m = record {
    held = mirror_contents m;
    bound = bound_of (mirror_contents m) m.paths;
    is_ready = m.is_ready;
    binds = (if m.is_ready then Some m.binds else None);
    faults = m.faults;
    earlier = m.earlier;
  }

  -- the count of each side that was in use has risen
  pub record EachRose (before after : Mirrored A B) : Type 0 where
    pub first : IsTrue before.a.in_use → Rose (told_a before.a.disk).faults (told_a after.a.disk).faults
    pub second : IsTrue before.b.in_use → Rose (told_b before.b.disk).faults (told_b after.b.disk).faults

  -- The bound files stay equal: where both sides are in use before and after a call, and both tell.
  abbrev pub StayEqual : Mirrored A B → Mirrored A B → Type 0
  StayEqual before after = IsTrue before.a.in_use → IsTrue before.b.in_use → IsTrue after.a.in_use → IsTrue after.b.in_use
      → IfBoth (told_a before.a.disk).held (told_b before.b.disk).held HaveSameFiles
      → IfBoth (told_a after.a.disk).held (told_b after.b.disk).held HaveSameFiles

-- a call leaves alone what is bound, and what is known of both sides
pub record StaysSo {A B : Type 0} (before after : Mirrored A B) : Type 0 where
  pub paths : after.paths ≡ before.paths
  pub binds : after.binds ≡ before.binds
  pub is_ready : after.is_ready ≡ before.is_ready
  pub is_alike : after.is_alike ≡ before.is_alike
  pub is_even : after.is_even ≡ before.is_even

-- a disk that tells its files has as many bound as it tells
pub bound-told : (held : Option Held) (paths : List (List ℕ)) → IfSome held (λ h. bound_of held paths ≡ length h.files)
bound-told None paths = tt
bound-told (Some h) paths = refl
