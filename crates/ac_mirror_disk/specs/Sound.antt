-- What holds of a mirror at any time.
use Rattle.std.specs.Prelude.{◌≡◌, ◌≢◌, ℕ, false, ◌<◌, ◌≤◌, ◌||◌}
use Rattle.std.specs.Prelude.{List, length, map, take, slice_index, AllPairs, IfSome, IsSome, IsTrue}
use Rattle.ac_outside.specs.Disks.{DiskTold, Held}
use Rattle.ac_outside.specs.Files.{file_of, told_length}
use Rattle.ac_mirror_disk.specs.declared.side.Side.{Side}
use Rattle.ac_mirror_disk.specs.Pairs.{IfBoth, HaveSameFiles}
use Rattle.ac_mirror_disk.specs.Mirrors.{Mirrored}
use Rattle.ac_mirror_disk.specs.Rebuilding.{AreShort}

-- each length is that of its file
abbrev pub AreLengths : List ℕ → Held → Type 0
AreLengths lens held = (k : ℕ) → k < length held.files → slice_index lens k ≡ told_length (file_of held.files k).bytes

-- the bound files have the first of these paths
abbrev pub HasPaths : List (List ℕ) → Held → Type 0
HasPaths paths held = map (λ file. file.name) held.files ≡ take (length held.files) paths

-- a side may be called, and has bound the first of these paths, all of them where it is in use
pub record IsKept {D : Type 0} (told : D → DiskTold) (s : Side D) (paths : List (List ℕ)) : Type 0 where
  pub room : length s.lens ≡ 16
  pub ready : IsTrue (told s.disk).is_ready
  pub within : (told s.disk).bound ≤ length paths
  pub whole : IsTrue s.in_use → (told s.disk).bound ≡ length paths
  pub named : IfSome (told s.disk).held (HasPaths paths)
  pub lengths : IfSome (told s.disk).held (AreLengths s.lens)

-- it has failed where it is not in use, or where the mirror has failed
pub record IsBlamed {D : Type 0} (told : D → DiskTold) (s : Side D) (faults : ℕ) : Type 0 where
  pub dropped : s.in_use ≡ false → 0 < (told s.disk).faults
  pub blamed : 0 < faults → 0 < (told s.disk).faults

-- where each bound file is short enough to be read, each was before
abbrev pub WereShort : {D : Type 0} → (D → DiskTold) → Side D → Side D → Type 0
WereShort told s s' = AreShort s'.lens (told s'.disk).bound → AreShort s.lens (told s.disk).bound

module _ {A B : Type 0} (told_a : A → DiskTold) (told_b : B → DiskTold) where
  -- both sides tell what they hold, the same but for what was bound and written while one was not in use
  pub record IsAlike (m : Mirrored A B) : Type 0 where
    pub one : IsSome (told_a m.a.disk).held
    pub other : IsSome (told_b m.b.disk).held
    pub found : IsTrue m.is_even → IfBoth (told_a m.a.disk).held (told_b m.b.disk).held (λ x y. x.found ≡ y.found)
    pub even : IsTrue m.a.in_use → IsTrue m.b.in_use → IsTrue m.is_even

  -- While no memory was refused: one side is in use at least. The first has failed where it is not in use, or where the mirror has
  -- failed; and so has the second, where both told the same and each file could be compared.
  pub record IsReady (m : Mirrored A B) : Type 0 where
    pub some : IsTrue (m.a.in_use || m.b.in_use)
    pub differ : AllPairs (λ path other. path ≢ other) m.paths
    pub on_a : IsKept told_a m.a m.paths
    pub on_b : IsKept told_b m.b m.paths
    pub equal : IsTrue m.a.in_use → IsTrue m.b.in_use → IfBoth (told_a m.a.disk).held (told_b m.b.disk).held HaveSameFiles
    pub alike : IsTrue m.is_alike → IsAlike m
    pub first : IsBlamed told_a m.a m.faults
    pub second : IsTrue m.is_alike → AreShort m.a.lens (told_a m.a.disk).bound → IsBlamed told_b m.b m.faults

  pub record IsSound (m : Mirrored A B) : Type 0 where
    pub few : length m.paths ≤ 16
    pub ready : IsTrue m.is_ready → IsReady m
