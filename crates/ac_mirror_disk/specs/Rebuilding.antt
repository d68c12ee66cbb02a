-- What a rebuilding of one side of a mirror from the other comes to.
use Rattle.std.specs.Prelude.{◌≡◌, ◌⊎◌, ℕ, Bool, true, false, ◌<◌, ◌≤◌, ◌&&◌, List, length, map, take, drop, slice_index, IsTrue}
use Rattle.ac_outside.specs.declared.shelf.NamedBytes.{NamedBytes}
use Rattle.ac_outside.specs.Causes.{Rose}
use Rattle.ac_outside.specs.Disks.{DiskTold, Held}
use Rattle.ac_outside.specs.Files.{file_at}
use Rattle.ac_mirror_disk.specs.declared.side.Side.{Side}
use Rattle.ac_mirror_disk.specs.declared.rebuilding.Rebuilt.{Rebuilt}
use Rattle.ac_mirror_disk.specs.declared.rebuilding.Rebuilt.TheVariants.{Both, Fault, Longer, NoMemory}
use Rattle.ac_mirror_disk.specs.Pairs.{IfBoth, HaveSameFiles, most_bytes}
use Rattle.ac_mirror_disk.specs.Mirrors.{Mirrored}

-- the first of so many files that is longer by the other lengths
pub record IsFirstLonger (lens others : List ℕ) (count file : ℕ) : Type 0 where
  pub within : file < count
  pub longer : slice_index lens file < slice_index others file
  pub first : (k : ℕ) → k < file → slice_index others k ≤ slice_index lens k

-- none of so many files is
abbrev pub IsNoneLonger : List ℕ → List ℕ → ℕ → Type 0
IsNoneLonger lens others count = (k : ℕ) → k < count → slice_index others k ≤ slice_index lens k

-- The files that were bound are as they were, and behind them stand others as they were found under their paths.
pub record AddsFound (x y : Held) : Type 0 where
  pub before : take (length x.files) y.files ≡ x.files
  pub behind : drop (length x.files) y.files ≡ map (λ (f : NamedBytes). file_at x.found f.name) (drop (length x.files) y.files)

-- Files were bound on a side, and nothing was written there.
pub record OnlyBinds {D : Type 0} (told : D → DiskTold) (before after : Side D) : Type 0 where
  pub more : (told before.disk).bound ≤ (told after.disk).bound
  pub lens : (k : ℕ) → k < (told before.disk).bound → slice_index after.lens k ≡ slice_index before.lens k
  pub files : IfBoth (told before.disk).held (told after.disk).held AddsFound

module _ {S T : Type 0} (told_s : S → DiskTold) (told_t : T → DiskTold) where
  -- The side `t` was to be made what `s` is. `between` is `t` once each file was bound on it, where that succeeded.
  pub data Rebuilds (s s' : Side S) (t t' : Side T) (count : ℕ) (result : Rebuilt) : Type 0 where
    -- a bind was refused memory, and so the side may be called no more
    refused : result ≡ NoMemory → s' ≡ s → t'.in_use ≡ false → (told_t t'.disk).is_ready ≡ false → Rebuilds s s' t t' count result
    -- a bind failed
    unbound : result ≡ Fault → s' ≡ s → t'.in_use ≡ false → OnlyBinds told_t t t' → Rose (told_t t.disk).faults (told_t t'.disk).faults
        → Rebuilds s s' t t' count result
    -- a file is longer on the side that was not in use, and nothing was copied
    longer : (file : ℕ) → result ≡ Longer file → IsFirstLonger s.lens t'.lens count file → s' ≡ s → t'.in_use ≡ false
        → OnlyBinds told_t t t' → (told_t t'.disk).bound ≡ count → (told_t t.disk).faults ≤ (told_t t'.disk).faults
        → Rebuilds s s' t t' count result
    -- a read or a write failed
    torn : (between : Side T) → result ≡ Fault → OnlyBinds told_t t between → (told_t between.disk).bound ≡ count
        → IsNoneLonger s.lens between.lens count → t'.in_use ≡ false → s'.in_use ≡ true
        → Rose (told_s s.disk).faults (told_s s'.disk).faults ⊎ Rose (told_t t.disk).faults (told_t t'.disk).faults
        → Rebuilds s s' t t' count result
    -- each file was copied
    copied : (between : Side T) → result ≡ Both → OnlyBinds told_t t between → (told_t between.disk).bound ≡ count
        → IsNoneLonger s.lens between.lens count → t'.in_use ≡ true → s'.in_use ≡ true
        → IfBoth (told_s s'.disk).held (told_t t'.disk).held HaveSameFiles → Rebuilds s s' t t' count result

-- whether both sides still tell the same
abbrev pub alike_after : Rebuilt → Bool → Bool → Bool
alike_after Both alike even = alike && even
alike_after Fault alike even = alike
alike_after (Longer file) alike even = alike
alike_after NoMemory alike even = alike

-- whether a mirror may be called
abbrev pub ready_after : Rebuilt → Bool
ready_after NoMemory = false
ready_after Both = true
ready_after Fault = true
ready_after (Longer file) = true

-- each of so many files is short enough to be read
abbrev pub AreShort : List ℕ → ℕ → Type 0
AreShort lens count = (k : ℕ) → k < count → slice_index lens k ≤ most_bytes

-- A rebuilding may be asked for: memory was not refused, and where one side is not in use, each bound file of the other is short enough
-- to be read.
pub record MayRebuild {A B : Type 0} (m : Mirrored A B) : Type 0 where
  pub ready : IsTrue m.is_ready
  pub short_a : m.b.in_use ≡ false → AreShort m.a.lens (length m.paths)
  pub short_b : m.a.in_use ≡ false → AreShort m.b.lens (length m.paths)
