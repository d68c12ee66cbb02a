-- What a rebuilding leaves of both sides.
use Rattle.std.specs.Prelude.{◌≡◌, ◌≢◌, ℕ, Bool, true, false, ◌≤◌, List, length, IsSome}
use Rattle.ac_outside.specs.Disks.{DiskTold, Held}
use Rattle.ac_mirror_disk.specs.declared.side.Side.{Side}
use Rattle.ac_mirror_disk.specs.declared.rebuilding.Rebuilt.{Rebuilt}
use Rattle.ac_mirror_disk.specs.declared.rebuilding.Rebuilt.TheVariants.{Both, NoMemory}
use Rattle.ac_mirror_disk.specs.Pairs.{IfBoth}
use Rattle.ac_mirror_disk.specs.Rebuilding.{Rebuilds}
use Rattle.ac_mirror_disk.specs.Sound.{IsKept, WereShort}

-- under each path stands the same on both
abbrev pub HaveSameFound : Held → Held → Type 0
HaveSameFound x y = x.found ≡ y.found

module _ {S T : Type 0} (told_s : S → DiskTold) (told_t : T → DiskTold) where
  pub record Restores (s s' : Side S) (t t' : Side T) (paths : List (List ℕ)) (even even' : Bool) : Type 0 where
    pub kept_s : IsKept told_s s' paths
    pub kept_t : IsKept told_t t' paths
    pub in_use : s'.in_use ≡ s.in_use
    pub later_s : (told_s s.disk).faults ≤ (told_s s'.disk).faults
    pub later_t : (told_t t.disk).faults ≤ (told_t t'.disk).faults
    pub short_s : WereShort told_s s s'
    pub short_t : WereShort told_t t t'
    pub tells_s : IsSome (told_s s.disk).held → IsSome (told_s s'.disk).held
    pub tells_t : IsSome (told_t t.disk).held → IsSome (told_t t'.disk).held
    pub was_even : even' ≡ true → even ≡ true
    pub found : even' ≡ true → IfBoth (told_s s.disk).held (told_t t.disk).held HaveSameFound → IfBoth (told_s s'.disk).held
        (told_t t'.disk).held HaveSameFound

module _ {A B : Type 0} (told_a : A → DiskTold) (told_b : B → DiskTold) where
  pub data RebuildsSides (a a' : Side A) (b b' : Side B) (paths : List (List ℕ)) (even even' : Bool) (result : Rebuilt) : Type 0 where
    nothing : a.in_use ≡ true → b.in_use ≡ true → a' ≡ a → b' ≡ b → even' ≡ even → result ≡ Both
        → RebuildsSides a a' b b' paths even even' result
    second : a.in_use ≡ true → b.in_use ≡ false → Rebuilds told_a told_b a a' b b' (length paths) result
        → (result ≢ NoMemory → Restores told_a told_b a a' b b' paths even even') → RebuildsSides a a' b b' paths even even' result
    first : a.in_use ≡ false → b.in_use ≡ true → Rebuilds told_b told_a b b' a a' (length paths) result
        → (result ≢ NoMemory → Restores told_b told_a b b' a a' paths even even') → RebuildsSides a a' b b' paths even even' result
