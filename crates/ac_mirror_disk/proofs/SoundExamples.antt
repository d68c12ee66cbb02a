-- What always holds of a mirror and of a disk under a prefix: of small disks in memory that are sound, and of some that are not.
use Rattle.std.proofs.Common.{◌≡◌, refl, ℕ, zero, suc, Bool, true, false, ◌<◌, ◌≤◌, List, [], ◌∷◌, codes, replicate, arith}
use Rattle.std.specs.Prelude.{slice_index}
use Rattle.ac_outside.specs.Disks.{Held}
use Rattle.ac_outside.specs.Views.{SafeFiles, told_by_safe_disk}
use Rattle.ac_mirror_disk.specs.declared.mirror.MirrorDisk.TheInside.{Inside}
use Rattle.ac_mirror_disk.specs.declared.side.Side.{Side}
use Rattle.ac_mirror_disk.specs.Mirrors.{Mirrored}
use Rattle.ac_mirror_disk.specs.Prefixes.{UnderPrefix}
use Rattle.ac_mirror_disk.specs.Fields.{mirrored}
use Rattle.ac_mirror_disk.specs.Joining.{AreUnder, IsUnder}
use Rattle.ac_mirror_disk.specs.Sound.{AreLengths, HasPaths, IsAlike, IsBlamed, IsKept, IsReady, IsSound}
use Rattle.ac_mirror_disk.proofs.Examples.{named, disk, first, held_of}

-- ---- under a prefix

pub it_has_the_prefix : AreUnder (codes "a/") (codes "a/p" ∷ [])
it_has_the_prefix = refl

pub the_empty_path_has_not : AreUnder (codes "a/") ([] ∷ []) → ⊥
the_empty_path_has_not e = cc e

abbrev prefixed : List ℕ → UnderPrefix SafeFiles
prefixed path = record { disk = disk (named path (codes "01") ∷ []) [] 1; prefix = codes "a/"; is_ready = true }

pub it_is_under_it : IsUnder told_by_safe_disk (prefixed (codes "a/p"))
it_is_under_it = record { ready = λ _. refl; under = λ _. refl }

pub this_is_not : IsUnder told_by_safe_disk (prefixed []) → ⊥
this_is_not u = let e = u.under refl in cc e

-- ---- a mirror, from its fields

pub it_counts_its_failures : {A B : Type 0} (s : Inside A B) → (mirrored s).faults ≡ s.counts.faults
it_counts_its_failures s = refl

pub and_has_its_sides : {A B : Type 0} (s : Inside A B) → (mirrored s).b ≡ s.b
and_has_its_sides s = refl

-- ---- a side

abbrev file : Held
file = held_of (named (codes "p") (codes "01") ∷ []) 1

pub its_length_is_noted : AreLengths (2 ∷ []) file
its_length_is_noted zero less = refl
its_length_is_noted (suc k) less = absurd (omega (arith, less))

pub not_another : AreLengths (3 ∷ []) file → ⊥
not_another are = let e = are 0 (omega arith) in omega (arith, e)

pub it_is_the_first : HasPaths (codes "p" ∷ codes "q" ∷ []) file
it_is_the_first = refl

pub and_not_the_second : HasPaths ([] ∷ codes "p" ∷ []) file → ⊥
and_not_the_second e = cc e

abbrev kept : ℕ → Bool → Side SafeFiles
kept len in_use = record { disk = first; lens = len ∷ replicate 15 0; in_use = in_use }

pub a_side_is_kept : IsKept told_by_safe_disk (kept 2 true) (codes "p" ∷ [])
a_side_is_kept = record { room = refl; ready = refl; within = omega arith; whole = λ _. refl; named = refl; lengths = lengths } where
  lengths : AreLengths (2 ∷ replicate 15 0) file
  lengths zero less = refl
  lengths (suc k) less = absurd (omega (arith, less))

pub not_with_another_length : IsKept told_by_safe_disk (kept 3 true) (codes "p" ∷ []) → ⊥
not_with_another_length k = let e = k.lengths 0 (omega arith) in omega (arith, e)

pub nor_with_a_path_more_in_use : IsKept told_by_safe_disk (kept 2 true) (codes "p" ∷ codes "q" ∷ []) → ⊥
nor_with_a_path_more_in_use k = let e = k.whole refl in omega (arith, e)

-- these disks never fail
pub one_in_use_need_not_have_failed : IsBlamed told_by_safe_disk (kept 2 true) 0
one_in_use_need_not_have_failed = record { dropped = λ e. absurd (cc e); blamed = λ some. absurd (omega (arith, some)) }

pub one_that_was_dropped_has : IsBlamed told_by_safe_disk (kept 2 false) 0 → ⊥
one_that_was_dropped_has b = let some = b.dropped refl in omega (arith, some)

-- ---- a mirror

abbrev two : Bool → ℕ → Mirrored SafeFiles SafeFiles
two second faults = record {
  a = kept 2 true;
  b = kept 2 second;
  paths = codes "p" ∷ [];
  binds = codes "p" ∷ [];
  is_ready = true;
  is_alike = true;
  is_even = true;
  calls = 2;
  faults = faults;
  earlier = 0;
}

pub both_tell_the_same : IsAlike told_by_safe_disk told_by_safe_disk (two true 0)
both_tell_the_same = record { one = refl; other = refl; found = λ _. refl; even = λ _ _. refl }

pub it_may_be_called : IsReady told_by_safe_disk told_by_safe_disk (two true 0)
it_may_be_called = record {
  some = refl;
  differ = λ i j d less within. absurd (omega (arith, less, within));
  on_a = a_side_is_kept;
  on_b = a_side_is_kept;
  equal = λ _ _. refl;
  alike = λ _. both_tell_the_same;
  first = one_in_use_need_not_have_failed;
  second = λ _ _. one_in_use_need_not_have_failed;
}

pub it_is_sound : IsSound told_by_safe_disk told_by_safe_disk (two true 0)
it_is_sound = record { few = omega arith; ready = λ _. it_may_be_called }

-- neither device has failed
pub it_has_not_failed_by_itself : IsSound told_by_safe_disk told_by_safe_disk (two true 1) → ⊥
it_has_not_failed_by_itself s = let some = (s.ready refl).first.blamed (omega arith) in omega (arith, some)

pub nor_was_the_second_dropped : IsSound told_by_safe_disk told_by_safe_disk (two false 0) → ⊥
nor_was_the_second_dropped s = let some = ((s.ready refl).second refl short).dropped refl in omega (arith, some) where
  short : (k : ℕ) → k < 1 → slice_index (2 ∷ replicate 15 0) k ≤ 1048576
  short zero less = omega arith
  short (suc k) less = absurd (omega (arith, less))
