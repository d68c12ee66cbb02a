-- What the definitions of a rebuilding say of lengths of files, of what binding leaves, of how it may end, and of what is told after it.
use Rattle.std.proofs.Common.{◌≡◌, refl, ℕ, zero, suc, ◌<◌, ◌≤◌, Bool, true, false, List, [], ◌∷◌, codes, ap, inr, arith}
use Rattle.std.specs.Prelude.{slice_index}
use Rattle.ac_outside.specs.declared.shelf.NamedBytes.{NamedBytes}
use Rattle.ac_outside.specs.Files.{file_of}
use Rattle.ac_outside.specs.Views.{FailingFiles}
use Rattle.ac_mirror_disk.specs.declared.side.Side.{Side}
use Rattle.ac_mirror_disk.specs.declared.rebuilding.Rebuilt.TheVariants.{Both, Fault, Longer, NoMemory}
use Rattle.ac_mirror_disk.specs.Pairs.{most_bytes}
use Rattle.ac_mirror_disk.specs.Mirrors.{Mirrored}
use Rattle.ac_mirror_disk.specs.Rebuilding.{IsFirstLonger, IsNoneLonger, AddsFound, OnlyBinds, Rebuilds, refused, unbound, longer, torn, copied}
use Rattle.ac_mirror_disk.specs.Rebuilding.{AreShort, MayRebuild, alike_after, ready_after}
use Rattle.ac_mirror_disk.proofs.Examples.{named, found, held_of}
use Rattle.ac_mirror_disk.proofs.CallExamples.{disk, with, told}

pub the_second_is_longer : IsFirstLonger (3 ∷ 5 ∷ []) (3 ∷ 6 ∷ []) 2 1
the_second_is_longer = record { within = omega arith; longer = omega arith; first = before } where
  before : (k : ℕ) → k < 1 → slice_index (3 ∷ 6 ∷ []) k ≤ slice_index (3 ∷ 5 ∷ []) k
  before zero less = omega arith
  before (suc k) less = absurd (omega (arith, less))

pub the_first_is_not : IsFirstLonger (3 ∷ 5 ∷ []) (3 ∷ 6 ∷ []) 2 0 → ⊥
the_first_is_not h = let less : 3 < 3 = h.longer in omega (arith, less)

pub none_is_longer : IsNoneLonger (3 ∷ []) (2 ∷ []) 1
none_is_longer zero less = omega arith
none_is_longer (suc k) less = absurd (omega (arith, less))

pub one_is : IsNoneLonger (3 ∷ []) (4 ∷ []) 1 → ⊥
one_is h = let less : 4 ≤ 3 = h 0 (omega arith) in omega (arith, less)

pub it_is_short : AreShort (3 ∷ []) 1
it_is_short zero less = omega arith
it_is_short (suc k) less = absurd (omega (arith, less))

-- as long as may be
pub the_longest_is : AreShort (most_bytes ∷ []) 1
the_longest_is zero less = omega arith
the_longest_is (suc k) less = absurd (omega (arith, less))

pub it_is_not : AreShort (1048577 ∷ []) 1 → ⊥
it_is_not h = let less : 1048577 ≤ 1048576 = h 0 (omega arith) in omega (arith, less)

-- ---- what binding leaves: under the path p stand the bytes 01

abbrev first_byte : List NamedBytes → ℕ
first_byte files = slice_index (file_of files 0).bytes 0

pub it_stands_as_it_was_found : AddsFound (held_of [] 0) (held_of found 1)
it_stands_as_it_was_found = record { before = refl; behind = refl }

pub other_bytes_were_not_found : AddsFound (held_of [] 0) (held_of (named (codes "p") (codes "91") ∷ []) 1) → ⊥
other_bytes_were_not_found h = let e : 57 ≡ 48 = ap first_byte h.behind in omega (arith, e)

pub one_that_was_bound_is_not_written : AddsFound (held_of found 1) (held_of (named (codes "p") (codes "91") ∷ []) 2) → ⊥
one_that_was_bound_is_not_written h = let e : 57 ≡ 48 = ap first_byte h.before in omega (arith, e)

-- a side with this disk and one length
abbrev pub side : FailingFiles → ℕ → Bool → Side FailingFiles
side it len in_use = record { disk = it; lens = len ∷ []; in_use = in_use }

-- nothing is bound, and then the file p
abbrev pub empty : Side FailingFiles
empty = side (disk [] 0 0) 0 false

abbrev pub bound : Side FailingFiles
bound = side (with (codes "01") 1 0) 2 false

pub it_was_bound : OnlyBinds told empty bound
it_was_bound = record { more = omega arith; lens = λ k less. absurd (omega (arith, less)); files = record { before = refl; behind = refl } }

pub it_was_written : OnlyBinds told bound (side (with (codes "91") 2 0) 2 false) → ⊥
it_was_written h = one_that_was_bound_is_not_written (record { before = h.files.before; behind = h.files.behind })

pub its_length_was_changed : OnlyBinds told bound (side (with (codes "01") 1 0) 3 false) → ⊥
its_length_was_changed h = let e : 3 ≡ 2 = h.lens 0 (omega arith) in omega (arith, e)

-- ---- how it ends, of a first side whose file p has the bytes 91

abbrev pub source : ℕ → Side FailingFiles
source len = side (with (codes "91") 1 0) len true

pub memory_was_not_given : Rebuilds told told (source 2) (source 2) empty
    (side (record (disk [] 1 0) { stored = record { files = []; given = found; is_ready = false } }) 0 false) 1 NoMemory
memory_was_not_given = refused refl refl refl refl

-- a disk that was refused memory may be called no more
pub it_was_given : Rebuilds told told (source 2) (source 2) empty empty 1 NoMemory → ⊥
it_was_given (refused e same out ready) = absurd (cc ready)
it_was_given (unbound e same out only rose) = absurd (cc e)
it_was_given (longer file e first same out only all later) = absurd (cc e)
it_was_given (torn between e only all none out still rose) = absurd (cc e)
it_was_given (copied between e only all none now still equal) = absurd (cc e)

pub a_bind_failed : Rebuilds told told (source 2) (source 2) empty (side (disk [] 1 1) 0 false) 1 Fault
a_bind_failed = unbound refl refl refl (record { more = omega arith; lens = λ k less. refl; files = record { before = refl; behind = refl } }) (omega arith)

pub one_is_longer : Rebuilds told told (source 1) (source 1) empty bound 1 (Longer 0)
one_is_longer = longer 0 refl (record { within = omega arith; longer = omega arith; first = λ k less. absurd (omega (arith, less)) }) refl refl it_was_bound refl (omega arith)

pub a_write_failed : Rebuilds told told (source 2) (source 2) empty (side (with (codes "91") 2 1) 2 false) 1 Fault
a_write_failed = torn bound refl it_was_bound refl none_longer refl refl (inr (omega arith)) where
  none_longer : IsNoneLonger (2 ∷ []) (2 ∷ []) 1
  none_longer zero less = omega arith
  none_longer (suc k) less = absurd (omega (arith, less))

pub it_was_copied : Rebuilds told told (source 2) (source 2) empty (side (with (codes "91") 2 0) 2 true) 1 Both
it_was_copied = copied bound refl it_was_bound refl none_longer refl refl refl where
  none_longer : IsNoneLonger (2 ∷ []) (2 ∷ []) 1
  none_longer zero less = omega arith
  none_longer (suc k) less = absurd (omega (arith, less))

-- both are not in use then
pub not_both : Rebuilds told told (source 2) (source 2) empty (side (with (codes "91") 2 0) 2 false) 1 Both → ⊥
not_both (refused e same out ready) = absurd (cc e)
not_both (unbound e same out only rose) = absurd (cc e)
not_both (longer file e first same out only all later) = absurd (cc e)
not_both (torn between e only all none out still rose) = absurd (cc e)
not_both (copied between e only all none now still equal) = absurd (cc now)

-- nothing is copied where a file is longer
pub not_written : Rebuilds told told (source 1) (source 1) bound (side (with (codes "91") 2 0) 2 false) 1 (Longer 0) → ⊥
not_written (refused e same out ready) = absurd (cc e)
not_written (unbound e same out only rose) = absurd (cc e)
not_written (longer file e first same out only all later) = it_was_written only
not_written (torn between e only all none out still rose) = absurd (cc e)
not_written (copied between e only all none now still equal) = absurd (cc e)

-- ---- what is told after it

pub they_are_alike_again : alike_after Both true true ≡ true
they_are_alike_again = refl

pub or_may_differ : alike_after Both true false ≡ false
or_may_differ = refl

pub nothing_was_rebuilt : alike_after Fault true false ≡ true
nothing_was_rebuilt = refl

pub it_is_called_no_more : ready_after NoMemory ≡ false
it_is_called_no_more = refl

pub it_is_called : ready_after Fault ≡ true
it_is_called = refl

-- a mirror whose second side is not in use, and whose one file has this length
abbrev pub mirror : Bool → ℕ → Mirrored ℕ ℕ
mirror is_ready len = record {
  a = record { disk = 0; lens = len ∷ []; in_use = true };
  b = record { disk = 0; lens = 0 ∷ []; in_use = false };
  paths = codes "p" ∷ [];
  binds = codes "p" ∷ [];
  is_ready = is_ready;
  is_alike = true;
  is_even = true;
  calls = 3;
  faults = 0;
  earlier = 0;
}

pub it_may_be_rebuilt : MayRebuild (mirror true 3)
it_may_be_rebuilt = record { ready = refl; short_a = λ _. it_is_short; short_b = λ out. absurd (cc out) }

pub its_file_is_too_long : MayRebuild (mirror true 1048577) → ⊥
its_file_is_too_long h = it_is_not (h.short_a refl)

pub memory_was_refused : MayRebuild (mirror false 3) → ⊥
memory_was_refused h = let e = h.ready in cc
