-- What the relations on binds and writes say of two small disks in memory, which may fail: what a call makes of a disk, of a side, and of both
-- sides. Each stands beside one that does not hold.
use Rattle.std.proofs.Common.{◌≡◌, refl, ℕ, Bool, true, false, ◌≤◌, List, [], ◌∷◌, length, codes, replicate, slice_index, None, Some, ap, subst, inr, arith}
use Rattle.std.specs.Prelude.{⊤, is_some}
use Rattle.std.specs.declared.option.Option.{Option}
use Rattle.std.specs.declared.result.Result.{Result}
use Rattle.ac_outside.specs.declared.failed.Torn.{Torn}
use Rattle.ac_outside.specs.declared.shelf.NamedBytes.{NamedBytes}
use Rattle.ac_outside.specs.Disks.{DiskTold, Held}
use Rattle.ac_outside.specs.Files.{file_of}
use Rattle.ac_outside.specs.Views.{FailingFiles, told_by_failing_disk}
use Rattle.ac_mirror_disk.specs.declared.side.Side.{Side}
use Rattle.ac_mirror_disk.specs.Calls.{HasBound, HasWritten}
use Rattle.ac_mirror_disk.specs.Sides.{SideBinds, SideWrites}
use Rattle.ac_mirror_disk.specs.Pairs.{OnlyReads, Verdict, same, differ, first_failed, second_failed, Compares, BothWrite, BothBound}
use Rattle.ac_mirror_disk.specs.Mirrors.{Mirrored, StayEqual}
use Rattle.ac_mirror_disk.proofs.Examples.{named, found, torn, wrote, bound}

-- ---- a disk

-- under the path p stand the bytes 01
abbrev pub disk : List NamedBytes → ℕ → ℕ → FailingFiles
disk files calls faults =
    record { stored = record { files = files; given = found; is_ready = true }; calls = calls; fails = []; binds = None; faults = faults; earlier = 0 }

-- the file p with these bytes is bound
abbrev pub with : List ℕ → ℕ → ℕ → FailingFiles
with bytes calls faults = disk (named (codes "p") bytes ∷ []) calls faults

abbrev pub told : FailingFiles → DiskTold
told = told_by_failing_disk

-- what is held of the file, in numbers
abbrev long : Option Held → ℕ
long None = 0
long (Some h) = length (file_of h.files 0).bytes

abbrev begins : Option Held → ℕ
begins None = 0
begins (Some h) = slice_index (file_of h.files 0).bytes 0

abbrev calls_of : Option Held → ℕ
calls_of None = 0
calls_of (Some h) = h.calls

pub it_has_bound : HasBound (told (disk [] 0 0)) (told (with (codes "01") 1 0)) (codes "p") (bound 2)
it_has_bound = record { bound = refl; ready = refl; leaves = (refl, refl); silent = λ e. absurd (cc e); cause = refl }

pub its_length_is_not_three : HasBound (told (disk [] 0 0)) (told (with (codes "01") 1 0)) (codes "p") (bound 3) → ⊥
its_length_is_not_three h = let e : 3 ≡ 2 = h.leaves.0 in omega (arith, e)

pub it_has_written : HasWritten (told (with (codes "01") 1 0)) (told (with (codes "0ab") 2 0)) 0 1 (codes "ab") wrote
it_has_written = record {
  none = record { bound = refl; is_ready = refl; binds = refl };
  most = tt;
  left = refl;
  silent = λ e. absurd (cc e);
  cause = record { later = omega arith; failed = tt; unchanged = refl };
}

-- it has failed after one byte
pub it_was_torn : HasWritten (told (with (codes "01") 1 0)) (told (with (codes "0a") 2 1)) 0 1 (codes "ab") (torn 1)
it_was_torn = record {
  none = record { bound = refl; is_ready = refl; binds = refl };
  most = omega arith;
  left = refl;
  silent = λ e. absurd (cc e);
  cause = record { later = omega arith; failed = omega arith; unchanged = tt };
}

pub a_byte_is_missing : HasWritten (told (with (codes "01") 1 0)) (told (with (codes "0a") 2 0)) 0 1 (codes "ab") wrote → ⊥
a_byte_is_missing h = let e : 2 ≡ 3 = ap long h.left in omega (arith, e)

-- ---- a side

-- the length of its file is noted first
abbrev pub side : FailingFiles → ℕ → Bool → Side FailingFiles
side it len in_use = record { disk = it; lens = len ∷ replicate 15 0; in_use = in_use }

abbrev first_length : List ℕ → ℕ
first_length lens = slice_index lens 0

pub a_side_has_bound : SideBinds told (side (disk [] 0 0) 0 true) (side (with (codes "01") 1 0) 2 true) (codes "p") (Some (bound 2))
a_side_has_bound = (it_has_bound, refl)

pub its_length_is_noted : SideBinds told (side (disk [] 0 0) 0 true) (side (with (codes "01") 1 0) 0 true) (codes "p") (Some (bound 2)) → ⊥
its_length_is_noted h = let e : 0 ≡ 2 = ap first_length h.1 in omega (arith, e)

pub a_side_has_written : SideWrites told (side (with (codes "01") 1 0) 2 true) (side (with (codes "0ab") 2 0) 3 true) 0 1 (codes "ab") (Some wrote)
a_side_has_written = (it_has_written, refl)

pub one_that_was_not_called : SideWrites told (side (with (codes "01") 1 0) 2 false) (side (with (codes "0ab") 2 0) 3 false) 0 1 (codes "ab") None → ⊥
one_that_was_not_called h = let e : 2 ≡ 1 = ap (λ (d : FailingFiles). d.calls) h.disk in omega (arith, e)

-- ---- a comparison

other_bytes : codes "01" ≡ codes "91" → ⊥
other_bytes e = let n : 48 ≡ 57 = ap first_length e in omega (arith, n)

abbrev pub read : List ℕ → ℕ → Bool → Side FailingFiles
read bytes calls in_use = side (with bytes calls 0) 2 in_use

pub they_are_the_same : Verdict told told (read (codes "01") 1 true) (read (codes "01") 1 true) (read (codes "01") 2 true) (read (codes "01") 2 true) 0
they_are_the_same = let few : 2 ≤ 1048576 = omega arith in same refl refl refl few refl

pub they_differ : Verdict told told (read (codes "01") 1 true) (read (codes "91") 1 true) (read (codes "01") 2 true) (read (codes "91") 2 false) 0
they_differ = differ refl refl (inr (inr other_bytes))

-- the second is dropped then
pub both_do_not_stay : Verdict told told (read (codes "01") 1 true) (read (codes "91") 1 true) (read (codes "01") 2 true) (read (codes "91") 2 true) 0 → ⊥
both_do_not_stay (same ua ub lens few bytes) = other_bytes bytes
both_do_not_stay (differ ua ub why) = absurd (cc ub)
both_do_not_stay (first_failed ua ub rose) = absurd (cc ua)
both_do_not_stay (second_failed ua ub rose) = absurd (cc ub)

was_read : (bytes : List ℕ) → OnlyReads (told (with bytes 1 0)) (told (with bytes 2 0))
was_read bytes = record { none = record { bound = refl; is_ready = refl; binds = refl }; same = (2, refl); silent = λ e. absurd (cc e); later = omega arith }

pub they_are_compared : Compares told told (read (codes "01") 1 true) (read (codes "01") 1 true) (read (codes "01") 2 true) (read (codes "01") 2 true) 0
they_are_compared = record { reads_a = was_read (codes "01"); reads_b = was_read (codes "01"); lens_a = refl; lens_b = refl; verdict = they_are_the_same }

pub nothing_is_written_then : Compares told told (read (codes "01") 1 true) (read (codes "01") 1 true) (read (codes "01") 2 true) (read (codes "91") 2 false) 0 → ⊥
nothing_is_written_then h = let e : 57 ≡ 48 = ap begins h.reads_b.same.1 in omega (arith, e)

-- ---- both sides

-- the first fails after one byte and is dropped, and the second has written all
pub the_second_answers : BothWrite told told (side (with (codes "01") 1 0) 2 true) (side (with (codes "01") 1 0) 2 true) (side (with (codes "0a") 2 1) 2 false)
    (side (with (codes "0ab") 2 0) 3 true) 0 1 (codes "ab") wrote
the_second_answers = record {
  of_a = Some (torn 1);
  of_b = Some wrote;
  called_a = refl;
  called_b = refl;
  on_a = (it_was_torn, refl);
  on_b = a_side_has_written;
  use_a = refl;
  use_b = refl;
  answer = refl;
}

not_called : (of : Option (Result ⊤ Torn)) → is_some of ≡ true → SideWrites told (side (with (codes "01") 1 0) 2 true) (side (with (codes "01") 1 0) 2 true) 0 1 (codes "ab") of → ⊥
not_called None called h = absurd (cc called)
not_called (Some result) called h = let e : 1 ≡ 2 = ap calls_of h.0.left in omega (arith, e)

pub not_the_first_alone : BothWrite told told (side (with (codes "01") 1 0) 2 true) (side (with (codes "01") 1 0) 2 true) (side (with (codes "0ab") 2 0) 3 true)
    (side (with (codes "01") 1 0) 2 true) 0 1 (codes "ab") wrote → ⊥
not_the_first_alone r = not_called r.of_b r.called_b r.on_b

-- both have bound the file, and then it was read from both
pub both_have_bound : BothBound told told (side (disk [] 0 0) 0 true) (side (disk [] 0 0) 0 true) (read (codes "01") 2 true) (read (codes "01") 2 true) (codes "p") true true (bound 2)
both_have_bound = record {
  of_a = Some (bound 2);
  of_b = Some (bound 2);
  between_a = read (codes "01") 1 true;
  between_b = read (codes "01") 1 true;
  called_a = refl;
  called_b = refl;
  given_a = refl;
  given_b = refl;
  on_a = a_side_has_bound;
  on_b = a_side_has_bound;
  use_a = refl;
  use_b = refl;
  even_is = refl;
  compared = they_are_compared;
  answer = refl;
}

-- the length is that of the first
pub no_other_length : BothBound told told (side (disk [] 0 0) 0 true) (side (disk [] 0 0) 0 true) (read (codes "01") 2 true) (read (codes "01") 2 true) (codes "p") true true (bound 3) → ⊥
no_other_length r =
    let h = subst (λ of. SideBinds told (side (disk [] 0 0) 0 true) r.between_a (codes "p") of) r.answer r.on_a in
    let e : 3 ≡ 2 = h.0.leaves.0 in
    omega (arith, e)

abbrev pub mirror : List ℕ → Mirrored FailingFiles FailingFiles
mirror bytes = record {
  a = read (codes "01") 1 true;
  b = read bytes 1 true;
  paths = codes "p" ∷ [];
  binds = codes "p" ∷ [];
  is_ready = true;
  is_alike = true;
  is_even = true;
  calls = 1;
  faults = 0;
  earlier = 0;
}

pub they_stay_equal : StayEqual told told (mirror (codes "01")) (mirror (codes "01"))
they_stay_equal = λ _ _ _ _ e. e

pub they_do_not : StayEqual told told (mirror (codes "01")) (mirror (codes "91")) → ⊥
they_do_not h =
    let files : named (codes "p") (codes "01") ∷ [] ≡ named (codes "p") (codes "91") ∷ [] = h refl refl refl refl refl in
    other_bytes (ap (λ (fs : List NamedBytes). (file_of fs 0).bytes) files)
