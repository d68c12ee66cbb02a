-- What the definitions say of small disks in memory: of which sides stay in use, of what a mirror tells, and of a prefix. Each stands beside
-- values of which it holds and values of which it does not.
use Rattle.std.proofs.Common.{◌≡◌, refl, ℕ, Bool, true, false, List, [], ◌∷◌, codes, replicate, None, Some, arith}
use Rattle.std.specs.Prelude.{Ok, Err, ⊤}
use Rattle.std.specs.declared.result.Result.{Result}
use Rattle.ac_outside.specs.declared.failed.BindFault.{BindFault}
use Rattle.ac_outside.specs.declared.failed.BindFault.TheVariants.{Failed, NoMemory}
use Rattle.ac_outside.specs.declared.failed.Torn.{Torn}
use Rattle.ac_outside.specs.declared.shelf.NamedBytes.{NamedBytes}
use Rattle.ac_outside.specs.Disks.{DiskTold, Held}
use Rattle.ac_outside.specs.Texts.{text_of}
use Rattle.ac_outside.specs.Views.{SafeFiles, told_by_safe_disk}
use Rattle.ac_mirror_disk.specs.declared.side.Side.{Side}
use Rattle.ac_mirror_disk.specs.Calls.{HasRead}
use Rattle.ac_mirror_disk.specs.Sides.{grown, lens_bound, lens_written, has_failed, wants_memory, first_stays, second_stays}
use Rattle.ac_mirror_disk.specs.Pairs.{OnlyReads}
use Rattle.ac_mirror_disk.specs.Mirrors.{Mirrored, counted, bound_of, AreAlike, standing_held, mirror_contents, told_by_mirror, EachRose, StaysSo}
use Rattle.ac_mirror_disk.specs.Prefixes.{path_without, file_without, held_under, JoinsBind, unasked}

abbrev pub named : List ℕ → List ℕ → NamedBytes
named name bytes = record { name = name; bytes = bytes }

-- ---- lengths

pub a_write_over_the_end : grown 4 3 2 ≡ 5
a_write_over_the_end = refl

pub a_write_within : grown 4 1 2 ≡ 4
a_write_within = refl

pub a_write_of_nothing : grown 4 9 0 ≡ 4
a_write_of_nothing = refl

abbrev pub bound : ℕ → Result ℕ BindFault
bound n = Ok n

abbrev pub not_bound : BindFault → Result ℕ BindFault
not_bound fault = Err fault

abbrev pub wrote : Result ⊤ Torn
wrote = Ok tt

abbrev pub torn : ℕ → Result ⊤ Torn
torn n = Err (record { taken = n })

pub its_length_is_noted : lens_bound (7 ∷ 0 ∷ []) 1 (bound 5) ≡ 7 ∷ 5 ∷ []
its_length_is_noted = refl

pub none_is_noted : lens_bound (7 ∷ 0 ∷ []) 1 (not_bound Failed) ≡ 7 ∷ 0 ∷ []
none_is_noted = refl

pub two_bytes_went_in : lens_written (7 ∷ 5 ∷ []) 1 5 (codes "abc") (torn 2) ≡ 7 ∷ 7 ∷ []
two_bytes_went_in = refl

pub all_went_in : lens_written (7 ∷ 5 ∷ []) 1 5 (codes "abc") wrote ≡ 7 ∷ 8 ∷ []
all_went_in = refl

-- ---- answers of a side

pub one_that_was_not_called : has_failed {T = ℕ} {E = BindFault} None ≡ false
one_that_was_not_called = refl

pub one_that_failed : has_failed (Some (not_bound Failed)) ≡ true
one_that_failed = refl

pub one_that_did_not : has_failed (Some (bound 3)) ≡ false
one_that_did_not = refl

pub memory_was_refused : wants_memory (Some (not_bound NoMemory)) ≡ true
memory_was_refused = refl

pub and_here_it_was_not : wants_memory (Some (not_bound Failed)) ≡ false
and_here_it_was_not = refl

-- ---- which sides stay

-- the first failed, and the second did not
pub the_first_is_dropped : first_stays true true true false ≡ false
the_first_is_dropped = refl

pub and_the_second_stays : second_stays true true false ≡ true
and_the_second_stays = refl

-- both failed
pub the_first_stays : first_stays true true true true ≡ true
the_first_stays = refl

pub and_the_second_is_dropped : second_stays true true true ≡ false
and_the_second_is_dropped = refl

-- the last in use
pub the_last_stays : first_stays true true false false ≡ true
the_last_stays = refl

pub also_where_it_is_the_second : second_stays false true true ≡ true
also_where_it_is_the_second = refl

pub one_that_was_dropped_stays_so : first_stays false false true true ≡ false
one_that_was_dropped_stays_so = refl

-- ---- two disks

abbrev pub disk : List NamedBytes → List NamedBytes → ℕ → SafeFiles
disk files given calls = record { stored = record { files = files; given = given; is_ready = true }; calls = calls; binds = None }

abbrev pub found : List NamedBytes
found = named (codes "p") (codes "01") ∷ []

abbrev pub side : SafeFiles → Bool → Side SafeFiles
side it in_use = record { disk = it; lens = replicate 16 0; in_use = in_use }

-- the file p is bound on both; the second was written once more, and is not in use
abbrev pub first : SafeFiles
first = disk (named (codes "p") (codes "01") ∷ []) found 1

abbrev pub second : SafeFiles
second = disk (named (codes "p") (codes "91") ∷ []) found 2

abbrev pub mirror : Bool → Bool → Mirrored SafeFiles SafeFiles
mirror ua ub = record {
  a = side first ua;
  b = side second ub;
  paths = codes "p" ∷ [];
  binds = codes "p" ∷ [];
  is_ready = true;
  is_alike = true;
  is_even = true;
  calls = 5;
  faults = 1;
  earlier = 0;
}

abbrev pub held_of : List NamedBytes → ℕ → Held
held_of files calls = record { files = files; found = text_of found; calls = calls }

pub its_own_calls : counted 5 (held_of found 1) ≡ held_of found 5
its_own_calls = refl

pub the_first_tells : mirror_contents told_by_safe_disk told_by_safe_disk (mirror true false) ≡ Some (held_of (named (codes "p") (codes "01") ∷ []) 5)
the_first_tells = refl

pub or_else_the_second : mirror_contents told_by_safe_disk told_by_safe_disk (mirror false true) ≡ Some (held_of (named (codes "p") (codes "91") ∷ []) 5)
or_else_the_second = refl

pub the_second_stands : standing_held told_by_safe_disk told_by_safe_disk (mirror false true) ≡ Some (held_of (named (codes "p") (codes "91") ∷ []) 2)
the_second_stands = refl

pub nothing_is_told_of_others : mirror_contents told_by_safe_disk told_by_safe_disk (record (mirror true false) { is_alike = false }) ≡ None
nothing_is_told_of_others = refl

pub nor_without_memory : mirror_contents told_by_safe_disk told_by_safe_disk (record (mirror true false) { is_ready = false }) ≡ None
nor_without_memory = refl

pub as_many_as_it_tells : bound_of (Some (held_of found 1)) [] ≡ 1
as_many_as_it_tells = refl

pub or_as_it_has_paths : bound_of None (codes "p" ∷ codes "q" ∷ []) ≡ 2
or_as_it_has_paths = refl

pub what_it_tells : told_by_mirror told_by_safe_disk told_by_safe_disk (mirror true false)
    ≡ record { held = Some (held_of (named (codes "p") (codes "01") ∷ []) 5); bound = 1; is_ready = true; binds = Some (codes "p" ∷ []); faults = 1; earlier = 0 }
what_it_tells = refl

pub both_are_alike : AreAlike (Some (held_of [] 0)) (Some (held_of [] 3))
both_are_alike = record { one = refl; other = refl; found = refl }

pub one_that_tells_nothing_is_not : AreAlike (Some (held_of [] 0)) None → ⊥
one_that_tells_nothing_is_not h = let e = h.other in cc

-- ---- what a call keeps

pub no_count_rose : EachRose told_by_safe_disk told_by_safe_disk (mirror true false) (mirror true false) → ⊥
no_count_rose h = let r = h.first refl in omega (arith, r)

pub none_that_was_in_use : EachRose told_by_safe_disk told_by_safe_disk (mirror false false) (mirror false false)
none_that_was_in_use = record { first = λ e. absurd (cc e); second = λ e. absurd (cc e) }

pub nothing_changed : StaysSo (mirror true false) (mirror false true)
nothing_changed = record { paths = refl; binds = refl; is_ready = refl; is_alike = refl; is_even = refl }

pub it_was_refused_memory : StaysSo (mirror true false) (record (mirror true false) { is_ready = false }) → ⊥
it_was_refused_memory h = let e = h.is_ready in cc

-- ---- a disk that is only read

abbrev pub told : ℕ → DiskTold
told calls = record { held = Some (held_of found calls); bound = 1; is_ready = true; binds = None; faults = 0; earlier = 0 }

pub it_was_read : OnlyReads (told 3) (told 5)
it_was_read = record { none = record { bound = refl; is_ready = refl; binds = refl }; same = (5, refl); silent = λ e. absurd (cc e); later = omega arith }

pub one_read : HasRead (told 3) (told 4) 0 0 2 (codes "01") (Ok 2)
one_read = record {
  none = record { bound = refl; is_ready = refl; binds = refl };
  same = refl;
  silent = λ e. absurd (cc e);
  bytes = refl;
  cause = record { later = omega arith; failed = tt; unchanged = refl };
}

same_some : {a b : Held} → Some a ≡ Some b → a.calls ≡ b.calls
same_some {a} {b} e = cc

pub two_reads_are_not_one : HasRead (told 3) (told 5) 0 0 2 (codes "01") (Ok 2) → ⊥
two_reads_are_not_one h = let e : 5 ≡ 4 = same_some h.same in omega (arith, e)

-- ---- a prefix

pub without_its_prefix : path_without (codes "a/") (codes "a/p") ≡ codes "p"
without_its_prefix = refl

pub a_file_without_it : file_without (codes "a/") (named (codes "a/p") (codes "01")) ≡ named (codes "p") (codes "01")
a_file_without_it = refl

abbrev pub below : Held
below = record { files = named (codes "a/p") (codes "01") ∷ []; found = text_of (named (codes "a/q") (codes "23") ∷ named (codes "q") (codes "4") ∷ []); calls = 1 }

pub its_bound_file : (held_under (codes "a/") below).files ≡ named (codes "p") (codes "01") ∷ []
its_bound_file = refl

pub and_one_that_is_not_bound : (held_under (codes "a/") below).found (codes "q") ≡ Some (codes "23")
and_one_that_is_not_bound = refl

pub nothing_else_is_there : (held_under (codes "a/") below).found (codes "p") ≡ None
nothing_else_is_there = refl

pub it_was_not_asked : JoinsBind (told 3) (told 3) (codes "a/r") (not_bound NoMemory)
it_was_not_asked = unasked refl refl
