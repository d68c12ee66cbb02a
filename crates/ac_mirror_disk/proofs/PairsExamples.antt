-- What the relations on two sides say of disks that are numbers of calls: whom a read has asked, what each answered, and which stay in use.
use Rattle.std.proofs.Common.{◌≡◌, refl, ℕ, Bool, true, false, [], ◌∷◌, codes, replicate, None, Some, ap, ◌∙◌, arith}
use Rattle.std.specs.Prelude.{◌&&◌, not, Ok, is_some}
use Rattle.std.specs.declared.option.Option.{Option}
use Rattle.std.specs.declared.result.Result.{Result}
use Rattle.ac_outside.specs.declared.failed.Failed.{Failed}
use Rattle.ac_mirror_disk.specs.declared.side.Side.{Side}
use Rattle.ac_mirror_disk.specs.Sides.{IsLeft, SideReads, has_failed}
use Rattle.ac_mirror_disk.specs.Pairs.{IfBoth, HaveSameFiles, HaveSameBytes, BothRead, ComparesOrNot}
use Rattle.ac_mirror_disk.specs.Prefixes.{UnderPrefix, told_under_prefix}
use Rattle.ac_mirror_disk.proofs.Examples.{told, one_read, held_of, found, named}

abbrev pub side : ℕ → Bool → Side ℕ
side calls in_use = record { disk = calls; lens = replicate 16 0; in_use = in_use }

pub it_was_read : SideReads told (side 3 true) (side 4 true) 0 0 2 (codes "01") (Some (Ok 2))
it_was_read = (one_read, refl)

pub it_was_not_asked : IsLeft (side 3 true) (side 3 false)
it_was_not_asked = record { disk = refl; lens = refl }

pub it_was_asked : IsLeft (side 3 true) (side 4 true) → ⊥
it_was_asked l = let e : 4 ≡ 3 = l.disk in omega (arith, e)

-- the first gives the bytes, and the second is not asked
pub the_first_answers : BothRead told told (side 3 true) (side 7 true) (side 4 true) (side 7 true) 0 0 2 (codes "01") (Ok 2)
the_first_answers = record {
  of_a = Some (Ok 2);
  of_b = None;
  called_a = refl;
  called_b = refl;
  on_a = it_was_read;
  on_b = record { disk = refl; lens = refl };
  use_a = refl;
  use_b = refl;
  answer = refl;
}

not_asked : (n m : ℕ) (used : Bool) (of : Option (Result ℕ Failed)) → is_some of ≡ false → SideReads told (side n used) (side m used) 0 0 2 (codes "01") of → m ≡ n
not_asked n m used None out l = l.disk
not_asked n m used (Some result) out read = absurd (cc out)

pub not_one_that_was_dropped : BothRead told told (side 3 false) (side 7 true) (side 4 false) (side 7 true) 0 0 2 (codes "01") (Ok 2) → ⊥
not_one_that_was_dropped r = let e : 4 ≡ 3 = not_asked 3 4 false r.of_a r.called_a r.on_a in omega (arith, e)

-- one answer is enough
pub the_second_is_not_asked_too : BothRead told told (side 3 true) (side 7 true) (side 4 true) (side 8 true) 0 0 2 (codes "01") (Ok 2) → ⊥
the_second_is_not_asked_too r =
    let out : is_some r.of_b ≡ false = r.called_b ∙ ap (λ (of : Option (Result ℕ Failed)). true && not (is_some of && not (has_failed of))) r.answer in
    let e : 8 ≡ 7 = not_asked 7 8 true r.of_b out r.on_b in
    omega (arith, e)

pub they_are_not_compared : ComparesOrNot told told (side 3 true) (side 7 false) (side 3 true) (side 7 false) false 0
they_are_not_compared = (refl, refl)

pub the_same_files : IfBoth (Some (held_of found 1)) (Some (held_of found 2)) HaveSameFiles
the_same_files = refl

pub the_same_bytes : IfBoth (Some (held_of found 1)) (Some (held_of (named (codes "q") (codes "01") ∷ []) 2)) (HaveSameBytes 0)
the_same_bytes = refl

abbrev pub below : UnderPrefix ℕ
below = record { disk = 3; prefix = []; is_ready = false }

pub nothing_is_told_without_memory : (told_under_prefix told below).held ≡ None
nothing_is_told_without_memory = refl

pub as_many_are_bound : (told_under_prefix told below).bound ≡ 1
as_many_are_bound = refl
