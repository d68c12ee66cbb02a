-- What a write makes of a mirror, from what it makes of its sides.
use Rattle.std.proofs.Common.{◌≡◌, ◌≢◌, ℕ, true, false, ◌+◌, ◌^◌, ◌<◌, ◌≤◌, List, length, None, Some, refl, sym, ap, ◌∙◌, subst, inl, inr, arith}
use Rattle.std.specs.Prelude.{◌||◌, IfSome, IfErr, is_err, AllPairs, Ok, Err, ⊤}
use Rattle.std.specs.declared.option.Option.{Option}
use Rattle.std.specs.declared.result.Result.{Result}
use Rattle.std.proofs.lemmas.List.{length-set}
use Rattle.ac_outside.specs.declared.failed.Torn.{Torn}
use Rattle.ac_outside.specs.Causes.{Rose}
use Rattle.ac_outside.specs.Told.{one_more}
use Rattle.ac_outside.specs.Disks.{DiskTold, Held, with_written}
use Rattle.ac_outside.specs.Files.{bytes_in, written}
use Rattle.ac_mirror_disk.specs.declared.side.Side.{Side}
use Rattle.ac_mirror_disk.specs.Calls.{HasWritten}
use Rattle.ac_mirror_disk.specs.Sides.{SideWrites, has_failed}
use Rattle.ac_mirror_disk.specs.Pairs.{HaveSameFiles, BothWrite}
use Rattle.ac_mirror_disk.specs.Mirrors.{Mirrored, counted, mirror_contents, told_by_mirror}
use Rattle.ac_mirror_disk.specs.Sound.{IsKept, IsReady, IsSound}
use Rattle.ac_mirror_disk.proofs.InUse.{one_stays, first_was, second_was, first_dropped, second_dropped, both_stay, all_failed, first_answers, second_answers}
use Rattle.ac_mirror_disk.proofs.Telling.{known, untold, told_next}
use Rattle.ac_mirror_disk.proofs.Keeping.{kept_by_write}
use Rattle.ac_mirror_disk.proofs.Short.{short_write}
use Rattle.ac_mirror_disk.proofs.Going.{KeepsFound, Writes, both_go, some_goes, write_found, write_files, turns_by}
use Rattle.ac_mirror_disk.proofs.Steps.{Steps, Uses, some_of, either, cause_of, first_next, second_next, stands_second, binds_none, bound_told, bound_untold, flags_off}

later_of : {D : Type 0} (told : D → DiskTold) (s s' : Side D) (file from : ℕ) (bytes : List ℕ) (of : Option (Result ⊤ Torn)) → SideWrites told s s' file from bytes of
    → (told s.disk).faults ≤ (told s'.disk).faults
later_of told s s' file from bytes None h = let e = ap (λ d. (told d).faults) h.disk in omega (arith, e)
later_of told s s' file from bytes (Some result) h = h.0.cause.later

module _ {A B : Type 0} (told_a : A → DiskTold) (told_b : B → DiskTold) (law_a : (d : A) → IfSome (told_a d).held (λ held. (told_a d).bound ≡ length held.files))
    (law_b : (d : B) → IfSome (told_b d).held (λ held. (told_b d).bound ≡ length held.files)) where
  write_rose : {D : Type 0} (told : D → DiskTold) (s s' : Side D) (file from : ℕ) (bytes : List ℕ) (of : Option (Result ⊤ Torn)) → has_failed of ≡ true
      → SideWrites told s s' file from bytes of → Rose (told s.disk).faults (told s'.disk).faults
  write_rose told s s' file from bytes None failed h = absurd (cc failed)
  write_rose told s s' file from bytes (Some (Ok done)) failed h = absurd (cc failed)
  write_rose told s s' file from bytes (Some (Err torn)) failed h = h.0.cause.failed

  write_blame : (m m' : Mirrored A B) (file from : ℕ) (bytes : List ℕ) (result : Result ⊤ Torn) → BothWrite told_a told_b m.a m.b m'.a m'.b file from bytes result
      → is_err result ≡ true → (m.a.in_use ≡ true → Rose (told_a m.a.disk).faults (told_a m'.a.disk).faults) × (m.b.in_use ≡ true → Rose (told_b m.b.disk).faults (told_b m'.b.disk).faults)
  write_blame m m' file from bytes (Ok done) r failed = absurd (cc failed)
  write_blame m m' file from bytes (Err torn) r failed =
      let all = all_failed m'.a.in_use m.a.in_use m.b.in_use r.of_a r.of_b torn r.use_a r.answer in (
        λ used. write_rose told_a m.a m'.a file from bytes r.of_a (all.0 used) r.on_a,
        λ used. write_rose told_b m.b m'.b file from bytes r.of_b (all.1 used) r.on_b,
      )

  pub write_uses : (m m' : Mirrored A B) (file from : ℕ) (bytes : List ℕ) (result : Result ⊤ Torn) → (m.a.in_use || m.b.in_use) ≡ true
      → BothWrite told_a told_b m.a m.b m'.a m'.b file from bytes result → Uses told_a told_b m m' (is_err result)
  write_uses m m' file from bytes result some r = record {
    some = some_of m'.a.in_use _ m'.b.in_use _ r.use_a r.use_b (one_stays m.a.in_use (has_failed r.of_a) m.b.in_use (has_failed r.of_b) some);
    was_a = λ used. first_was m.a.in_use (has_failed r.of_a) m.b.in_use (has_failed r.of_b) (sym r.use_a ∙ used);
    was_b = λ used. second_was m.a.in_use m.b.in_use (has_failed r.of_b) (sym r.use_b ∙ used);
    later_a = later_of told_a m.a m'.a file from bytes r.of_a r.on_a;
    later_b = later_of told_b m.b m'.b file from bytes r.of_b r.on_b;
    short = short_write told_a m.a m'.a file from bytes r.of_a r.on_a;
    dropped_b = λ _ _ used out. write_rose told_b m.b m'.b file from bytes r.of_b (second_dropped m.a.in_use m.b.in_use (has_failed r.of_b) used (sym r.use_b ∙ out)) r.on_b;
    dropped_a = λ used out. write_rose told_a m.a m'.a file from bytes r.of_a (first_dropped m.a.in_use (has_failed r.of_a) m.b.in_use (has_failed r.of_b) used (sym r.use_a ∙ out)).0 r.on_a;
    blame_a = λ failed. (write_blame m m' file from bytes result r failed).0;
    blame_b = λ failed. (write_blame m m' file from bytes result r failed).1;
  }

  -- where both stay in use, both have written all
  pub write_equal : (m m' : Mirrored A B) (file from : ℕ) (bytes : List ℕ) (result : Result ⊤ Torn) → BothWrite told_a told_b m.a m.b m'.a m'.b file from bytes result
      → m'.a.in_use ≡ true → m'.b.in_use ≡ true → IfSome (told_a m.a.disk).held (λ x. IfSome (told_b m.b.disk).held (λ y. HaveSameFiles x y))
      → IfSome (told_a m'.a.disk).held (λ x. IfSome (told_b m'.b.disk).held (λ y. HaveSameFiles x y))
  write_equal m m' file from bytes result r a b equal =
      let well = both_stay m.a.in_use (has_failed r.of_a) m.b.in_use (has_failed r.of_b) (sym r.use_a ∙ a) (sym r.use_b ∙ b) in
      let was_a = first_was m.a.in_use (has_failed r.of_a) m.b.in_use (has_failed r.of_b) (sym r.use_a ∙ a) in
      let was_b = second_was m.a.in_use m.b.in_use (has_failed r.of_b) (sym r.use_b ∙ b) in
      both_go (Writes file from bytes) (Writes file from bytes) HaveSameFiles HaveSameFiles (λ h h' o o' s t e. s ∙ ap (λ files. written files file from bytes) e ∙ sym t)
      (told_a m.a.disk).held (told_a m'.a.disk).held (told_b m.b.disk).held (told_b m'.b.disk).held
      (write_files told_a m.a m'.a file from bytes r.of_a (r.called_a ∙ was_a) well.0 r.on_a) (write_files told_b m.b m'.b file from bytes r.of_b (r.called_b ∙ was_b) well.1 r.on_b) equal

  write_ready : (m m' : Mirrored A B) (file from : ℕ) (bytes : List ℕ) (result : Result ⊤ Torn) → length m.paths ≤ 16 → file < length m.paths → from + length bytes ≤ 1048576
      → IsReady told_a told_b m → BothWrite told_a told_b m.a m.b m'.a m'.b file from bytes result → Steps m m' (is_err result) → IsReady told_a told_b m'
  write_ready m m' file from bytes result few less within k r st =
      let u = write_uses m m' file from bytes result k.some r in
      let goes_a = write_found told_a m.a m'.a file from bytes r.of_a r.on_a in
      let goes_b = write_found told_b m.b m'.b file from bytes r.of_b r.on_b in
      let few_a : (told_a m.a.disk).bound ≤ 16 = omega (arith, few, k.on_a.within) in
      let few_b : (told_b m.b.disk).bound ≤ 16 = omega (arith, few, k.on_b.within) in
      record {
        some = u.some;
        differ = subst (AllPairs (λ (path other : List ℕ). path ≢ other)) (sym st.paths) k.differ;
        on_a = subst (IsKept told_a m'.a) (sym st.paths) (kept_by_write told_a law_a m.a m'.a m.paths file from bytes r.of_a k.on_a
            (λ called. let all = k.on_a.whole (sym r.called_a ∙ called) in omega (arith, less, all)) few_a within r.on_a u.was_a);
        on_b = subst (IsKept told_b m'.b) (sym st.paths) (kept_by_write told_b law_b m.b m'.b m.paths file from bytes r.of_b k.on_b
            (λ called. let all = k.on_b.whole (sym r.called_b ∙ called) in omega (arith, less, all)) few_b within r.on_b u.was_b);
        equal = λ a b. write_equal m m' file from bytes result r a b (k.equal (u.was_a a) (u.was_b b));
        alike = λ e. let s = k.alike (sym st.is_alike ∙ e) in record {
          one = some_goes KeepsFound (told_a m.a.disk).held (told_a m'.a.disk).held goes_a.goes s.one;
          other = some_goes KeepsFound (told_b m.b.disk).held (told_b m'.b.disk).held goes_b.goes s.other;
          found = λ even. both_go KeepsFound KeepsFound (λ x y. x.found ≡ y.found) (λ x y. x.found ≡ y.found) (λ h h' o o' s t e. s ∙ e ∙ sym t)
              (told_a m.a.disk).held (told_a m'.a.disk).held (told_b m.b.disk).held (told_b m'.b.disk).held goes_a goes_b (s.found (sym st.is_even ∙ even));
          even = λ a b. st.is_even ∙ s.even (u.was_a a) (u.was_b b);
        };
        first = first_next told_a told_b m m' (is_err result) u st.faults k.first;
        second = second_next told_a told_b m m' (is_err result) u st.faults st.is_alike k.second;
      }

  pub write_sound : (m m' : Mirrored A B) (file from : ℕ) (bytes : List ℕ) (result : Result ⊤ Torn) → file < length m.paths → from + length bytes ≤ 1048576 → IsSound told_a told_b m → m.is_ready
      ≡ true
      → BothWrite told_a told_b m.a m.b m'.a m'.b file from bytes result → Steps m m' (is_err result) → IsSound told_a told_b m'
  write_sound m m' file from bytes result less within k ready r st = record {
    few = subst (λ (ps : List (List ℕ)). length ps ≤ 16) (sym st.paths) k.few;
    ready = λ _. write_ready m m' file from bytes result k.few less within (k.ready ready) r st;
  }

  by_first : (m m' : Mirrored A B) (file from : ℕ) (bytes : List ℕ) (result : Result ⊤ Torn) → BothWrite told_a told_b m.a m.b m'.a m'.b file from bytes result
      → m'.a.in_use ≡ true → HasWritten (told_a m.a.disk) (told_a m'.a.disk) file from bytes result
  by_first m m' file from bytes result r used =
      (subst (λ of. SideWrites told_a m.a m'.a file from bytes of) (first_answers m'.a.in_use r.of_a r.of_b result r.answer used) r.on_a).0

  by_second : (m m' : Mirrored A B) (file from : ℕ) (bytes : List ℕ) (result : Result ⊤ Torn) → BothWrite told_a told_b m.a m.b m'.a m'.b file from bytes result
      → m'.a.in_use ≡ false → HasWritten (told_b m.b.disk) (told_b m'.b.disk) file from bytes result
  by_second m m' file from bytes result r unused =
      (subst (λ of. SideWrites told_b m.b m'.b file from bytes of) (second_answers m'.a.in_use r.of_a r.of_b result r.answer unused) r.on_b).0

  write_most : (m m' : Mirrored A B) (file from : ℕ) (bytes : List ℕ) (result : Result ⊤ Torn) → BothWrite told_a told_b m.a m.b m'.a m'.b file from bytes result
      → IfErr result (λ torn. torn.taken ≤ length bytes)
  write_most m m' file from bytes result r = elim (either m'.a.in_use) [
    | inl used ↦ (by_first m m' file from bytes result r used).most
    | inr unused ↦ (by_second m m' file from bytes result r unused).most
  ]

  pub write_told : (m m' : Mirrored A B) (file from : ℕ) (bytes : List ℕ) (result : Result ⊤ Torn) → IsSound told_a told_b m → m.is_ready ≡ true → m.faults < 2 ^ 64
      → BothWrite told_a told_b m.a m.b m'.a m'.b file from bytes result → Steps m m' (is_err result)
      → HasWritten (told_by_mirror told_a told_b m) (told_by_mirror told_a told_b m') file from bytes result
  write_told m m' file from bytes result sound ready few r st =
      let k = sound.ready ready in
      let u = write_uses m m' file from bytes result k.some r in
      let F : Held → Held = λ h. with_written h file from (bytes_in result bytes) in
      elim (either m.is_alike) [
        | inl alike ↦
            let t = known told_a told_b m k ready alike k.some in
            let next = told_next told_a told_b F
            (record { like = λ x y e. record { files = ap (λ files. written files file from (bytes_in result bytes)) e.files; found = e.found } }) m m' t (st.is_ready ∙ ready) (st.is_alike
            ∙ alike) (record {
              was_a = u.was_a;
              was_b = stands_second told_a told_b m m' (is_err result) u;
              first = λ used. turns_by F F (λ h. record { files = refl; found = refl }) (told_a m.a.disk).held (told_a m'.a.disk).held (by_first m m' file from bytes result r used).left;
              second = λ unused. turns_by F F (λ h. record { files = refl; found = refl }) (told_b m.b.disk).held (told_b m'.b.disk).held (by_second m m' file from bytes result r unused).left;
            }) in
            let calls : m'.calls ≡ one_more t.held.calls = st.calls ∙ ap one_more (sym t.calls_is) in
            record {
              none = binds_none told_a told_b m m' (is_err result) st (bound_told told_a told_b m m' t.held (counted m'.calls (F t.held)) t.is next (length-set t.held.files file _));
              most = write_most m m' file from bytes result r;
              left = subst (λ (o : Option Held). IfSome o (λ held. mirror_contents told_a told_b m' ≡ Some (with_written held file from (bytes_in result bytes)))) (sym t.is)
                  (next ∙ ap (λ n. Some (counted n (F t.held))) calls);
              silent = λ e. absurd (cc (sym t.is ∙ e));
              cause = cause_of m.faults m'.faults result few st.faults;
            }
        | inr off ↦
            let both = flags_off told_a told_b m m' (is_err result) st off in
            let before = untold told_a told_b m both.0 in
            let after = untold told_a told_b m' both.1 in
            record {
              none = binds_none told_a told_b m m' (is_err result) st (bound_untold told_a told_b m m' before after st.paths);
              most = write_most m m' file from bytes result r;
              left = subst (λ (o : Option Held). IfSome o (λ held. mirror_contents told_a told_b m' ≡ Some (with_written held file from (bytes_in result bytes)))) (sym before) tt;
              silent = λ _. after;
              cause = cause_of m.faults m'.faults result few st.faults;
            }
      ]
