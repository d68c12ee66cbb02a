-- The clauses of a mirror's calls, from what its fields were before and after them.
use Rattle.std.proofs.Common.{◌≡◌, ℕ, Bool, true, ◌^◌, ◌<◌, ◌≤◌, List, length, refl, sym, ap, ◌∙◌, subst, inl, inr, arith}
use Rattle.std.specs.Prelude.{IfSome, OnErr, is_err, Ok, Err, ⊤}
use Rattle.std.specs.declared.result.Result.{Result}
use Rattle.ac_outside.specs.declared.failed.BindFault.{BindFault}
use Rattle.ac_outside.specs.declared.failed.Failed.{Failed}
use Rattle.ac_outside.specs.declared.failed.Torn.{Torn}
use Rattle.ac_outside.specs.Told.{AddsName}
use Rattle.ac_outside.specs.Disks.{DiskTold}
use Rattle.ac_mirror_disk.specs.declared.side.Side.{Side}
use Rattle.ac_mirror_disk.specs.Calls.{HasBound, HasRead, HasWritten}
use Rattle.ac_mirror_disk.specs.Pairs.{BothBound, BothRead, BothWrite, HaveSameFiles}
use Rattle.ac_mirror_disk.specs.Mirrors.{Mirrored, StaysSo, EachRose, StayEqual, bound_of, told_by_mirror}
use Rattle.ac_mirror_disk.specs.inner.BindsNew.{BindsNew}
use Rattle.ac_mirror_disk.specs.inner.Callable.{MayCall}
use Rattle.ac_mirror_disk.specs.Sound.{IsKept, IsSound}
use Rattle.ac_mirror_disk.proofs.Going.{KeepsAll, both_go, read_goes}
use Rattle.ac_mirror_disk.proofs.Keeping.{reads_only}
use Rattle.ac_mirror_disk.proofs.Steps.{Steps, either, each_rose, read_uses, read_told}
use Rattle.ac_mirror_disk.proofs.Telling.{untold}
use Rattle.ac_mirror_disk.proofs.WriteSteps.{write_uses, write_told, write_equal}
use Rattle.ac_mirror_disk.proofs.BindSteps.{BindChanges}
use Rattle.ac_mirror_disk.proofs.BindTold.{off_first, bound_is, failed_so, refused_so, new_told, new_asked, new_sides, new_blame, new_equal}

pub may_call : {D : Type 0} (told : D → DiskTold) (s : Side D) (paths : List (List ℕ)) (file : ℕ) → IsKept told s paths → length paths ≤ 16 → file < length paths → MayCall told s file
may_call told s paths file k few less = record {
  ready = λ _. k.ready;
  named = λ used. let all = k.whole used in omega (arith, less, all);
  few = λ _. omega (arith, few, k.within);
}

module _ {A B : Type 0} (told_a : A → DiskTold) (told_b : B → DiskTold) (law_a : (d : A) → IfSome (told_a d).held (λ held. (told_a d).bound ≡ length held.files))
    (law_b : (d : B) → IfSome (told_b d).held (λ held. (told_b d).bound ≡ length held.files)) where
  -- what a call asks, of the fields
  pub is_ready : (m v : Mirrored A B) → m ≡ v → v.is_ready ≡ true → m.is_ready ≡ true
  is_ready m v e ready = ap (λ (x : Mirrored A B). x.is_ready) e ∙ ready

  pub bound_as : (m v : Mirrored A B) → m ≡ v → IsSound told_a told_b m → v.is_ready ≡ true → (told_by_mirror told_a told_b v).bound ≡ length m.paths
  bound_as m v e sound ready =
      sym (ap (λ (x : Mirrored A B). (told_by_mirror told_a told_b x).bound) e) ∙ bound_is told_a told_b law_a law_b m (sound.ready (is_ready m v e ready)) (is_ready m v e ready)

  -- of any mirror
  pub bound_any : (m v : Mirrored A B) → m ≡ v → IsSound told_a told_b m → (told_by_mirror told_a told_b v).bound ≡ length m.paths
  bound_any m v e sound = sym (ap (λ (x : Mirrored A B). (told_by_mirror told_a told_b x).bound) e) ∙ elim (either m.is_ready) [
    | inl ready ↦ bound_is told_a told_b law_a law_b m (sound.ready ready) ready
    | inr off ↦ ap (λ o. bound_of o m.paths) (untold told_a told_b m (off_first m.is_ready m.is_alike off))
  ]

  pub steps_so : (m m' : Mirrored A B) (failed : Bool) → Steps m m' failed → StaysSo m m'
  steps_so m m' failed st = record { paths = st.paths; binds = st.binds; is_ready = st.is_ready; is_alike = st.is_alike; is_even = st.is_even }

  if_err : {T E : Type 0} (result : Result T E) (P : Type 0) → (is_err result ≡ true → P) → OnErr result P
  if_err (Ok value) P f = tt
  if_err (Err fault) P f = f refl

  -- ---- reads

  pub record ReadSays (v m' : Mirrored A B) (file from len : ℕ) (into : List ℕ) (result : Result ℕ Failed) : Type 0 where
    pub told : HasRead (told_by_mirror told_a told_b v) (told_by_mirror told_a told_b m') file from len into result
    pub earlier : m'.earlier ≡ v.faults
    pub sides : BothRead told_a told_b v.a v.b m'.a m'.b file from len into result
    pub blame : OnErr result (EachRose told_a told_b v m')
    pub equal : StayEqual told_a told_b v m'
    pub same : StaysSo v m'

  read_equal : (m m' : Mirrored A B) (file from len : ℕ) (into : List ℕ) (result : Result ℕ Failed) → BothRead told_a told_b m.a m.b m'.a m'.b file from len into result → StayEqual told_a told_b m m'
  read_equal m m' file from len into result r ua ub ua' ub' equal =
      both_go KeepsAll KeepsAll HaveSameFiles HaveSameFiles (λ h h' o o' s t e. s.0 ∙ e ∙ sym t.0) (told_a m.a.disk).held (told_a m'.a.disk).held (told_b m.b.disk).held (told_b m'.b.disk).held
      (read_goes (told_a m.a.disk) (told_a m'.a.disk) (reads_only told_a law_a m.a m'.a file from len into r.of_a r.on_a))
      (read_goes (told_b m.b.disk) (told_b m'.b.disk) (reads_only told_b law_b m.b m'.b file from len into r.of_b r.on_b)) equal

  pub read_says : (m v m' : Mirrored A B) (file from len : ℕ) (into : List ℕ) (result : Result ℕ Failed) → m ≡ v → IsSound told_a told_b m → v.is_ready ≡ true → m.faults < 2 ^ 64
      → BothRead told_a told_b m.a m.b m'.a m'.b file from len into result → Steps m m' (is_err result) → ReadSays v m' file from len into result
  read_says m v m' file from len into result e sound ready few r st =
      let here = is_ready m v e ready in
      let u = read_uses told_a told_b law_a law_b m m' file from len into result (sound.ready here).some r in
      subst (λ x. ReadSays x m' file from len into result) e (record {
        told = read_told told_a told_b law_a law_b m m' file from len into result sound here few r st;
        earlier = st.earlier;
        sides = r;
        blame = if_err result (EachRose told_a told_b m m') (each_rose told_a told_b m m' (is_err result) u);
        equal = read_equal m m' file from len into result r;
        same = steps_so m m' (is_err result) st;
      })

  -- ---- writes

  pub record WriteSays (v m' : Mirrored A B) (file from : ℕ) (bytes : List ℕ) (result : Result ⊤ Torn) : Type 0 where
    pub told : HasWritten (told_by_mirror told_a told_b v) (told_by_mirror told_a told_b m') file from bytes result
    pub earlier : m'.earlier ≡ v.faults
    pub sides : BothWrite told_a told_b v.a v.b m'.a m'.b file from bytes result
    pub blame : OnErr result (EachRose told_a told_b v m')
    pub equal : StayEqual told_a told_b v m'
    pub same : StaysSo v m'

  pub write_says : (m v m' : Mirrored A B) (file from : ℕ) (bytes : List ℕ) (result : Result ⊤ Torn) → m ≡ v → IsSound told_a told_b m → v.is_ready ≡ true → m.faults < 2 ^ 64
      → BothWrite told_a told_b m.a m.b m'.a m'.b file from bytes result → Steps m m' (is_err result) → WriteSays v m' file from bytes result
  write_says m v m' file from bytes result e sound ready few r st =
      let here = is_ready m v e ready in
      let u = write_uses told_a told_b law_a law_b m m' file from bytes result (sound.ready here).some r in
      subst (λ x. WriteSays x m' file from bytes result) e (record {
        told = write_told told_a told_b law_a law_b m m' file from bytes result sound here few r st;
        earlier = st.earlier;
        sides = r;
        blame = if_err result (EachRose told_a told_b m m') (each_rose told_a told_b m m' (is_err result) u);
        equal = λ ua ub ua' ub' equal. write_equal told_a told_b law_a law_b m m' file from bytes result r ua' ub' equal;
        same = steps_so m m' (is_err result) st;
      })

  -- ---- binds

  pub record BindSays (v m' : Mirrored A B) (path : List ℕ) (result : Result ℕ BindFault) : Type 0 where
    pub told : HasBound (told_by_mirror told_a told_b v) (told_by_mirror told_a told_b m') path result
    pub asked : AddsName (told_by_mirror told_a told_b v).binds (told_by_mirror told_a told_b m').binds path
    pub earlier : m'.earlier ≡ v.faults
    pub sides : (result ≡ refused_so → ⊥) → BothBound told_a told_b v.a v.b m'.a m'.b path v.is_even m'.is_even result
    pub blame : result ≡ failed_so → EachRose told_a told_b v m'
    pub equal : (result ≡ refused_so → ⊥) → StayEqual told_a told_b v m'
    pub alike : m'.is_alike ≡ v.is_alike

  pub bind_says : (m v m' : Mirrored A B) (path : List ℕ) (result : Result ℕ BindFault) → m ≡ v → IsSound told_a told_b m → v.is_ready ≡ true → m.faults < 2 ^ 64 → length m.paths < 16
      → BindsNew told_a told_b m.a m.b m'.a m'.b m.paths m'.paths m.binds m'.binds path m.is_even m'.is_even result → BindChanges m m' result → BindSays v m' path result
  bind_says m v m' path result e sound ready few room b ch =
      let here = is_ready m v e ready in
      subst (λ x. BindSays x m' path result) e (record {
        told = new_told told_a told_b law_a law_b m m' path result sound here few room b ch;
        asked = new_asked told_a told_b law_a law_b m m' path result here b ch;
        earlier = ch.earlier;
        sides = new_sides told_a told_b law_a law_b m m' path result b;
        blame = new_blame told_a told_b law_a law_b m m' path result sound here b;
        equal = new_equal told_a told_b law_a law_b m m' path result sound here b;
        alike = ch.is_alike;
      })
