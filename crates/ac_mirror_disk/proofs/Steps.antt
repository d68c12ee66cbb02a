-- What a read and a write make of a mirror, from what they make of its sides: it stays sound, it tells what the trait asks, and where it fails
-- each side in use has failed.
use Rattle.std.proofs.Common.{◌≡◌, ◌≢◌, ℕ, Bool, true, false, ◌^◌, ◌<◌, ◌≤◌, List, length, take, None, Some, refl, sym, ap, ◌∙◌, subst, ◌⊎◌, inl, inr, arith}
use Rattle.std.specs.Prelude.{◌&&◌, ◌||◌, IfSome, IfOk, is_err, if◌then◌else◌, AllPairs, Ok, Err}
use Rattle.std.specs.declared.option.Option.{Option}
use Rattle.std.specs.declared.result.Result.{Result}
use Rattle.ac_outside.specs.declared.failed.Failed.{Failed}
use Rattle.ac_outside.specs.Causes.{Rose, HasCause}
use Rattle.ac_outside.specs.Told.{one_more}
use Rattle.ac_outside.specs.Disks.{DiskTold, Held, BindsNone, called}
use Rattle.ac_outside.specs.Files.{file_of, part}
use Rattle.ac_mirror_disk.specs.declared.side.Side.{Side}
use Rattle.ac_mirror_disk.specs.Calls.{HasRead}
use Rattle.ac_mirror_disk.specs.Sides.{SideReads, has_failed}
use Rattle.ac_mirror_disk.specs.Pairs.{HaveSameFiles, BothRead}
use Rattle.ac_mirror_disk.specs.Mirrors.{Mirrored, bound_of, counted, mirror_contents, told_by_mirror, EachRose}
use Rattle.ac_mirror_disk.specs.Rebuilding.{AreShort}
use Rattle.ac_mirror_disk.specs.Sound.{IsBlamed, IsKept, IsReady, IsSound, WereShort}
use Rattle.ac_mirror_disk.proofs.InUse.{one_stays, first_was, second_was, first_dropped, second_dropped, all_failed, first_answers, second_answers}
use Rattle.ac_mirror_disk.proofs.Short.{short_read}
use Rattle.ac_mirror_disk.proofs.Telling.{Holding, known, untold, told_next}
use Rattle.ac_mirror_disk.proofs.Keeping.{kept_by_reads, reads_only, reads_lens}
use Rattle.ac_mirror_disk.proofs.Going.{KeepsAll, both_go, some_goes, read_goes, turns_by}

-- ---- what changes beside the sides

pub record Steps {A B : Type 0} (m m' : Mirrored A B) (failed : Bool) : Type 0 where
  pub paths : m'.paths ≡ m.paths
  pub binds : m'.binds ≡ m.binds
  pub is_ready : m'.is_ready ≡ m.is_ready
  pub is_alike : m'.is_alike ≡ m.is_alike
  pub is_even : m'.is_even ≡ m.is_even
  pub calls : m'.calls ≡ one_more m.calls
  pub faults : m'.faults ≡ (if failed then one_more m.faults else m.faults)
  pub earlier : m'.earlier ≡ m.faults

pub some_of : (x x' y y' : Bool) → x ≡ x' → y ≡ y' → (x' || y') ≡ true → (x || y) ≡ true
some_of x x' y y' e f some = ap (λ b. b || y) e ∙ ap (λ b. x' || b) f ∙ some

pub rose_some : (f f' : ℕ) → Rose f f' → 0 < f'
rose_some f f' rose = omega (arith, rose)

pub either : (b : Bool) → (b ≡ true) ⊎ (b ≡ false)
either true = inl refl
either false = inr refl

-- the causes of a call, by the count of those that failed
pub cause_of : {T E : Type 0} (f f' : ℕ) (result : Result T E) → f < 2 ^ 64 → f' ≡ (if is_err result then one_more f else f) → HasCause f f' result
cause_of f f' (Ok value) few e = record { later = omega (arith, e); failed = tt; unchanged = e }
cause_of f f' (Err fault) few e = record { later = omega (arith, e, few); failed = omega (arith, e); unchanged = tt }

-- ---- a side that has failed where it was to, and goes on so

module _ {D : Type 0} (told : D → DiskTold) (s s' : Side D) (later : (told s.disk).faults ≤ (told s'.disk).faults) where
  still_failed : 0 < (told s.disk).faults → 0 < (told s'.disk).faults
  still_failed some = omega (arith, some, later)

  dropped_next : (s.in_use ≡ true → s'.in_use ≡ false → Rose (told s.disk).faults (told s'.disk).faults) → (s.in_use ≡ false → 0 < (told s.disk).faults) → s'.in_use ≡ false
      → 0 < (told s'.disk).faults
  dropped_next dropped before out = elim (either s.in_use) [
    | inl used ↦ rose_some (told s.disk).faults (told s'.disk).faults (dropped used out)
    | inr unused ↦ still_failed (before unused)
  ]

  blame_next : (f f' : ℕ) (failed : Bool) → f' ≡ (if failed then one_more f else f) → (failed ≡ true → s.in_use ≡ true → Rose (told s.disk).faults (told s'.disk).faults)
      → IsBlamed told s f → 0 < f' → 0 < (told s'.disk).faults
  blame_next f f' true e blame before some = elim (either s.in_use) [
    | inl used ↦ rose_some (told s.disk).faults (told s'.disk).faults (blame refl used)
    | inr unused ↦ still_failed (before.dropped unused)
  ]
  blame_next f f' false e blame before some = still_failed (before.blamed (omega (arith, some, e)))

  pub blamed_next : (f f' : ℕ) (failed : Bool) → f' ≡ (if failed then one_more f else f) → (s.in_use ≡ true → s'.in_use ≡ false → Rose (told s.disk).faults (told s'.disk).faults)
      → (failed ≡ true → s.in_use ≡ true → Rose (told s.disk).faults (told s'.disk).faults) → IsBlamed told s f → IsBlamed told s' f'
  blamed_next f f' failed e dropped blame before = record { dropped = dropped_next dropped before.dropped; blamed = blame_next f f' failed e blame before }

module _ {A B : Type 0} (told_a : A → DiskTold) (told_b : B → DiskTold) where
  -- which sides a call has left in use, and whose counts have risen
  pub record Uses (m m' : Mirrored A B) (failed : Bool) : Type 0 where
    pub some : (m'.a.in_use || m'.b.in_use) ≡ true
    pub was_a : m'.a.in_use ≡ true → m.a.in_use ≡ true
    pub was_b : m'.b.in_use ≡ true → m.b.in_use ≡ true
    pub later_a : (told_a m.a.disk).faults ≤ (told_a m'.a.disk).faults
    pub later_b : (told_b m.b.disk).faults ≤ (told_b m'.b.disk).faults
    pub short : WereShort told_a m.a m'.a
    pub dropped_a : m.a.in_use ≡ true → m'.a.in_use ≡ false → Rose (told_a m.a.disk).faults (told_a m'.a.disk).faults
    pub dropped_b : m.is_alike ≡ true → AreShort m'.a.lens (told_a m'.a.disk).bound → m.b.in_use ≡ true → m'.b.in_use ≡ false
        → Rose (told_b m.b.disk).faults (told_b m'.b.disk).faults
    pub blame_a : failed ≡ true → m.a.in_use ≡ true → Rose (told_a m.a.disk).faults (told_a m'.a.disk).faults
    pub blame_b : failed ≡ true → m.b.in_use ≡ true → Rose (told_b m.b.disk).faults (told_b m'.b.disk).faults

  pub stands_second : (m m' : Mirrored A B) (failed : Bool) → Uses m m' failed → m'.a.in_use ≡ false → m.b.in_use ≡ true
  stands_second m m' failed u out = u.was_b (sym (ap (λ b. b || m'.b.in_use) out) ∙ u.some)

  pub first_next : (m m' : Mirrored A B) (failed : Bool) → Uses m m' failed → m'.faults ≡ (if failed then one_more m.faults else m.faults) → IsBlamed told_a m.a m.faults
      → IsBlamed told_a m'.a m'.faults
  first_next m m' failed u e before = blamed_next told_a m.a m'.a u.later_a m.faults m'.faults failed e u.dropped_a u.blame_a before

  pub second_next : (m m' : Mirrored A B) (failed : Bool) → Uses m m' failed → m'.faults ≡ (if failed then one_more m.faults else m.faults) → m'.is_alike ≡ m.is_alike
      → (m.is_alike ≡ true → AreShort m.a.lens (told_a m.a.disk).bound → IsBlamed told_b m.b m.faults) → m'.is_alike ≡ true → AreShort m'.a.lens (told_a m'.a.disk).bound
      → IsBlamed told_b m'.b m'.faults
  second_next m m' failed u e same before alike short =
      let was : m.is_alike ≡ true = sym same ∙ alike in
      blamed_next told_b m.b m'.b u.later_b m.faults m'.faults failed e (u.dropped_b was short) u.blame_b (before was (u.short short))

  pub each_rose : (m m' : Mirrored A B) (failed : Bool) → Uses m m' failed → failed ≡ true → EachRose told_a told_b m m'
  each_rose m m' failed u e = record { first = u.blame_a e; second = u.blame_b e }

  -- ---- what a mirror tells, from what stands

  pub binds_none : (m m' : Mirrored A B) (failed : Bool) → Steps m m' failed → bound_of (mirror_contents told_a told_b m') m'.paths ≡ bound_of (mirror_contents told_a told_b m) m.paths
      → BindsNone (told_by_mirror told_a told_b m) (told_by_mirror told_a told_b m')
  binds_none m m' failed st e = record {
    bound = e;
    is_ready = st.is_ready;
    binds = ap (λ r. if r then Some m'.binds else None) st.is_ready ∙ ap (λ bs. if m.is_ready then Some bs else None) st.binds;
  }

  pub bound_told : (m m' : Mirrored A B) (held held' : Held) → mirror_contents told_a told_b m ≡ Some held → mirror_contents told_a told_b m' ≡ Some held' → length held'.files ≡ length held.files
      → bound_of (mirror_contents told_a told_b m') m'.paths ≡ bound_of (mirror_contents told_a told_b m) m.paths
  bound_told m m' held held' e e' l = ap (λ o. bound_of o m'.paths) e' ∙ l ∙ sym (ap (λ o. bound_of o m.paths) e)

  pub bound_untold : (m m' : Mirrored A B) → mirror_contents told_a told_b m ≡ None → mirror_contents told_a told_b m' ≡ None → m'.paths ≡ m.paths
      → bound_of (mirror_contents told_a told_b m') m'.paths ≡ bound_of (mirror_contents told_a told_b m) m.paths
  bound_untold m m' e e' p = ap (λ o. bound_of o m'.paths) e' ∙ ap (λ (ps : List (List ℕ)). length ps) p ∙ sym (ap (λ o. bound_of o m.paths) e)

  pub flags_off : (m m' : Mirrored A B) (failed : Bool) → Steps m m' failed → m.is_alike ≡ false → (m.is_ready && m.is_alike) ≡ false × ((m'.is_ready && m'.is_alike) ≡ false)
  flags_off m m' failed st off = (off_by m.is_ready m.is_alike off, off_by m'.is_ready m'.is_alike (st.is_alike ∙ off)) where
    off_by : (r l : Bool) → l ≡ false → (r && l) ≡ false
    off_by true l e = e
    off_by false l e = refl

  module _ (law_a : (d : A) → IfSome (told_a d).held (λ held. (told_a d).bound ≡ length held.files)) (law_b : (d : B) → IfSome (told_b d).held (λ held. (told_b d).bound ≡ length held.files)) where
    -- ---- reads

    read_rose : {D : Type 0} (told : D → DiskTold) (s s' : Side D) (file from len : ℕ) (into : List ℕ) (of : Option (Result ℕ Failed)) → has_failed of ≡ true
        → SideReads told s s' file from len into of → Rose (told s.disk).faults (told s'.disk).faults
    read_rose told s s' file from len into None failed h = absurd (cc failed)
    read_rose told s s' file from len into (Some (Ok n)) failed h = absurd (cc failed)
    read_rose told s s' file from len into (Some (Err fault)) failed h = h.0.cause.failed

    read_blame : (m m' : Mirrored A B) (file from len : ℕ) (into : List ℕ) (result : Result ℕ Failed) → BothRead told_a told_b m.a m.b m'.a m'.b file from len into result
        → is_err result ≡ true → (m.a.in_use ≡ true → Rose (told_a m.a.disk).faults (told_a m'.a.disk).faults) × (m.b.in_use ≡ true → Rose (told_b m.b.disk).faults (told_b m'.b.disk).faults)
    read_blame m m' file from len into (Ok n) r failed = absurd (cc failed)
    read_blame m m' file from len into (Err fault) r failed =
        let all = all_failed m'.a.in_use m.a.in_use m.b.in_use r.of_a r.of_b fault r.use_a r.answer in (
          λ used. read_rose told_a m.a m'.a file from len into r.of_a (all.0 used) r.on_a,
          λ used. read_rose told_b m.b m'.b file from len into r.of_b (all.1 used) r.on_b,
        )

    pub read_uses : (m m' : Mirrored A B) (file from len : ℕ) (into : List ℕ) (result : Result ℕ Failed) → (m.a.in_use || m.b.in_use) ≡ true
        → BothRead told_a told_b m.a m.b m'.a m'.b file from len into result → Uses m m' (is_err result)
    read_uses m m' file from len into result some r = record {
      some = some_of m'.a.in_use _ m'.b.in_use _ r.use_a r.use_b (one_stays m.a.in_use (has_failed r.of_a) m.b.in_use (has_failed r.of_b) some);
      was_a = λ used. first_was m.a.in_use (has_failed r.of_a) m.b.in_use (has_failed r.of_b) (sym r.use_a ∙ used);
      was_b = λ used. second_was m.a.in_use m.b.in_use (has_failed r.of_b) (sym r.use_b ∙ used);
      later_a = (reads_only told_a law_a m.a m'.a file from len into r.of_a r.on_a).later;
      later_b = (reads_only told_b law_b m.b m'.b file from len into r.of_b r.on_b).later;
      short = short_read told_a m.a m'.a (reads_only told_a law_a m.a m'.a file from len into r.of_a r.on_a) (reads_lens told_a law_a m.a m'.a file from len into r.of_a r.on_a);
      dropped_b = λ _ _ used out. read_rose told_b m.b m'.b file from len into r.of_b (second_dropped m.a.in_use m.b.in_use (has_failed r.of_b) used (sym r.use_b ∙ out)) r.on_b;
      dropped_a = λ used out. read_rose told_a m.a m'.a file from len into r.of_a (first_dropped m.a.in_use (has_failed r.of_a) m.b.in_use (has_failed r.of_b) used (sym r.use_a ∙ out)).0 r.on_a;
      blame_a = λ failed. (read_blame m m' file from len into result r failed).0;
      blame_b = λ failed. (read_blame m m' file from len into result r failed).1;
    }

    read_ready : (m m' : Mirrored A B) (file from len : ℕ) (into : List ℕ) (result : Result ℕ Failed) → IsReady told_a told_b m
        → BothRead told_a told_b m.a m.b m'.a m'.b file from len into result → Steps m m' (is_err result) → IsReady told_a told_b m'
    read_ready m m' file from len into result k r st =
        let u = read_uses m m' file from len into result k.some r in
        let reads_a = reads_only told_a law_a m.a m'.a file from len into r.of_a r.on_a in
        let reads_b = reads_only told_b law_b m.b m'.b file from len into r.of_b r.on_b in
        let goes_a = read_goes (told_a m.a.disk) (told_a m'.a.disk) reads_a in
        let goes_b = read_goes (told_b m.b.disk) (told_b m'.b.disk) reads_b in
        record {
          some = u.some;
          differ = subst (AllPairs (λ (path other : List ℕ). path ≢ other)) (sym st.paths) k.differ;
          on_a = subst (IsKept told_a m'.a) (sym st.paths) (kept_by_reads told_a law_a m.a m'.a m.paths k.on_a reads_a (reads_lens told_a law_a m.a m'.a file from len into r.of_a r.on_a) u.was_a);
          on_b = subst (IsKept told_b m'.b) (sym st.paths) (kept_by_reads told_b law_b m.b m'.b m.paths k.on_b reads_b (reads_lens told_b law_b m.b m'.b file from len into r.of_b r.on_b) u.was_b);
          equal = λ a b. both_go KeepsAll KeepsAll HaveSameFiles HaveSameFiles (λ h h' o o' s t e. s.0 ∙ e ∙ sym t.0) (told_a m.a.disk).held (told_a m'.a.disk).held (told_b m.b.disk).held
              (told_b m'.b.disk).held
              goes_a goes_b (k.equal (u.was_a a) (u.was_b b));
          alike = λ e. let s = k.alike (sym st.is_alike ∙ e) in record {
            one = some_goes KeepsAll (told_a m.a.disk).held (told_a m'.a.disk).held goes_a.goes s.one;
            other = some_goes KeepsAll (told_b m.b.disk).held (told_b m'.b.disk).held goes_b.goes s.other;
            found = λ even. both_go KeepsAll KeepsAll (λ x y. x.found ≡ y.found) (λ x y. x.found ≡ y.found) (λ h h' o o' s t e. s.1 ∙ e ∙ sym t.1)
                (told_a m.a.disk).held (told_a m'.a.disk).held (told_b m.b.disk).held (told_b m'.b.disk).held goes_a goes_b (s.found (sym st.is_even ∙ even));
            even = λ a b. st.is_even ∙ s.even (u.was_a a) (u.was_b b);
          };
          first = first_next m m' (is_err result) u st.faults k.first;
          second = second_next m m' (is_err result) u st.faults st.is_alike k.second;
        }

    pub read_sound : (m m' : Mirrored A B) (file from len : ℕ) (into : List ℕ) (result : Result ℕ Failed) → IsSound told_a told_b m → m.is_ready ≡ true
        → BothRead told_a told_b m.a m.b m'.a m'.b file from len into result → Steps m m' (is_err result) → IsSound told_a told_b m'
    read_sound m m' file from len into result k ready r st = record {
      few = subst (λ (ps : List (List ℕ)). length ps ≤ 16) (sym st.paths) k.few;
      ready = λ _. read_ready m m' file from len into result (k.ready ready) r st;
    }

    -- the bytes that the answering side gave are those that stand there
    bytes_given : (x : Option Held) (held : Held) (file from len : ℕ) (into : List ℕ) (result : Result ℕ Failed) → Holding held x
        → IfSome x (λ h. IfOk result (λ count. take count into ≡ part (file_of h.files file).bytes from len)) → IfOk result (λ count. take count into ≡ part (file_of held.files file).bytes from len)
    bytes_given x held file from len into result h given =
        subst (λ files. IfOk result (λ count. take count into ≡ part (file_of files file).bytes from len)) h.like.files
        (subst (λ (o : Option Held). IfSome o (λ h. IfOk result (λ count. take count into ≡ part (file_of h.files file).bytes from len))) h.is given)

    by_first : (m m' : Mirrored A B) (file from len : ℕ) (into : List ℕ) (result : Result ℕ Failed) → BothRead told_a told_b m.a m.b m'.a m'.b file from len into result
        → m'.a.in_use ≡ true → HasRead (told_a m.a.disk) (told_a m'.a.disk) file from len into result
    by_first m m' file from len into result r used =
        (subst (λ of. SideReads told_a m.a m'.a file from len into of) (first_answers m'.a.in_use r.of_a r.of_b result r.answer used) r.on_a).0

    by_second : (m m' : Mirrored A B) (file from len : ℕ) (into : List ℕ) (result : Result ℕ Failed) → BothRead told_a told_b m.a m.b m'.a m'.b file from len into result
        → m'.a.in_use ≡ false → HasRead (told_b m.b.disk) (told_b m'.b.disk) file from len into result
    by_second m m' file from len into result r unused =
        (subst (λ of. SideReads told_b m.b m'.b file from len into of) (second_answers m'.a.in_use r.of_a r.of_b result r.answer unused) r.on_b).0

    pub read_told : (m m' : Mirrored A B) (file from len : ℕ) (into : List ℕ) (result : Result ℕ Failed) → IsSound told_a told_b m → m.is_ready ≡ true → m.faults < 2 ^ 64
        → BothRead told_a told_b m.a m.b m'.a m'.b file from len into result → Steps m m' (is_err result)
        → HasRead (told_by_mirror told_a told_b m) (told_by_mirror told_a told_b m') file from len into result
    read_told m m' file from len into result sound ready few r st =
        let k = sound.ready ready in
        let u = read_uses m m' file from len into result k.some r in
        elim (either m.is_alike) [
          | inl alike ↦
              let t = known told_a told_b m k ready alike k.some in
              let next = told_next told_a told_b (λ h. h) (record { like = λ x y e. e }) m m' t (st.is_ready ∙ ready) (st.is_alike ∙ alike) (record {
                was_a = u.was_a;
                was_b = stands_second m m' (is_err result) u;
                first = λ used. turns_by (λ h. h) called (λ h. record { files = refl; found = refl }) (told_a m.a.disk).held (told_a m'.a.disk).held
                    (by_first m m' file from len into result r used).same;
                second = λ unused. turns_by (λ h. h) called (λ h. record { files = refl; found = refl }) (told_b m.b.disk).held (told_b m'.b.disk).held
                    (by_second m m' file from len into result r unused).same;
              }) in
              let calls : m'.calls ≡ one_more t.held.calls = st.calls ∙ ap one_more (sym t.calls_is) in
              record {
                none = binds_none m m' (is_err result) st (bound_told m m' t.held (counted m'.calls t.held) t.is next refl);
                same = subst (λ (o : Option Held). IfSome o (λ held. mirror_contents told_a told_b m' ≡ Some (called held))) (sym t.is)
                    (next ∙ ap (λ n. Some (counted n t.held)) calls);
                silent = λ e. absurd (cc (sym t.is ∙ e));
                bytes = subst (λ (o : Option Held). IfSome o (λ held. IfOk result (λ count. take count into ≡ part (file_of held.files file).bytes from len))) (sym t.is)
                    (elim (either m'.a.in_use) [
                      | inl used ↦ bytes_given (told_a m.a.disk).held t.held file from len into result (t.first (u.was_a used)) (by_first m m' file from len into result r used).bytes
                      | inr unused ↦ bytes_given (told_b m.b.disk).held t.held file from len into result (t.second (stands_second m m' (is_err result) u unused))
                          (by_second m m' file from len into result r unused).bytes
                    ]);
                cause = cause_of m.faults m'.faults result few st.faults;
              }
          | inr off ↦
              let both = flags_off m m' (is_err result) st off in
              let before = untold told_a told_b m both.0 in
              let after = untold told_a told_b m' both.1 in
              record {
                none = binds_none m m' (is_err result) st (bound_untold m m' before after st.paths);
                same = subst (λ (o : Option Held). IfSome o (λ held. mirror_contents told_a told_b m' ≡ Some (called held))) (sym before) tt;
                silent = λ _. after;
                bytes = subst (λ (o : Option Held). IfSome o (λ held. IfOk result (λ count. take count into ≡ part (file_of held.files file).bytes from len))) (sym before) tt;
                cause = cause_of m.faults m'.faults result few st.faults;
              }
        ]
