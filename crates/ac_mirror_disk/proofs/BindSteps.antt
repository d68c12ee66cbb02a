-- What a bind makes of a mirror, from what it makes of its sides and of its paths.
use Rattle.std.proofs.Common.{◌≡◌, ◌≢◌, ℕ, Bool, true, false, ◌-◌, ◌^◌, ◌<◌, ◌≤◌, List, [], ◌∷◌, ◌++◌, length, None, Some, refl, sym, ap, ◌∙◌, subst, ◌⊎◌, inl, inr, arith}
use Rattle.std.specs.Prelude.{◌&&◌, ◌||◌, not, IfSome, is_some, if◌then◌else◌, AllPairs, Ok, Err, ⊤}
use Rattle.std.specs.declared.option.Option.{Option}
use Rattle.std.specs.declared.result.Result.{Result}
use Rattle.ac_outside.specs.declared.failed.BindFault.{BindFault}
use Rattle.ac_outside.specs.declared.failed.BindFault.TheVariants.{Failed, NoMemory}
use Rattle.ac_outside.specs.declared.shelf.NamedBytes.{NamedBytes}
use Rattle.ac_outside.specs.Causes.{Rose, BindHasCause}
use Rattle.ac_outside.specs.Told.{one_more}
use Rattle.ac_outside.specs.Disks.{DiskTold, Held, stays_ready, with_bound}
use Rattle.ac_outside.specs.Files.{file_at}
use Rattle.ac_mirror_disk.specs.declared.side.Side.{Side}
use Rattle.ac_mirror_disk.specs.Sides.{SideBinds, has_failed, wants_memory}
use Rattle.ac_mirror_disk.specs.Pairs.{IfBoth, OnlyReads, HaveSameBytes, HaveSameFiles, BothBound, Compares, ComparesOrNot, Verdict}
use Rattle.ac_mirror_disk.specs.Pairs.{same, differ, first_failed, second_failed}
use Rattle.ac_mirror_disk.specs.Mirrors.{Mirrored}
use Rattle.ac_mirror_disk.specs.Rebuilding.{AreShort}
use Rattle.ac_mirror_disk.specs.inner.BindsNew.{bind_failed, paths_after}
use Rattle.ac_mirror_disk.specs.Sound.{IsKept, IsReady}
use Rattle.ac_mirror_disk.proofs.InUse.{one_stays, first_was, second_was, first_dropped, second_dropped, both_stay, all_failed, first_answers, second_answers}
use Rattle.ac_mirror_disk.proofs.ReadOnly.{not_read, rose_on, rose_first}
use Rattle.ac_mirror_disk.proofs.LastFile.{the_last}
use Rattle.ac_mirror_disk.proofs.SameFound.{Bound, Differs, same_slot, found_lens, found_bytes}
use Rattle.ac_mirror_disk.proofs.Short.{short_bind, short_read}
use Rattle.ac_mirror_disk.proofs.Keeping.{kept_by_reads, kept_bound, kept_failed, kept_more, left_alone}
use Rattle.ac_mirror_disk.proofs.Going.{GoesOn, KeepsAll, KeepsFound, both_go, some_goes, read_goes, goes_on_then, bind_found, bind_tells}
use Rattle.ac_mirror_disk.proofs.Steps.{Uses, some_of, either, first_next, second_next}

-- ---- what the comparison leaves

and_first : (x y : Bool) → (x && y) ≡ true → x ≡ true
and_first true y e = refl
and_first false y e = absurd (cc e)

and_second : (x y : Bool) → (x && y) ≡ true → y ≡ true
and_second true y e = e
and_second false y e = absurd (cc e)

or_first : (x y : Bool) → x ≡ true → (x || y) ≡ true
or_first true y e = refl
or_first false y e = absurd (cc e)

or_second : (x y : Bool) → y ≡ true → (x || y) ≡ true
or_second true y e = refl
or_second false y e = e

and_both : (x y : Bool) → x ≡ true → y ≡ true → (x && y) ≡ true
and_both true y e f = f
and_both false y e f = absurd (cc e)

module _ {A B : Type 0} (told_a : A → DiskTold) (told_b : B → DiskTold) where
  pub record After (a : Side A) (b : Side B) (a' : Side A) (b' : Side B) (file : ℕ) : Type 0 where
    pub reads_a : OnlyReads (told_a a.disk) (told_a a'.disk)
    pub reads_b : OnlyReads (told_b b.disk) (told_b b'.disk)
    pub lens_a : a'.lens ≡ a.lens
    pub lens_b : b'.lens ≡ b.lens
    pub some : (a'.in_use || b'.in_use) ≡ true
    pub was_a : a'.in_use ≡ true → a.in_use ≡ true
    pub was_b : b'.in_use ≡ true → b.in_use ≡ true
    pub dropped_a : a.in_use ≡ true → a'.in_use ≡ false → Rose (told_a a.disk).faults (told_a a'.disk).faults
    pub dropped_b : b.in_use ≡ true → b'.in_use ≡ false → Rose (told_b b.disk).faults (told_b b'.disk).faults ⊎ ((a.in_use ≡ true) × Differs told_a told_b a b file)
    pub equal : a'.in_use ≡ true → b'.in_use ≡ true → IfBoth (told_a a.disk).held (told_b b.disk).held (HaveSameBytes file)
    pub unmoved : (a.in_use && b.in_use) ≡ false → a'.in_use ≡ a.in_use

  after_by : (a : Side A) (b : Side B) (a' : Side A) (b' : Side B) (file : ℕ) → (a.in_use && b.in_use) ≡ true → Compares told_a told_b a b a' b' file → Verdict told_a told_b a b a' b' file
      → After a b a' b' file
  after_by a b a' b' file both c (same ua ub lens few bytes) = record {
    reads_a = c.reads_a;
    reads_b = c.reads_b;
    lens_a = c.lens_a;
    lens_b = c.lens_b;
    some = or_first a'.in_use b'.in_use ua;
    was_a = λ _. and_first a.in_use b.in_use both;
    was_b = λ _. and_second a.in_use b.in_use both;
    dropped_a = λ _ out. absurd (cc (sym ua ∙ out));
    dropped_b = λ _ out. absurd (cc (sym ub ∙ out));
    equal = λ _ _. bytes;
    unmoved = λ not_both. absurd (cc (sym both ∙ not_both));
  }
  after_by a b a' b' file both c (differ ua ub why) = record {
    reads_a = c.reads_a;
    reads_b = c.reads_b;
    lens_a = c.lens_a;
    lens_b = c.lens_b;
    some = or_first a'.in_use b'.in_use ua;
    was_a = λ _. and_first a.in_use b.in_use both;
    was_b = λ _. and_second a.in_use b.in_use both;
    dropped_a = λ _ out. absurd (cc (sym ua ∙ out));
    dropped_b = λ _ _. inr (and_first a.in_use b.in_use both, why);
    equal = λ _ used. absurd (cc (sym used ∙ ub));
    unmoved = λ not_both. absurd (cc (sym both ∙ not_both));
  }
  after_by a b a' b' file both c (first_failed ua ub rose) = record {
    reads_a = c.reads_a;
    reads_b = c.reads_b;
    lens_a = c.lens_a;
    lens_b = c.lens_b;
    some = or_second a'.in_use b'.in_use ub;
    was_a = λ _. and_first a.in_use b.in_use both;
    was_b = λ _. and_second a.in_use b.in_use both;
    dropped_a = λ _ _. rose;
    dropped_b = λ _ out. absurd (cc (sym ub ∙ out));
    equal = λ used _. absurd (cc (sym used ∙ ua));
    unmoved = λ not_both. absurd (cc (sym both ∙ not_both));
  }
  after_by a b a' b' file both c (second_failed ua ub rose) = record {
    reads_a = c.reads_a;
    reads_b = c.reads_b;
    lens_a = c.lens_a;
    lens_b = c.lens_b;
    some = or_first a'.in_use b'.in_use ua;
    was_a = λ _. and_first a.in_use b.in_use both;
    was_b = λ _. and_second a.in_use b.in_use both;
    dropped_a = λ _ out. absurd (cc (sym ua ∙ out));
    dropped_b = λ _ _. inl rose;
    equal = λ _ used. absurd (cc (sym used ∙ ub));
    unmoved = λ not_both. absurd (cc (sym both ∙ not_both));
  }

  after_none : (a : Side A) (b : Side B) (a' : Side A) (b' : Side B) (file : ℕ) → (a.in_use && b.in_use) ≡ false → (a.in_use || b.in_use) ≡ true → a' ≡ a → b' ≡ b → After a b a' b' file
  after_none a b a' b' file not_both some e f =
      subst (λ (s : Side A). After a b s b' file) (sym e) (subst (λ (s : Side B). After a b a s file) (sym f) (record {
        reads_a = not_read (told_a a.disk);
        reads_b = not_read (told_b b.disk);
        lens_a = refl;
        lens_b = refl;
        some = some;
        was_a = λ used. used;
        was_b = λ used. used;
        dropped_a = λ used out. absurd (cc (sym used ∙ out));
        dropped_b = λ used out. absurd (cc (sym used ∙ out));
        equal = λ ua ub. absurd (cc (sym (and_both a.in_use b.in_use ua ub) ∙ not_both));
        unmoved = λ _. refl;
      }))

  after_flag : (flag : Bool) (a : Side A) (b : Side B) (a' : Side A) (b' : Side B) (file : ℕ) → (a.in_use && b.in_use) ≡ flag → (a.in_use || b.in_use) ≡ true
      → ComparesOrNot told_a told_b a b a' b' flag file → After a b a' b' file
  after_flag true a b a' b' file e some c = after_by a b a' b' file e c c.verdict
  after_flag false a b a' b' file e some c = after_none a b a' b' file e some c.0 c.1

  -- ---- the call of each side

  bind_rose : {D : Type 0} (told : D → DiskTold) (s s' : Side D) (path : List ℕ) (of : Option (Result ℕ BindFault)) → has_failed of ≡ true → wants_memory of ≡ false
      → SideBinds told s s' path of → Rose (told s.disk).faults (told s'.disk).faults
  bind_rose told s s' path None failed given h = absurd (cc failed)
  bind_rose told s s' path (Some (Ok len)) failed given h = absurd (cc failed)
  bind_rose told s s' path (Some (Err Failed)) failed given h = h.0.cause.1
  bind_rose told s s' path (Some (Err NoMemory)) failed given h = absurd (cc given)

  bind_later : {D : Type 0} (told : D → DiskTold) (s s' : Side D) (path : List ℕ) (of : Option (Result ℕ BindFault)) → wants_memory of ≡ false
      → SideBinds told s s' path of → (told s.disk).faults ≤ (told s'.disk).faults
  bind_later told s s' path None given h = let e = ap (λ d. (told d).faults) h.disk in omega (arith, e)
  bind_later told s s' path (Some (Ok len)) given h = let e = h.0.cause in omega (arith, e)
  bind_later told s s' path (Some (Err Failed)) given h = h.0.cause.0
  bind_later told s s' path (Some (Err NoMemory)) given h = absurd (cc given)

  -- a side keeps what it has where the bind succeeded
  kept_ok : {D : Type 0} (told : D → DiskTold) (law : (d : D) → IfSome (told d).held (λ held. (told d).bound ≡ length held.files)) (s between s' : Side D) (paths : List (List ℕ)) (path : List ℕ)
      (of : Option (Result ℕ BindFault)) → IsKept told s paths → length paths < 16 → is_some of ≡ s.in_use → wants_memory of ≡ false → SideBinds told s between path of
      → OnlyReads (told between.disk) (told s'.disk) → s'.lens ≡ between.lens → (s'.in_use ≡ true → between.in_use ≡ true) → (between.in_use ≡ true → s.in_use ≡ true)
      → (s'.in_use ≡ true → has_failed of ≡ false) → IsKept told s' (paths ++ path ∷ [])
  kept_ok told law s between s' paths path None k few used given h reads lens was before well =
      kept_by_reads told law between s' (paths ++ path ∷ [])
      (kept_more told law between paths path (kept_by_reads told law s between paths k (left_alone told law s between h) h.lens before) (out (either between.in_use))) reads lens was
    where
      out : (between.in_use ≡ true) ⊎ (between.in_use ≡ false) → between.in_use ≡ false
      out (inl e) = absurd (cc (used ∙ before e))
      out (inr e) = e
  kept_ok told law s between s' paths path (Some (Ok len)) k few used given h reads lens was before well =
      kept_by_reads told law between s' (paths ++ path ∷ [])
      (kept_bound told law s between paths path len k (k.whole (sym used)) (let all = k.whole (sym used) in omega (arith, few, all)) h) reads lens was
  kept_ok told law s between s' paths path (Some (Err Failed)) k few used given h reads lens was before well =
      kept_more told law s' paths path (kept_by_reads told law between s' paths (kept_failed told law s between paths path k h before) reads lens was) (out (either s'.in_use))
    where
      out : (s'.in_use ≡ true) ⊎ (s'.in_use ≡ false) → s'.in_use ≡ false
      out (inl e) = absurd (cc (well e))
      out (inr e) = e
  kept_ok told law s between s' paths path (Some (Err NoMemory)) k few used given h reads lens was before well = absurd (cc given)

  -- and where each side in use failed
  kept_err : {D : Type 0} (told : D → DiskTold) (law : (d : D) → IfSome (told d).held (λ held. (told d).bound ≡ length held.files)) (s between s' : Side D) (paths : List (List ℕ)) (path : List ℕ)
      (of : Option (Result ℕ BindFault)) → IsKept told s paths → is_some of ≡ s.in_use → wants_memory of ≡ false → SideBinds told s between path of
      → OnlyReads (told between.disk) (told s'.disk) → s'.lens ≡ between.lens → (s'.in_use ≡ true → between.in_use ≡ true) → (between.in_use ≡ true → s.in_use ≡ true)
      → (s.in_use ≡ true → has_failed of ≡ true) → IsKept told s' paths
  kept_err told law s between s' paths path None k used given h reads lens was before failed =
      kept_by_reads told law between s' paths (kept_by_reads told law s between paths k (left_alone told law s between h) h.lens before) reads lens was
  kept_err told law s between s' paths path (Some (Ok len)) k used given h reads lens was before failed = absurd (cc (failed (sym used)))
  kept_err told law s between s' paths path (Some (Err Failed)) k used given h reads lens was before failed =
      kept_by_reads told law between s' paths (kept_failed told law s between paths path k h before) reads lens was
  kept_err told law s between s' paths path (Some (Err NoMemory)) k used given h reads lens was before failed = absurd (cc given)

-- ---- the file that both have bound

bound_as : (x' : Option Held) (h : Held) (path : List ℕ) (P : Option Held → Type 0) → x' ≡ Some (with_bound h path) → P x' → P (Some (with_bound h path))
bound_as x' h path P e p = subst P e p

same_file : (h k : Held) (path : List ℕ) (file : ℕ) → file ≡ length h.files → file ≡ length k.files → HaveSameFiles h k → HaveSameBytes file (with_bound h path) (with_bound k path)
    → HaveSameFiles (with_bound h path) (with_bound k path)
same_file h k path file eh ek files bytes =
    let one = ap (λ (f : NamedBytes). f.bytes) (the_last h.files (file_at h.found path) file eh) in
    let other = ap (λ (f : NamedBytes). f.bytes) (the_last k.files (file_at k.found path) file ek) in
    let equal : (file_at h.found path).bytes ≡ (file_at k.found path).bytes = sym one ∙ bytes ∙ other in
    ap (λ bs. h.files ++ record { name = path; bytes = bs } ∷ []) equal ∙ ap (λ fs. fs ++ file_at k.found path ∷ []) files

files_bound : (x x' y y' : Option Held) (path : List ℕ) (file n m : ℕ) → IfSome x (λ h. file ≡ length h.files) → IfSome y (λ h. file ≡ length h.files) → (x ≡ None → x' ≡ None) → (y ≡ None → y' ≡ None)
    → Bound n path x x' → Bound m path y y' → IfBoth x y HaveSameFiles → IfBoth x' y' (HaveSameBytes file) → IfBoth x' y' HaveSameFiles
files_bound None x' y y' path file n m fx fy sx sy bx by_ equal bytes = subst (λ (o : Option Held). IfBoth o y' HaveSameFiles) (sym (sx refl)) tt
files_bound (Some h) x' None y' path file n m fx fy sx sy bx by_ equal bytes =
    subst (λ (o : Option Held). IfBoth o y' HaveSameFiles) (sym bx.1) (subst (λ (o : Option Held). IfSome o (λ k. HaveSameFiles (with_bound h path) k)) (sym (sy refl)) tt)
files_bound (Some h) x' (Some k) y' path file n m fx fy sx sy bx by_ equal bytes =
    let there = subst (λ (o : Option Held). IfSome o (λ b. HaveSameBytes file (with_bound h path) b)) by_.1 (subst (λ (o : Option Held). IfBoth o y' (HaveSameBytes file)) bx.1 bytes) in
    subst (λ (o : Option Held). IfBoth o y' HaveSameFiles) (sym bx.1) (subst (λ (o : Option Held). IfSome o (λ b. HaveSameFiles (with_bound h path) b)) (sym by_.1)
    (same_file h k path file fx fy equal there))

file_is : (x : Option Held) (file bound : ℕ) → file ≡ bound → IfSome x (λ h. bound ≡ length h.files) → IfSome x (λ h. file ≡ length h.files)
file_is None file bound e l = tt
file_is (Some h) file bound e l = e ∙ l

-- ---- the mirror

pub record BindChanges {A B : Type 0} (m m' : Mirrored A B) (result : Result ℕ BindFault) : Type 0 where
  pub is_ready : m'.is_ready ≡ stays_ready result
  pub is_alike : m'.is_alike ≡ m.is_alike
  pub calls : m'.calls ≡ one_more m.calls
  pub faults : m'.faults ≡ (if bind_failed result then one_more m.faults else m.faults)
  pub earlier : m'.earlier ≡ m.faults

pub bind_cause_of : (f f' : ℕ) (result : Result ℕ BindFault) → f < 2 ^ 64 → f' ≡ (if bind_failed result then one_more f else f) → BindHasCause f f' result
bind_cause_of f f' (Ok len) few e = e
bind_cause_of f f' (Err Failed) few e = (omega (arith, e, few), omega (arith, e))
bind_cause_of f f' (Err NoMemory) few e = e

abbrev was_failed : BindFault → Result ℕ BindFault
was_failed fault = Err fault

module _ {A B : Type 0} (told_a : A → DiskTold) (told_b : B → DiskTold) (law_a : (d : A) → IfSome (told_a d).held (λ held. (told_a d).bound ≡ length held.files))
    (law_b : (d : B) → IfSome (told_b d).held (λ held. (told_b d).bound ≡ length held.files)) where
  module _ (m m' : Mirrored A B) (path : List ℕ) (result : Result ℕ BindFault) (k : IsReady told_a told_b m)
      (r : BothBound told_a told_b m.a m.b m'.a m'.b path m.is_even m'.is_even result) where
    between_some : (r.between_a.in_use || r.between_b.in_use) ≡ true
    between_some = some_of r.between_a.in_use _ r.between_b.in_use _ r.use_a r.use_b (one_stays m.a.in_use (has_failed r.of_a) m.b.in_use (has_failed r.of_b) k.some)

    pub after : After told_a told_b r.between_a r.between_b m'.a m'.b ((told_a r.between_a.disk).bound - 1)
    after = after_flag told_a told_b (r.between_a.in_use && r.between_b.in_use) r.between_a r.between_b m'.a m'.b ((told_a r.between_a.disk).bound - 1) refl between_some r.compared

    before_a : r.between_a.in_use ≡ true → m.a.in_use ≡ true
    before_a used = first_was m.a.in_use (has_failed r.of_a) m.b.in_use (has_failed r.of_b) (sym r.use_a ∙ used)

    before_b : r.between_b.in_use ≡ true → m.b.in_use ≡ true
    before_b used = second_was m.a.in_use m.b.in_use (has_failed r.of_b) (sym r.use_b ∙ used)

    -- where one of the two has failed, they are not compared
    failed_apart : (has_failed r.of_a ≡ true) ⊎ (has_failed r.of_b ≡ true) → (r.between_a.in_use && r.between_b.in_use) ≡ false
    failed_apart why = apart (either (r.between_a.in_use && r.between_b.in_use)) where
      apart : ((r.between_a.in_use && r.between_b.in_use) ≡ true) ⊎ ((r.between_a.in_use && r.between_b.in_use) ≡ false) → (r.between_a.in_use && r.between_b.in_use) ≡ false
      apart (inr e) = e
      apart (inl e) =
          let well = both_stay m.a.in_use (has_failed r.of_a) m.b.in_use (has_failed r.of_b) (sym r.use_a ∙ and_first r.between_a.in_use r.between_b.in_use e)
          (sym r.use_b ∙ and_second r.between_a.in_use r.between_b.in_use e) in
          elim why [
            | inl f ↦ absurd (cc (sym f ∙ well.0))
            | inr f ↦ absurd (cc (sym f ∙ well.1))
          ]

    answer_failed : (fault : BindFault) → result ≡ was_failed fault → (has_failed r.of_a ≡ true) ⊎ (has_failed r.of_b ≡ true)
    answer_failed fault e = elim (either m'.a.in_use) [
      | inl used ↦ inl (ap has_failed (first_answers m'.a.in_use r.of_a r.of_b result r.answer used ∙ ap (λ x. Some x) e))
      | inr unused ↦ inr (ap has_failed (second_answers m'.a.in_use r.of_a r.of_b result r.answer unused ∙ ap (λ x. Some x) e))
    ]

    all_bind_failed : (fault : BindFault) → result ≡ was_failed fault → (m.a.in_use ≡ true → has_failed r.of_a ≡ true) × (m.b.in_use ≡ true → has_failed r.of_b ≡ true)
    all_bind_failed fault e =
        let unmoved = after.unmoved (failed_apart (answer_failed fault e)) in
        all_failed m'.a.in_use m.a.in_use m.b.in_use r.of_a r.of_b fault (unmoved ∙ r.use_a) (r.answer ∙ ap (λ x. Some x) e)

    rose_a : has_failed r.of_a ≡ true → Rose (told_a m.a.disk).faults (told_a m'.a.disk).faults
    rose_a failed = rose_first (told_a m.a.disk).faults (told_a r.between_a.disk).faults (told_a m'.a.disk).faults
        (bind_rose told_a told_b told_a m.a r.between_a path r.of_a failed r.given_a r.on_a) after.reads_a.later

    rose_b : has_failed r.of_b ≡ true → Rose (told_b m.b.disk).faults (told_b m'.b.disk).faults
    rose_b failed = rose_first (told_b m.b.disk).faults (told_b r.between_b.disk).faults (told_b m'.b.disk).faults
        (bind_rose told_a told_b told_b m.b r.between_b path r.of_b failed r.given_b r.on_b) after.reads_b.later

    later_a : (told_a m.a.disk).faults ≤ (told_a r.between_a.disk).faults
    later_a = bind_later told_a told_b told_a m.a r.between_a path r.of_a r.given_a r.on_a

    bind_dropped_a : m.a.in_use ≡ true → m'.a.in_use ≡ false → Rose (told_a m.a.disk).faults (told_a m'.a.disk).faults
    bind_dropped_a used out = elim (either r.between_a.in_use) [
      | inl there ↦ rose_on (told_a m.a.disk).faults (told_a r.between_a.disk).faults (told_a m'.a.disk).faults later_a (after.dropped_a there out)
      | inr gone ↦ rose_a (first_dropped m.a.in_use (has_failed r.of_a) m.b.in_use (has_failed r.of_b) used (sym r.use_a ∙ gone)).0
    ]

    later_b : (told_b m.b.disk).faults ≤ (told_b r.between_b.disk).faults
    later_b = bind_later told_a told_b told_b m.b r.between_b path r.of_b r.given_b r.on_b

    -- two sides that found the same do not differ, where the file is short enough to be compared
    not_unlike : m.is_alike ≡ true → AreShort m'.a.lens (told_a m'.a.disk).bound → r.between_a.in_use ≡ true → r.between_b.in_use ≡ true
        → Differs told_a told_b r.between_a r.between_b ((told_a r.between_a.disk).bound - 1) → ⊥
    not_unlike alike short ia ib why =
        let well = both_stay m.a.in_use (has_failed r.of_a) m.b.in_use (has_failed r.of_b) (sym r.use_a ∙ ia) (sym r.use_b ∙ ib) in
        let all_a = k.on_a.whole (before_a ia) in
        let all_b = k.on_b.whole (before_b ib) in
        unlike r.of_a r.of_b (r.called_a ∙ before_a ia) (r.called_b ∙ before_b ib) well.0 well.1 r.on_a r.on_b (all_a ∙ sym all_b) why
      where
        unlike : (of_a of_b : Option (Result ℕ BindFault)) → is_some of_a ≡ true → is_some of_b ≡ true → has_failed of_a ≡ false → has_failed of_b ≡ false
            → SideBinds told_a m.a r.between_a path of_a → SideBinds told_b m.b r.between_b path of_b → (told_a m.a.disk).bound ≡ (told_b m.b.disk).bound
            → Differs told_a told_b r.between_a r.between_b ((told_a r.between_a.disk).bound - 1) → ⊥
        unlike None of_b ca cb wa wb ha hb e why = absurd (cc ca)
        unlike (Some (Err f)) of_b ca cb wa wb ha hb e why = absurd (cc wa)
        unlike (Some (Ok n)) None ca cb wa wb ha hb e why = absurd (cc cb)
        unlike (Some (Ok n)) (Some (Err f)) ca cb wa wb ha hb e why = absurd (cc wb)
        unlike (Some (Ok n)) (Some (Ok o)) ca cb wa wb ha hb e (inl unequal) =
            let s = k.alike alike in
            let more = ha.0.bound in
            let long = found_lens path n o (told_a m.a.disk).held (told_a r.between_a.disk).held (told_b m.b.disk).held (told_b r.between_b.disk).held s.one s.other ha.0.leaves hb.0.leaves
            (s.found (s.even (before_a ia) (before_b ib))) in
            unequal (same_slot m.a.lens m.b.lens r.between_a.lens r.between_b.lens ((told_a r.between_a.disk).bound - 1) (told_a m.a.disk).bound (told_b m.b.disk).bound n o ha.1 hb.1
            (omega (arith, more)) e long (k.on_a.room ∙ sym k.on_b.room))
        unlike (Some (Ok n)) (Some (Ok o)) ca cb wa wb ha hb e (inr (inl over)) =
            let more = ha.0.bound in
            let few = short_read told_a r.between_a m'.a after.reads_a after.lens_a short ((told_a r.between_a.disk).bound - 1) (omega (arith, more)) in
            omega (arith, few, over)
        unlike (Some (Ok n)) (Some (Ok o)) ca cb wa wb ha hb e (inr (inr bytes)) =
            let s = k.alike alike in
            let more = ha.0.bound in
            let file : (told_a r.between_a.disk).bound - 1 ≡ (told_a m.a.disk).bound = omega (arith, more) in
            found_bytes path ((told_a r.between_a.disk).bound - 1) n o (told_a m.a.disk).held (told_a r.between_a.disk).held (told_b m.b.disk).held (told_b r.between_b.disk).held s.one s.other
            (file_is (told_a m.a.disk).held _ (told_a m.a.disk).bound file (law_a m.a.disk)) (file_is (told_b m.b.disk).held _ (told_b m.b.disk).bound (file ∙ e) (law_b m.b.disk))
            ha.0.leaves hb.0.leaves (s.found (s.even (before_a ia) (before_b ib))) bytes

    bind_dropped_b : m.is_alike ≡ true → AreShort m'.a.lens (told_a m'.a.disk).bound → m.b.in_use ≡ true → m'.b.in_use ≡ false → Rose (told_b m.b.disk).faults (told_b m'.b.disk).faults
    bind_dropped_b alike short used out = elim (either r.between_b.in_use) [
      | inl there ↦ elim (after.dropped_b there out) [
        | inl rose ↦ rose_on (told_b m.b.disk).faults (told_b r.between_b.disk).faults (told_b m'.b.disk).faults later_b rose
        | inr why ↦ absurd (not_unlike alike short why.0 there why.1)
      ]
      | inr gone ↦ rose_b (second_dropped m.a.in_use m.b.in_use (has_failed r.of_b) used (sym r.use_b ∙ gone))
    ]

    bind_fault : (res : Result ℕ BindFault) → result ≡ res → bind_failed res ≡ true → result ≡ was_failed Failed
    bind_fault (Ok len) e failed = absurd (cc failed)
    bind_fault (Err Failed) e failed = e
    bind_fault (Err NoMemory) e failed = absurd (cc failed)

    pub bind_uses : Uses told_a told_b m m' (bind_failed result)
    bind_uses = record {
      some = after.some;
      was_a = λ used. before_a (after.was_a used);
      was_b = λ used. before_b (after.was_b used);
      later_a = omega (arith, later_a, after.reads_a.later);
      later_b = omega (arith, later_b, after.reads_b.later);
      short = λ short. short_bind told_a m.a r.between_a path r.of_a r.on_a (short_read told_a r.between_a m'.a after.reads_a after.lens_a short);
      dropped_a = bind_dropped_a;
      dropped_b = bind_dropped_b;
      blame_a = λ failed used. rose_a ((all_bind_failed Failed (bind_fault result refl failed)).0 used);
      blame_b = λ failed used. rose_b ((all_bind_failed Failed (bind_fault result refl failed)).1 used);
    }

    -- a side that stays has not failed where the mirror has not
    first_well : (len : ℕ) → result ≡ Ok len → m'.a.in_use ≡ true → has_failed r.of_a ≡ false
    first_well len e used = ap has_failed (first_answers m'.a.in_use r.of_a r.of_b result r.answer used ∙ ap (λ x. Some x) e)

    second_well : (len : ℕ) → result ≡ Ok len → m'.b.in_use ≡ true → has_failed r.of_b ≡ false
    second_well len e used = elim (either m'.a.in_use) [
      | inl both ↦ (both_stay m.a.in_use (has_failed r.of_a) m.b.in_use (has_failed r.of_b) (sym r.use_a ∙ after.was_a both) (sym r.use_b ∙ after.was_b used)).1
      | inr alone ↦ ap has_failed (second_answers m'.a.in_use r.of_a r.of_b result r.answer alone ∙ ap (λ x. Some x) e)
    ]

    -- both have bound the file, and the bytes are the same
    pub bind_equal : IfBoth (told_a m.a.disk).held (told_b m.b.disk).held HaveSameFiles → m'.a.in_use ≡ true → m'.b.in_use ≡ true → IfBoth (told_a m'.a.disk).held (told_b m'.b.disk).held HaveSameFiles
    bind_equal equal ua ub =
        let ia = after.was_a ua in
        let ib = after.was_b ub in
        let well = both_stay m.a.in_use (has_failed r.of_a) m.b.in_use (has_failed r.of_b) (sym r.use_a ∙ ia) (sym r.use_b ∙ ib) in
        let all_a = k.on_a.whole (before_a ia) in
        let all_b = k.on_b.whole (before_b ib) in
        both_go KeepsAll KeepsAll HaveSameFiles HaveSameFiles (λ h h' o o' s t e. s.0 ∙ e ∙ sym t.0) (told_a r.between_a.disk).held (told_a m'.a.disk).held (told_b r.between_b.disk).held
        (told_b m'.b.disk).held
        (read_goes (told_a r.between_a.disk) (told_a m'.a.disk) after.reads_a) (read_goes (told_b r.between_b.disk) (told_b m'.b.disk) after.reads_b)
        (bound_both r.of_a r.of_b (r.called_a ∙ before_a ia) (r.called_b ∙ before_b ib) well.0 well.1 r.on_a r.on_b (all_a ∙ sym all_b) equal (after.equal ua ub))
      where
        bound_both : (of_a of_b : Option (Result ℕ BindFault)) → is_some of_a ≡ true → is_some of_b ≡ true → has_failed of_a ≡ false → has_failed of_b ≡ false
            → SideBinds told_a m.a r.between_a path of_a → SideBinds told_b m.b r.between_b path of_b → (told_a m.a.disk).bound ≡ (told_b m.b.disk).bound
            → IfBoth (told_a m.a.disk).held (told_b m.b.disk).held HaveSameFiles
            → IfBoth (told_a r.between_a.disk).held (told_b r.between_b.disk).held (HaveSameBytes ((told_a r.between_a.disk).bound - 1))
            → IfBoth (told_a r.between_a.disk).held (told_b r.between_b.disk).held HaveSameFiles
        bound_both None of_b ca cb wa wb ha hb e eq bytes = absurd (cc ca)
        bound_both (Some (Err f)) of_b ca cb wa wb ha hb e eq bytes = absurd (cc wa)
        bound_both (Some (Ok n)) None ca cb wa wb ha hb e eq bytes = absurd (cc cb)
        bound_both (Some (Ok n)) (Some (Err f)) ca cb wa wb ha hb e eq bytes = absurd (cc wb)
        bound_both (Some (Ok n)) (Some (Ok o)) ca cb wa wb ha hb e eq bytes =
            let more = ha.0.bound in
            let file : (told_a r.between_a.disk).bound - 1 ≡ (told_a m.a.disk).bound = omega (arith, more) in
            files_bound (told_a m.a.disk).held (told_a r.between_a.disk).held (told_b m.b.disk).held (told_b r.between_b.disk).held path ((told_a r.between_a.disk).bound - 1) n o
            (file_is (told_a m.a.disk).held _ (told_a m.a.disk).bound file (law_a m.a.disk)) (file_is (told_b m.b.disk).held _ (told_b m.b.disk).bound (file ∙ e) (law_b m.b.disk))
            ha.0.silent hb.0.silent ha.0.leaves hb.0.leaves eq bytes

    even_parts : (e f g : Bool) → (e && not f && not g) ≡ true → (e ≡ true) × (f ≡ false) × (g ≡ false)
    even_parts true false false h = (refl, refl, refl)
    even_parts true false true h = absurd (cc h)
    even_parts true true g h = absurd (cc h)
    even_parts false f g h = absurd (cc h)

    parts_even : (e f g : Bool) → e ≡ true → f ≡ false → g ≡ false → (e && not f && not g) ≡ true
    parts_even true false false a b c = refl
    parts_even true false true a b c = absurd (cc c)
    parts_even true true g a b c = absurd (cc b)
    parts_even false f g a b c = absurd (cc a)

    tells_a : is_some (told_a m.a.disk).held ≡ true → is_some (told_a m'.a.disk).held ≡ true
    tells_a some = some_goes KeepsAll (told_a r.between_a.disk).held (told_a m'.a.disk).held (read_goes (told_a r.between_a.disk) (told_a m'.a.disk) after.reads_a).goes
        (some_goes (λ _ _. ⊤) (told_a m.a.disk).held (told_a r.between_a.disk).held (bind_tells told_a m.a r.between_a path r.of_a r.given_a r.on_a) some)

    tells_b : is_some (told_b m.b.disk).held ≡ true → is_some (told_b m'.b.disk).held ≡ true
    tells_b some = some_goes KeepsAll (told_b r.between_b.disk).held (told_b m'.b.disk).held (read_goes (told_b r.between_b.disk) (told_b m'.b.disk) after.reads_b).goes
        (some_goes (λ _ _. ⊤) (told_b m.b.disk).held (told_b r.between_b.disk).held (bind_tells told_b m.b r.between_b path r.of_b r.given_b r.on_b) some)

    found_a : has_failed r.of_a ≡ false → GoesOn KeepsFound (told_a m.a.disk).held (told_a m'.a.disk).held
    found_a well = goes_on_then KeepsFound KeepsAll KeepsFound (λ h i j s t. t.1 ∙ s) (told_a m.a.disk).held (told_a r.between_a.disk).held (told_a m'.a.disk).held
        (bind_found told_a m.a r.between_a path r.of_a well r.on_a) (read_goes (told_a r.between_a.disk) (told_a m'.a.disk) after.reads_a)

    found_b : has_failed r.of_b ≡ false → GoesOn KeepsFound (told_b m.b.disk).held (told_b m'.b.disk).held
    found_b well = goes_on_then KeepsFound KeepsAll KeepsFound (λ h i j s t. t.1 ∙ s) (told_b m.b.disk).held (told_b r.between_b.disk).held (told_b m'.b.disk).held
        (bind_found told_b m.b r.between_b path r.of_b well r.on_b) (read_goes (told_b r.between_b.disk) (told_b m'.b.disk) after.reads_b)

    -- what holds whichever the paths are
    bind_ready : (paths : List (List ℕ)) → m'.paths ≡ paths → AllPairs (λ (p q : List ℕ). p ≢ q) paths → IsKept told_a m'.a paths → IsKept told_b m'.b paths → m'.is_alike ≡ m.is_alike
        → m'.faults ≡ (if bind_failed result then one_more m.faults else m.faults) → IsReady told_a told_b m'
    bind_ready paths e apart on_a on_b alike faults = record {
      some = after.some;
      differ = subst (AllPairs (λ (p q : List ℕ). p ≢ q)) (sym e) apart;
      on_a = subst (IsKept told_a m'.a) (sym e) on_a;
      on_b = subst (IsKept told_b m'.b) (sym e) on_b;
      equal = λ ua ub. bind_equal (k.equal (before_a (after.was_a ua)) (before_b (after.was_b ub))) ua ub;
      alike = λ l. let s = k.alike (sym alike ∙ l) in record {
        one = tells_a s.one;
        other = tells_b s.other;
        found = λ even. let p = even_parts m.is_even (has_failed r.of_a) (has_failed r.of_b) (sym r.even_is ∙ even) in
            both_go KeepsFound KeepsFound (λ x y. x.found ≡ y.found) (λ x y. x.found ≡ y.found) (λ h h' o o' s t e. s ∙ e ∙ sym t)
            (told_a m.a.disk).held (told_a m'.a.disk).held (told_b m.b.disk).held (told_b m'.b.disk).held (found_a p.1) (found_b p.2) (s.found p.0);
        even = λ ua ub.
            let ia = after.was_a ua in
            let ib = after.was_b ub in
            let well = both_stay m.a.in_use (has_failed r.of_a) m.b.in_use (has_failed r.of_b) (sym r.use_a ∙ ia) (sym r.use_b ∙ ib) in
            r.even_is ∙ parts_even m.is_even (has_failed r.of_a) (has_failed r.of_b) (s.even (before_a ia) (before_b ib)) well.0 well.1;
      };
      first = first_next told_a told_b m m' (bind_failed result) bind_uses faults k.first;
      second = second_next told_a told_b m m' (bind_failed result) bind_uses faults alike k.second;
    }

    kept_a_ok : (len : ℕ) → result ≡ Ok len → length m.paths < 16 → IsKept told_a m'.a (m.paths ++ path ∷ [])
    kept_a_ok len e few = kept_ok told_a told_b told_a law_a m.a r.between_a m'.a m.paths path r.of_a k.on_a few r.called_a r.given_a r.on_a after.reads_a after.lens_a after.was_a before_a
        (first_well len e)

    kept_b_ok : (len : ℕ) → result ≡ Ok len → length m.paths < 16 → IsKept told_b m'.b (m.paths ++ path ∷ [])
    kept_b_ok len e few = kept_ok told_a told_b told_b law_b m.b r.between_b m'.b m.paths path r.of_b k.on_b few r.called_b r.given_b r.on_b after.reads_b after.lens_b after.was_b before_b
        (second_well len e)

    kept_a_err : (fault : BindFault) → result ≡ was_failed fault → IsKept told_a m'.a m.paths
    kept_a_err fault e = kept_err told_a told_b told_a law_a m.a r.between_a m'.a m.paths path r.of_a k.on_a r.called_a r.given_a r.on_a after.reads_a after.lens_a after.was_a before_a
        (all_bind_failed fault e).0

    kept_b_err : (fault : BindFault) → result ≡ was_failed fault → IsKept told_b m'.b m.paths
    kept_b_err fault e = kept_err told_a told_b told_b law_b m.b r.between_b m'.b m.paths path r.of_b k.on_b r.called_b r.given_b r.on_b after.reads_b after.lens_b after.was_b before_b
        (all_bind_failed fault e).1

    pub ready_after : (res : Result ℕ BindFault) → result ≡ res → length m.paths < 16 → m'.paths ≡ paths_after m.paths path res → AllPairs (λ (p q : List ℕ). p ≢ q) (paths_after m.paths path res)
        → BindChanges m m' result
        → IsReady told_a told_b m'
    ready_after (Ok len) e few paths apart ch = bind_ready (m.paths ++ path ∷ []) paths apart (kept_a_ok len e few) (kept_b_ok len e few) ch.is_alike ch.faults
    ready_after (Err fault) e few paths apart ch = bind_ready m.paths paths apart (kept_a_err fault e) (kept_b_err fault e) ch.is_alike ch.faults
