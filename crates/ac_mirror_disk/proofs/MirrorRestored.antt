-- What a rebuilding makes of a mirror: it stays sound, whichever side was rebuilt.
use Rattle.std.proofs.Common.{◌≡◌, ◌≢◌, ℕ, Bool, true, false, ◌≤◌, List, length, None, Some, refl, sym, ap, ◌∙◌, subst}
use Rattle.std.specs.Prelude.{◌&&◌, ◌||◌, AllPairs, is_some}
use Rattle.std.specs.declared.option.Option.{Option}
use Rattle.ac_outside.specs.Disks.{DiskTold, Held}
use Rattle.ac_mirror_disk.specs.declared.side.Side.{Side}
use Rattle.ac_mirror_disk.specs.declared.rebuilding.Rebuilt.{Rebuilt}
use Rattle.ac_mirror_disk.specs.declared.rebuilding.Rebuilt.TheVariants.{Both, Fault, Longer, NoMemory}
use Rattle.ac_mirror_disk.specs.Pairs.{IfBoth, HaveSameFiles}
use Rattle.ac_mirror_disk.specs.Mirrors.{Mirrored}
use Rattle.ac_mirror_disk.specs.Rebuilding.{Rebuilds, refused, unbound, longer, torn, copied, AreShort, MayRebuild, alike_after, ready_after}
use Rattle.ac_mirror_disk.specs.inner.Restoring.{HaveSameFound, RebuildsSides, nothing, second, first}
use Rattle.ac_mirror_disk.specs.Sound.{IsBlamed, IsKept, IsReady, IsSound}
use Rattle.ac_mirror_disk.proofs.Steps.{blamed_next}

or_first : (x y : Bool) → x ≡ true → (x || y) ≡ true
or_first true y e = refl
or_first false y e = absurd (cc e)

or_second : (x y : Bool) → y ≡ true → (x || y) ≡ true
or_second true y e = refl
or_second false y e = e

and_first : (x y : Bool) → (x && y) ≡ true → x ≡ true
and_first true y e = refl
and_first false y e = absurd (cc e)

and_second : (x y : Bool) → (x && y) ≡ true → y ≡ true
and_second true y e = e
and_second false y e = absurd (cc e)

alike_was : (result : Rebuilt) (alike even : Bool) → alike_after result alike even ≡ true → alike ≡ true
alike_was Both alike even e = and_first alike even e
alike_was Fault alike even e = e
alike_was (Longer file) alike even e = e
alike_was NoMemory alike even e = e

even_then : (result : Rebuilt) (alike even : Bool) → result ≡ Both → alike_after result alike even ≡ true → even ≡ true
even_then result alike even e l = and_second alike even (sym (ap (λ r. alike_after r alike even) e) ∙ l)

flip : (P Q : Held → Held → Type 0) → ((h k : Held) → P h k → Q k h) → (x y : Option Held) → IfBoth x y P → IfBoth y x Q
flip P Q f None None h = tt
flip P Q f None (Some k) h = tt
flip P Q f (Some h) None i = tt
flip P Q f (Some h) (Some k) i = f h k i

ready_is : (result : Rebuilt) → ready_after result ≡ true → result ≢ NoMemory
ready_is result e f = let no : true ≡ false = sym e ∙ ap ready_after f in absurd (cc no)

module _ {S T : Type 0} (told_s : S → DiskTold) (told_t : T → DiskTold) where
  -- a side that is in use again was copied onto
  copied_then : (s s' : Side S) (t t' : Side T) (count : ℕ) (result : Rebuilt) → result ≢ NoMemory → Rebuilds told_s told_t s s' t t' count result → t'.in_use ≡ true
      → (result ≡ Both) × IfBoth (told_s s'.disk).held (told_t t'.disk).held HaveSameFiles
  copied_then s s' t t' count result some (refused e same out ready) used = absurd (some e)
  copied_then s s' t t' count result some (unbound e same out only rose) used = absurd (cc (sym used ∙ out))
  copied_then s s' t t' count result some (longer file e is same out only all later) used = absurd (cc (sym used ∙ out))
  copied_then s s' t t' count result some (torn between e only all none out still rose) used = absurd (cc (sym used ∙ out))
  copied_then s s' t t' count result some (copied between e only all none now still equal) used = (e, equal)

module _ {A B : Type 0} (told_a : A → DiskTold) (told_b : B → DiskTold) (m m' : Mirrored A B) (result : Rebuilt) where
  pub rebuilt_ready : IsReady told_a told_b m → result ≢ NoMemory → RebuildsSides told_a told_b m.a m'.a m.b m'.b m.paths m.is_even m'.is_even result → m'.paths ≡ m.paths
      → m'.is_alike ≡ alike_after result m.is_alike m'.is_even → m'.faults ≡ m.faults → IsReady told_a told_b m'
  rebuilt_ready k some (nothing ua ub ea eb ee er) paths alike faults = record {
    some = or_first m'.a.in_use m'.b.in_use (ap (λ (s : Side A). s.in_use) ea ∙ ua);
    differ = subst (AllPairs (λ (p q : List ℕ). p ≢ q)) (sym paths) k.differ;
    on_a = subst (λ s. IsKept told_a s m'.paths) (sym ea) (subst (IsKept told_a m.a) (sym paths) k.on_a);
    on_b = subst (λ s. IsKept told_b s m'.paths) (sym eb) (subst (IsKept told_b m.b) (sym paths) k.on_b);
    equal = λ _ _. subst (λ (s : Side A). IfBoth (told_a s.disk).held (told_b m'.b.disk).held HaveSameFiles) (sym ea)
        (subst (λ (s : Side B). IfBoth (told_a m.a.disk).held (told_b s.disk).held HaveSameFiles) (sym eb) (k.equal ua ub));
    alike = λ l. let s = k.alike (alike_was result m.is_alike m'.is_even (sym alike ∙ l)) in record {
      one = subst (λ (t : Side A). is_some (told_a t.disk).held ≡ true) (sym ea) s.one;
      other = subst (λ (t : Side B). is_some (told_b t.disk).held ≡ true) (sym eb) s.other;
      found = λ even. subst (λ (t : Side A). IfBoth (told_a t.disk).held (told_b m'.b.disk).held (λ x y. x.found ≡ y.found)) (sym ea)
          (subst (λ (t : Side B). IfBoth (told_a m.a.disk).held (told_b t.disk).held (λ x y. x.found ≡ y.found)) (sym eb) (s.found (sym ee ∙ even)));
      even = λ _ _. ee ∙ s.even ua ub;
    };
    first = subst (λ (s : Side A). IsBlamed told_a s m'.faults) (sym ea) (subst (IsBlamed told_a m.a) (sym faults) k.first);
    second = λ l short. subst (λ (s : Side B). IsBlamed told_b s m'.faults) (sym eb) (subst (IsBlamed told_b m.b) (sym faults)
        (k.second (alike_was result m.is_alike m'.is_even (sym alike ∙ l)) (subst (λ (s : Side A). AreShort s.lens (told_a s.disk).bound) ea short)));
  }
  rebuilt_ready k some (second ua ub r restores) paths alike faults =
      let re = restores some in
      let used : m'.a.in_use ≡ true = re.in_use ∙ ua in
      record {
        some = or_first m'.a.in_use m'.b.in_use used;
        differ = subst (AllPairs (λ (p q : List ℕ). p ≢ q)) (sym paths) k.differ;
        on_a = subst (IsKept told_a m'.a) (sym paths) re.kept_s;
        on_b = subst (IsKept told_b m'.b) (sym paths) re.kept_t;
        equal = λ _ b. (copied_then told_a told_b m.a m'.a m.b m'.b (length m.paths) result some r b).1;
        alike = λ l. let s = k.alike (alike_was result m.is_alike m'.is_even (sym alike ∙ l)) in record {
          one = re.tells_s s.one;
          other = re.tells_t s.other;
          found = λ even. re.found even (s.found (re.was_even even));
          even = λ _ b. even_then result m.is_alike m'.is_even (copied_then told_a told_b m.a m'.a m.b m'.b (length m.paths) result some r b).0 (sym alike ∙ l);
        };
        first = blamed_next told_a m.a m'.a re.later_s m.faults m'.faults false faults (λ _ out. absurd (cc (sym used ∙ out))) (λ no. absurd (cc no)) k.first;
        second = λ l short. blamed_next told_b m.b m'.b re.later_t m.faults m'.faults false faults (λ was _. absurd (cc (sym was ∙ ub))) (λ no. absurd (cc no))
            (k.second (alike_was result m.is_alike m'.is_even (sym alike ∙ l)) (re.short_s short));
      }
  rebuilt_ready k some (first ua ub r restores) paths alike faults =
      let re = restores some in
      let used : m'.b.in_use ≡ true = re.in_use ∙ ub in
      record {
        some = or_second m'.a.in_use m'.b.in_use used;
        differ = subst (AllPairs (λ (p q : List ℕ). p ≢ q)) (sym paths) k.differ;
        on_a = subst (IsKept told_a m'.a) (sym paths) re.kept_t;
        on_b = subst (IsKept told_b m'.b) (sym paths) re.kept_s;
        equal = λ a _. flip HaveSameFiles HaveSameFiles (λ h k e. sym e) (told_b m'.b.disk).held (told_a m'.a.disk).held (copied_then told_b told_a m.b m'.b m.a m'.a
            (length m.paths) result some r a).1;
        alike = λ l. let s = k.alike (alike_was result m.is_alike m'.is_even (sym alike ∙ l)) in record {
          one = re.tells_t s.one;
          other = re.tells_s s.other;
          found = λ even. flip HaveSameFound HaveSameFound (λ h k e. sym e) (told_b m'.b.disk).held (told_a m'.a.disk).held
              (re.found even (flip HaveSameFound HaveSameFound (λ h k e. sym e) (told_a m.a.disk).held (told_b m.b.disk).held (s.found (re.was_even even))));
          even = λ a _. even_then result m.is_alike m'.is_even (copied_then told_b told_a m.b m'.b m.a m'.a (length m.paths) result some r a).0 (sym alike ∙ l);
        };
        first = blamed_next told_a m.a m'.a re.later_t m.faults m'.faults false faults (λ was _. absurd (cc (sym was ∙ ua))) (λ no. absurd (cc no)) k.first;
        second = λ l short. blamed_next told_b m.b m'.b re.later_s m.faults m'.faults false faults (λ _ out. absurd (cc (sym used ∙ out))) (λ no. absurd (cc no))
            (k.second (alike_was result m.is_alike m'.is_even (sym alike ∙ l)) (re.short_t short));
      }

  pub rebuilt_sound : IsSound told_a told_b m → m.is_ready ≡ true → RebuildsSides told_a told_b m.a m'.a m.b m'.b m.paths m.is_even m'.is_even result → m'.paths ≡ m.paths
      → m'.is_alike ≡ alike_after result m.is_alike m'.is_even → m'.is_ready ≡ ready_after result → m'.faults ≡ m.faults → IsSound told_a told_b m'
  rebuilt_sound sound ready r paths alike stays faults = record {
    few = subst (λ (ps : List (List ℕ)). length ps ≤ 16) (sym paths) sound.few;
    ready = λ still. rebuilt_ready (sound.ready ready) (ready_is result (sym stays ∙ still)) r paths alike faults;
  }

-- ---- the clauses, of the value before and the sides after

module _ {A B : Type 0} (told_a : A → DiskTold) (told_b : B → DiskTold) where
  pub record RebuildSays (v : Mirrored A B) (a' : Side A) (b' : Side B) (result : Rebuilt) : Type 0 where
    pub nothing_done : v.a.in_use ≡ true → v.b.in_use ≡ true → (result ≡ Both) × (a' ≡ v.a) × (b' ≡ v.b)
    pub second_done : v.a.in_use ≡ true → v.b.in_use ≡ false → Rebuilds told_a told_b v.a a' v.b b' (length v.paths) result
    pub first_done : v.a.in_use ≡ false → Rebuilds told_b told_a v.b b' v.a a' (length v.paths) result
    pub tells : result ≢ NoMemory → (is_some (told_a v.a.disk).held ≡ true → is_some (told_a a'.disk).held ≡ true) × (is_some (told_b v.b.disk).held ≡ true → is_some (told_b b'.disk).held ≡ true)

  says_by : (m : Mirrored A B) (a' : Side A) (b' : Side B) (even' : Bool) (result : Rebuilt) → RebuildsSides told_a told_b m.a a' m.b b' m.paths m.is_even even' result → RebuildSays m a' b' result
  says_by m a' b' even' result (nothing ua ub ea eb ee er) = record {
    nothing_done = λ _ _. (er, ea, eb);
    second_done = λ _ out. absurd (cc (sym ub ∙ out));
    first_done = λ out. absurd (cc (sym ua ∙ out));
    tells = λ _. (λ some. ap (λ (t : Side A). is_some (told_a t.disk).held) ea ∙ some, λ some. ap (λ (t : Side B). is_some (told_b t.disk).held) eb ∙ some);
  }
  says_by m a' b' even' result (second ua ub r restores) = record {
    nothing_done = λ _ used. absurd (cc (sym used ∙ ub));
    second_done = λ _ _. r;
    first_done = λ out. absurd (cc (sym ua ∙ out));
    tells = λ some. ((restores some).tells_s, (restores some).tells_t);
  }
  says_by m a' b' even' result (first ua ub r restores) = record {
    nothing_done = λ used _. absurd (cc (sym used ∙ ua));
    second_done = λ used _. absurd (cc (sym used ∙ ua));
    first_done = λ _. r;
    tells = λ some. ((restores some).tells_t, (restores some).tells_s);
  }

  pub rebuild_says : (m v : Mirrored A B) (a' : Side A) (b' : Side B) (even' : Bool) (result : Rebuilt) → m ≡ v → RebuildsSides told_a told_b m.a a' m.b b' m.paths m.is_even even' result
      → RebuildSays v a' b' result
  rebuild_says m v a' b' even' result e r = subst (λ x. RebuildSays x a' b' result) e (says_by m a' b' even' result r)

-- ---- what is asked of the value, of the fields

pub may_as : {A B : Type 0} (m v : Mirrored A B) → m ≡ v → MayRebuild v → MayRebuild m
may_as m v e may = subst MayRebuild (sym e) may
