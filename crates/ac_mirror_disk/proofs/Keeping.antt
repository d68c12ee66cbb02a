-- What each side of a mirror keeps: its files have the paths of the mirror, and the lengths that are noted of them. A read changes neither, a
-- write the length of one file, and a bind puts a file and its length behind the others.
use Rattle.std.proofs.Common.{◌≡◌, ◌≢◌, ◌⊎◌, ℕ, true, false, ◌+◌, ◌-◌, ◌^◌, ◌<◌, ◌≤◌, min, max, List, []}
use Rattle.std.proofs.Common.{◌∷◌, ◌++◌, take, drop, length, None, Some, refl, sym, ap, ◌∙◌, subst, inl, inr, arith}
use Rattle.std.specs.Prelude.{IfSome, is_some, slice_index, slice_set, replicate, Ok, Err, ⊤}
use Rattle.std.specs.declared.option.Option.{Option}
use Rattle.std.specs.declared.result.Result.{Result}
use Rattle.std.proofs.Math.Seq.{map-set_same}
use Rattle.std.proofs.lemmas.List.{take_all, take-append-le, get_or-set_same, get_or-set_other, get_or_append_left, length-set}
use Rattle.std.proofs.lemmas.List.{length-append, length-take, length-drop, length-replicate, map-append}
use Rattle.file_bytes.specs.Overwritten.{overwritten}
use Rattle.ac_outside.specs.declared.failed.BindFault.TheVariants.{Failed}
use Rattle.ac_outside.specs.declared.failed.Failed.{Failed as Failed_read}
use Rattle.ac_outside.specs.declared.failed.Torn.{Torn}
use Rattle.ac_outside.specs.declared.shelf.NamedBytes.{NamedBytes}
use Rattle.ac_outside.specs.Disks.{DiskTold, Held, called, with_bound, with_made, with_written}
use Rattle.ac_outside.specs.Files.{bytes_in, file_at, file_of, told_length}
use Rattle.ac_mirror_disk.specs.declared.side.Side.{Side}
use Rattle.ac_mirror_disk.specs.Sides.{SideBinds, SideReads, SideWrites, IsLeft, grown, lens_written}
use Rattle.ac_mirror_disk.specs.Pairs.{OnlyReads}
use Rattle.ac_mirror_disk.specs.Sound.{AreLengths, HasPaths, IsKept}
use Rattle.ac_mirror_disk.proofs.ReadOnly.{Holds, not_read, read_by}
use Rattle.ac_mirror_disk.proofs.LastFile.{the_last}

-- ---- a fact on what is held, later

-- nothing is told later where nothing was told
pub none_later : (P : Held → Type 0) (x x' : Option Held) → (x ≡ None → x' ≡ None) → x ≡ None → IfSome x' P
none_later P x x' silent e = subst (λ (o : Option Held). IfSome o P) (sym (silent e)) tt

pub still : (P : Held → Type 0) → ((h : Held) (n : ℕ) → P h → P (record h { calls = n })) → (x x' : Option Held) → Holds x x' → (x ≡ None → x' ≡ None) → IfSome x P → IfSome x' P
still P same None x' holds silent h = none_later P None x' silent refl
still P same (Some held) x' holds silent h = subst (λ (o : Option Held). IfSome o P) (sym holds.1) (same held holds.0 h)

-- what is held then is made of what was held
pub remade : (P Q : Held → Type 0) (F : Held → Held) → ((h : Held) → P h → Q (F h)) → (x x' : Option Held) → IfSome x (λ h. x' ≡ Some (F h)) → (x ≡ None → x' ≡ None) → IfSome x P → IfSome x' Q
remade P Q F make None x' is silent h = none_later Q None x' silent refl
remade P Q F make (Some held) x' is silent h = subst (λ (o : Option Held). IfSome o Q) (sym is) (make held h)

pub if_both : (P Q R : Held → Type 0) (x : Option Held) → ((h : Held) → P h → Q h → R h) → IfSome x P → IfSome x Q → IfSome x R
if_both P Q R None f p q = tt
if_both P Q R (Some h) f p q = f h p q

-- ---- writes

four : (a b c d : List ℕ) → length (a ++ b ++ c ++ d) ≡ length a + length b + length c + length d
four a b c d = length-append (a ++ b ++ c) d ∙ ap (λ n. n + length d) (length-append (a ++ b) c ∙ ap (λ n. n + length c) (length-append a b))

-- the length of a file that was written
pub grown_is : (bytes : List ℕ) (from : ℕ) (more : List ℕ) → from + length more ≤ 1048576 → grown (told_length bytes) from (length more) ≡ told_length (overwritten bytes from more)
grown_is bytes from [] few = refl
grown_is bytes from (b ∷ bs) few =
    let end : ℕ = from + length (b ∷ bs) in
    let gap : List ℕ = replicate (from - length bytes) 0 in
    let parts : length (overwritten bytes from (b ∷ bs)) ≡ length (take from bytes) + length gap + length (b ∷ bs) + length (drop end bytes) = four (take from bytes) gap (b ∷ bs) (drop end bytes) in
    let front : length (take from bytes) ≡ min from (length bytes) = length-take from bytes in
    let between : length gap ≡ from - length bytes = length-replicate {A = ℕ} (from - length bytes) 0 in
    let back : length (drop end bytes) ≡ length bytes - end = length-drop end bytes in
    let whole : length (overwritten bytes from (b ∷ bs)) ≡ max (length bytes) end = omega (arith, parts, front, between, back) in
    let long : max (min (length bytes) (2 ^ 32 - 1)) end ≡ min (max (length bytes) end) (2 ^ 32 - 1) = omega (arith, few) in
    long ∙ ap (λ n. min n (2 ^ 32 - 1)) (sym whole)

paths_written : (paths : List (List ℕ)) (file from : ℕ) (bytes : List ℕ) (h : Held) → HasPaths paths h → HasPaths paths (with_written h file from bytes)
paths_written paths file from bytes h p =
    let none : NamedBytes = record { name = []; bytes = [] } in
    let now : NamedBytes = record { name = (file_of h.files file).name; bytes = overwritten (file_of h.files file).bytes from bytes } in
    map-set_same (λ (f : NamedBytes). f.name) h.files file now none refl ∙ p ∙ ap (λ n. take n paths) (sym (length-set h.files file now))

lengths_written : (lens : List ℕ) (file from : ℕ) (bytes : List ℕ) (h : Held) → file < length h.files → length h.files ≤ length lens → from + length bytes ≤ 1048576
    → AreLengths lens h → AreLengths (slice_set lens file (grown (slice_index lens file) from (length bytes))) (with_written h file from bytes)
lengths_written lens file from bytes h less room few are k there =
    let none : NamedBytes = record { name = []; bytes = [] } in
    let now : NamedBytes = record { name = (file_of h.files file).name; bytes = overwritten (file_of h.files file).bytes from bytes } in
    let same : length (slice_set h.files file now) ≡ length h.files = length-set h.files file now in
    let within : file < length lens = omega (arith, less, room) in
    let here : k < length h.files = omega (arith, there, same) in
    elim (equal_or_not k file) [
      | inl e ↦
          ap (slice_index (slice_set lens file (grown (slice_index lens file) from (length bytes)))) e ∙ get_or-set_same lens file (grown (slice_index lens file) from (length bytes)) 0 within
          ∙ ap (λ n. grown n from (length bytes)) (are file less) ∙ grown_is (file_of h.files file).bytes from bytes few
          ∙ ap (λ (f : NamedBytes). told_length f.bytes) (sym (ap (file_of (slice_set h.files file now)) e ∙ get_or-set_same h.files file now none less))
      | inr n ↦ get_or-set_other lens file k (grown (slice_index lens file) from (length bytes)) 0 n ∙ are k here
          ∙ ap (λ (f : NamedBytes). told_length f.bytes) (sym (get_or-set_other h.files file k now none n))
    ]
  where
    equal_or_not : (k file : ℕ) → (k ≡ file) ⊎ (k ≢ file)
    equal_or_not k file = grind arith

-- ---- binds

paths_bound : (paths : List (List ℕ)) (path : List ℕ) (h : Held) → length h.files ≡ length paths → HasPaths paths h → HasPaths (paths ++ path ∷ []) (with_bound h path)
paths_bound paths path h n p =
    let all : take (length (h.files ++ file_at h.found path ∷ [])) (paths ++ path ∷ []) ≡ paths ++ path ∷ [] =
    take_all (length (h.files ++ file_at h.found path ∷ [])) (paths ++ path ∷ []) (omega (arith, n, length-append h.files (file_at h.found path ∷ []), length-append paths (path ∷ []))) in
    map-append (λ (f : NamedBytes). f.name) h.files (file_at h.found path ∷ [])
    ∙ ap (λ names. names ++ path ∷ []) (p ∙ take_all (length h.files) paths (omega (arith, n))) ∙ sym all

paths_more : (paths : List (List ℕ)) (path : List ℕ) (h : Held) → length h.files ≤ length paths → HasPaths paths h → HasPaths (paths ++ path ∷ []) h
paths_more paths path h n p = p ∙ sym (take-append-le (length h.files) paths (path ∷ []) n)

pub lengths_bound : (lens : List ℕ) (path : List ℕ) (bound len : ℕ) (h : Held) → bound ≡ length h.files → bound < length lens → len ≡ told_length (file_at h.found path).bytes
    → AreLengths lens h → AreLengths (slice_set lens bound len) (with_bound h path)
lengths_bound lens path bound len h e room l are k there =
    let file = file_at h.found path in
    let none : NamedBytes = record { name = []; bytes = [] } in
    let more : length (h.files ++ file ∷ []) ≡ length h.files + 1 = length-append h.files (file ∷ []) in
    elim (last_or_before k bound) [
      | inl is ↦ ap (slice_index (slice_set lens bound len)) is ∙ get_or-set_same lens bound len 0 room ∙ l
          ∙ ap (λ (f : NamedBytes). told_length f.bytes) (sym (the_last h.files file k (is ∙ e)))
      | inr n ↦
          let before : k < length h.files = omega (arith, there, more, e, n) in
          get_or-set_other lens bound k len 0 n ∙ are k before ∙ ap (λ (f : NamedBytes). told_length f.bytes) (sym (get_or_append_left h.files (file ∷ []) none k before))
    ]
  where
    last_or_before : (k bound : ℕ) → (k ≡ bound) ⊎ (k ≢ bound)
    last_or_before k bound = grind arith

-- a bind that failed has changed no bound file
failed_still : (P : Held → Type 0) → ((h : Held) (found : List ℕ → Option (List ℕ)) (n : ℕ) → P h → P (record { files = h.files; found = found; calls = n })) → (path : List ℕ) (x x' : Option Held)
    → IfSome x (λ h. (x' ≡ Some (called h)) ⊎ (x' ≡ Some (with_made h path))) → (x ≡ None → x' ≡ None) → IfSome x P → IfSome x' P
failed_still P same path None x' leaves silent h = none_later P None x' silent refl
failed_still P same path (Some held) x' (inl e) silent h = subst (λ (o : Option Held). IfSome o P) (sym e) (same held (called held).found (called held).calls h)
failed_still P same path (Some held) x' (inr e) silent h = subst (λ (o : Option Held). IfSome o P) (sym e) (same held (with_made held path).found (with_made held path).calls h)

-- the file is bound
pub bound_later : (P Q : Held → Type 0) (path : List ℕ) (len : ℕ) → ((h : Held) → len ≡ told_length (file_at h.found path).bytes → P h → Q (with_bound h path)) → (x x' : Option Held)
    → IfSome x (λ h. (len ≡ told_length (file_at h.found path).bytes) × (x' ≡ Some (with_bound h path))) → (x ≡ None → x' ≡ None) → IfSome x P → IfSome x' Q
bound_later P Q path len make None x' leaves silent h = none_later Q None x' silent refl
bound_later P Q path len make (Some held) x' leaves silent h = subst (λ (o : Option Held). IfSome o Q) (sym leaves.1) (make held leaves.0 h)

in_few : {T : Type 0} (result : Result T Torn) (bytes : List ℕ) → length (bytes_in result bytes) ≤ length bytes
in_few (Ok done) bytes = omega arith
in_few (Err torn) bytes = omega (arith, length-take torn.taken bytes)

-- ---- a side

-- how many files it tells
pub record AreSo (lens : List ℕ) (bound : ℕ) (h : Held) : Type 0 where
  pub files : bound ≡ length h.files
  pub lengths : AreLengths lens h

module _ {D : Type 0} (told : D → DiskTold) (law : (d : D) → IfSome (told d).held (λ held. (told d).bound ≡ length held.files)) where
  pub kept_by_reads : (s s' : Side D) (paths : List (List ℕ)) → IsKept told s paths → OnlyReads (told s.disk) (told s'.disk) → s'.lens ≡ s.lens → (s'.in_use ≡ true → s.in_use ≡ true)
      → IsKept told s' paths
  kept_by_reads s s' paths k o l was = record {
    room = ap (λ (ns : List ℕ). length ns) l ∙ k.room;
    ready = o.none.is_ready ∙ k.ready;
    within = omega (arith, o.none.bound, k.within);
    whole = λ used. o.none.bound ∙ k.whole (was used);
    named = still (HasPaths paths) (λ h n p. p) (told s.disk).held (told s'.disk).held o.same o.silent k.named;
    lengths = subst (λ lens. IfSome (told s'.disk).held (AreLengths lens)) (sym l)
        (still (AreLengths s.lens) (λ h n p. p) (told s.disk).held (told s'.disk).held o.same o.silent k.lengths);
  }

  pub left_alone : (s s' : Side D) → IsLeft s s' → OnlyReads (told s.disk) (told s'.disk)
  left_alone s s' h = subst (λ d. OnlyReads (told s.disk) (told d)) (sym h.disk) (not_read (told s.disk))

  pub reads_only : (s s' : Side D) (file from len : ℕ) (into : List ℕ) (of : Option (Result ℕ Failed_read)) → SideReads told s s' file from len into of → OnlyReads (told s.disk) (told s'.disk)
  reads_only s s' file from len into None h = left_alone s s' h
  reads_only s s' file from len into (Some result) h = read_by (told s.disk) (told s'.disk) h.0.none h.0.same h.0.silent h.0.cause.later

  pub reads_lens : (s s' : Side D) (file from len : ℕ) (into : List ℕ) (of : Option (Result ℕ Failed_read)) → SideReads told s s' file from len into of → s'.lens ≡ s.lens
  reads_lens s s' file from len into None h = h.lens
  reads_lens s s' file from len into (Some result) h = h.1

  pub kept_by_write : (s s' : Side D) (paths : List (List ℕ)) (file from : ℕ) (bytes : List ℕ) (of : Option (Result ⊤ Torn)) → IsKept told s paths → (is_some of ≡ true → file < (told s.disk).bound)
      → (told s.disk).bound ≤ 16 → from + length bytes ≤ 1048576 → SideWrites told s s' file from bytes of → (s'.in_use ≡ true → s.in_use ≡ true) → IsKept told s' paths
  kept_by_write s s' paths file from bytes None k named few within h was = kept_by_reads s s' paths k (left_alone s s' h) h.lens was
  kept_by_write s s' paths file from bytes (Some result) k named few within h was =
      let w = h.0 in
      let some : List ℕ = bytes_in result bytes in
      let less = in_few result bytes in
      record {
        room = ap (λ (ns : List ℕ). length ns) h.1 ∙ length-set s.lens file _ ∙ k.room;
        ready = w.none.is_ready ∙ k.ready;
        within = omega (arith, w.none.bound, k.within);
        whole = λ used. w.none.bound ∙ k.whole (was used);
        named = remade (HasPaths paths) (HasPaths paths) (λ (h : Held). with_written h file from some) (paths_written paths file from some) (told s.disk).held
            (told s'.disk).held w.left w.silent k.named;
        lengths = subst (λ lens. IfSome (told s'.disk).held (AreLengths lens)) (sym h.1)
            (remade (AreSo s.lens (told s.disk).bound) (AreLengths (lens_written s.lens file from bytes result)) (λ (h : Held). with_written h file from some)
            (λ h so. lengths_written s.lens file from some h (omega (arith, so.files, named refl)) (omega (arith, so.files, few, k.room)) (omega (arith, less, within)) so.lengths)
            (told s.disk).held (told s'.disk).held w.left w.silent
            (if_both (λ h. (told s.disk).bound ≡ length h.files) (AreLengths s.lens) (AreSo s.lens (told s.disk).bound) (told s.disk).held
            (λ h e are. record { files = e; lengths = are }) (law s.disk) k.lengths));
      }

  -- it has bound the file
  pub kept_bound : (s s' : Side D) (paths : List (List ℕ)) (path : List ℕ) (len : ℕ) → IsKept told s paths → (told s.disk).bound ≡ length paths → (told s.disk).bound < 16
      → SideBinds told s s' path (Some (Ok len)) → IsKept told s' (paths ++ path ∷ [])
  kept_bound s s' paths path len k whole few h =
      let b = h.0 in
      let more : length (paths ++ path ∷ []) ≡ length paths + 1 = length-append paths (path ∷ []) in
      record {
        room = ap (λ (ns : List ℕ). length ns) h.1 ∙ length-set s.lens _ len ∙ k.room;
        ready = b.ready;
        within = omega (arith, b.bound, whole, more);
        whole = λ used. omega (arith, b.bound, whole, more);
        named = bound_later (λ h. ((told s.disk).bound ≡ length h.files) × HasPaths paths h) (HasPaths (paths ++ path ∷ [])) path len
            (λ h l so. paths_bound paths path h (sym so.0 ∙ whole) so.1) (told s.disk).held (told s'.disk).held b.leaves b.silent
            (if_both (λ h. (told s.disk).bound ≡ length h.files) (HasPaths paths) (λ h. ((told s.disk).bound ≡ length h.files) × HasPaths paths h) (told s.disk).held (λ h e p. (e, p))
            (law s.disk) k.named);
        lengths = subst (λ lens. IfSome (told s'.disk).held (AreLengths lens)) (sym h.1)
            (bound_later (AreSo s.lens (told s.disk).bound) (AreLengths (slice_set s.lens (told s.disk).bound len)) path len
            (λ h l so. lengths_bound s.lens path (told s.disk).bound len h so.files (omega (arith, few, k.room)) l so.lengths)
            (told s.disk).held (told s'.disk).held b.leaves b.silent
            (if_both (λ h. (told s.disk).bound ≡ length h.files) (AreLengths s.lens) (AreSo s.lens (told s.disk).bound) (told s.disk).held
            (λ h e are. record { files = e; lengths = are }) (law s.disk) k.lengths));
      }

  -- its bind failed
  pub kept_failed : (s s' : Side D) (paths : List (List ℕ)) (path : List ℕ) → IsKept told s paths → SideBinds told s s' path (Some (Err Failed)) → (s'.in_use ≡ true → s.in_use ≡ true)
      → IsKept told s' paths
  kept_failed s s' paths path k h was =
      let b = h.0 in
      record {
        room = ap (λ (ns : List ℕ). length ns) h.1 ∙ k.room;
        ready = b.ready;
        within = omega (arith, b.bound, k.within);
        whole = λ used. b.bound ∙ k.whole (was used);
        named = failed_still (HasPaths paths) (λ h f n p. p) path (told s.disk).held (told s'.disk).held b.leaves b.silent k.named;
        lengths = subst (λ lens. IfSome (told s'.disk).held (AreLengths lens)) (sym h.1)
            (failed_still (AreLengths s.lens) (λ h f n p. p) path (told s.disk).held (told s'.disk).held b.leaves b.silent k.lengths);
      }

  -- a file more is bound, and not on this side, which is not in use
  pub kept_more : (s : Side D) (paths : List (List ℕ)) (path : List ℕ) → IsKept told s paths → s.in_use ≡ false → IsKept told s (paths ++ path ∷ [])
  kept_more s paths path k out =
      let more : length (paths ++ path ∷ []) ≡ length paths + 1 = length-append paths (path ∷ []) in
      record {
        room = k.room;
        ready = k.ready;
        within = omega (arith, k.within, more);
        whole = λ used. absurd (cc (sym used ∙ out));
        named = if_both (λ h. (told s.disk).bound ≡ length h.files) (HasPaths paths) (HasPaths (paths ++ path ∷ [])) (told s.disk).held
            (λ h e p. paths_more paths path h (omega (arith, e, k.within)) p) (law s.disk) k.named;
        lengths = k.lengths;
      }
