-- What a disk makes of what it holds, seen without the prefix of its paths: a bind and a write of the one are those of the other.
use Rattle.std.proofs.Common.{◌≡◌, ℕ, Bool, true, false, ◌<◌, List, [], ◌∷◌, ◌++◌, length, map, drop, None, Some, refl, sym, ap, ◌∙◌, subst, inl, inr, arith}
use Rattle.std.specs.Prelude.{IfSome, slice_set, unwrap_or, if◌then◌else◌, Ok, Err, ⊤}
use Rattle.std.specs.Option.{option_map}
use Rattle.std.specs.Str.{bytes_eq}
use Rattle.std.specs.declared.option.Option.{Option}
use Rattle.std.specs.declared.result.Result.{Result}
use Rattle.std.proofs.Math.Path.{fun_ext}
use Rattle.std.proofs.Math.Seq.{map-set_same, drop-append_seam}
use Rattle.std.proofs.lemmas.List.{get_or-map, map-append, map-set}
use Rattle.std.proofs.lemmas.Slice.Eq.{bytes_eq-Decides}
use Rattle.ac_outside.specs.declared.failed.BindFault.{BindFault}
use Rattle.ac_outside.specs.declared.failed.BindFault.TheVariants.{Failed, NoMemory}
use Rattle.ac_outside.specs.declared.failed.Torn.{Torn}
use Rattle.ac_outside.specs.declared.shelf.NamedBytes.{NamedBytes}
use Rattle.file_bytes.specs.Overwritten.{overwritten}
use Rattle.ac_outside.specs.Texts.{text_of}
use Rattle.ac_outside.specs.Told.{AddsName}
use Rattle.ac_outside.specs.Disks.{DiskTold, Held, BindLeaves, IsFresh, stays_ready, with_bound, with_made, with_written}
use Rattle.ac_outside.specs.Files.{bytes_in, file_at, file_of}
use Rattle.ac_mirror_disk.specs.Calls.{HasBound, HasWritten}
use Rattle.ac_mirror_disk.specs.Prefixes.{UnderPrefix, JoinsBind, unasked, asked, path_without, file_without, held_under, told_under_prefix}
use Rattle.ac_mirror_disk.specs.Joining.{AreUnder, IsUnder}

-- ---- paths

decided : {P : Type 0} (r s : Bool) → (P → r ≡ true) → (r ≡ true → P) → (P → s ≡ true) → (s ≡ true → P) → r ≡ s
decided true s pr rp ps sp = sym (ps (rp refl))
decided false true pr rp ps sp = pr (sp refl)
decided false false pr rp ps sp = refl

-- paths behind one prefix are equal where they are equal
same_tail : (front a b : List ℕ) → bytes_eq (front ++ a) (front ++ b) ≡ bytes_eq a b
same_tail front a b =
    let whole = bytes_eq-Decides (front ++ a) (front ++ b) in
    let tail = bytes_eq-Decides a b in
    decided {P = a ≡ b} (bytes_eq (front ++ a) (front ++ b)) (bytes_eq a b) (λ e. whole.1 (ap (λ xs. front ++ xs) e))
    (λ e. sym (drop-append_seam front a) ∙ ap (drop (length front)) (whole.0 e) ∙ drop-append_seam front b) tail.1 tail.0

abbrev first_of : List (List ℕ) → List ℕ → List ℕ
first_of [] d = d
first_of (x ∷ xs) d = x

abbrev rest_of : List (List ℕ) → List (List ℕ)
rest_of [] = []
rest_of (x ∷ xs) = xs

abbrev names_of : List NamedBytes → List (List ℕ)
names_of files = map (λ (f : NamedBytes). f.name) files

text_under : (front : List ℕ) (files : List NamedBytes) (path : List ℕ) → AreUnder front (names_of files) → text_of files (front ++ path) ≡ text_of (map (file_without front) files) path
text_under front [] path under = refl
text_under front (f ∷ files) path under =
    let here : front ++ path_without front f.name ≡ f.name = ap (λ xs. first_of xs []) under in
    let rest : AreUnder front (names_of files) = ap rest_of under in
    let test : bytes_eq f.name (front ++ path) ≡ bytes_eq (path_without front f.name) path =
    ap (λ n. bytes_eq n (front ++ path)) (sym here) ∙ same_tail front (path_without front f.name) path in
    by_test (bytes_eq f.name (front ++ path)) (bytes_eq (path_without front f.name) path) refl refl test (text_under front files path rest)
  where
    by_test : (a b : Bool) → bytes_eq f.name (front ++ path) ≡ a → bytes_eq (path_without front f.name) path ≡ b → bytes_eq f.name (front ++ path) ≡ bytes_eq (path_without front f.name) path
        → text_of files (front ++ path) ≡ text_of (map (file_without front) files) path
        → text_of (f ∷ files) (front ++ path) ≡ text_of (map (file_without front) (f ∷ files)) path
    by_test true true ea eb e same = rw (ea, eb) refl
    by_test false false ea eb e same = rw (ea, eb) same
    by_test true false ea eb e same = absurd (cc (sym ea ∙ e ∙ eb))
    by_test false true ea eb e same = absurd (cc (sym ea ∙ e ∙ eb))

-- ---- what is held

file_under : (front : List ℕ) (files : List NamedBytes) (file : ℕ) → file < length files → file_of (map (file_without front) files) file ≡ file_without front (file_of files file)
file_under front files file less = get_or-map (file_without front) files file (record { name = []; bytes = [] }) (record { name = []; bytes = [] }) less

bound_under : (front path : List ℕ) (h : Held) → held_under front (with_bound h (front ++ path)) ≡ with_bound (held_under front h) path
bound_under front path h =
    ap (λ files. record { files = files; found = λ other. h.found (front ++ other); calls = (with_bound h (front ++ path)).calls })
    (map-append (file_without front) h.files (file_at h.found (front ++ path) ∷ [])
    ∙ ap (λ (name : List ℕ). map (file_without front) h.files ++ record { name = name; bytes = unwrap_or (h.found (front ++ path)) [] } ∷ []) (drop-append_seam front path))

made_under : (front path : List ℕ) (h : Held) → held_under front (with_made h (front ++ path)) ≡ with_made (held_under front h) path
made_under front path h =
    ap (λ (found : List ℕ → Option (List ℕ)). record { files = map (file_without front) h.files; found = found; calls = (with_made h (front ++ path)).calls })
    (fun_ext (λ other. ap (λ b. if b then Some (unwrap_or (h.found (front ++ path)) []) else h.found (front ++ other)) (same_tail front other path)))

written_under : (front : List ℕ) (file from : ℕ) (bytes : List ℕ) (h : Held) → file < length h.files → held_under front (with_written h file from bytes) ≡ with_written
    (held_under front h) file from bytes
written_under front file from bytes h less =
    let one = file_under front h.files file less in
    ap (λ files. record { files = files; found = λ other. h.found (front ++ other); calls = (with_written h file from bytes).calls })
    (map-set (file_without front) h.files file _
    ∙ ap (λ (f : NamedBytes). slice_set (map (file_without front) h.files) file (record { name = f.name; bytes = overwritten f.bytes from bytes })) (sym one))

leaves_under : (front path : List ℕ) (h : Held) (after : Option Held) (result : Result ℕ BindFault) → BindLeaves h after (front ++ path) result
    → BindLeaves (held_under front h) (if stays_ready result then option_map (held_under front) after else None) path result
leaves_under front path h after (Ok len) l = (l.0, ap (option_map (held_under front)) l.1 ∙ ap (λ x. Some x) (bound_under front path h))
leaves_under front path h after (Err Failed) (inl e) = inl (ap (option_map (held_under front)) e)
leaves_under front path h after (Err Failed) (inr e) = inr (ap (option_map (held_under front)) e ∙ ap (λ x. Some x) (made_under front path h))
leaves_under front path h after (Err NoMemory) l = refl

adds_under : (front path : List ℕ) (x y : Option (List (List ℕ))) → AddsName x y (front ++ path) → AddsName (option_map (map (path_without front)) x) (option_map (map (path_without front)) y) path
adds_under front path x None a = nothing_told (option_map (map (path_without front)) x) where
  nothing_told : (z : Option (List (List ℕ))) → AddsName z None path
  nothing_told None = tt
  nothing_told (Some names) = tt
adds_under front path None (Some names) a = a
adds_under front path (Some before) (Some names) a =
    ap (map (path_without front)) a ∙ map-append (path_without front) before ((front ++ path) ∷ []) ∙ ap (λ p. map (path_without front) before ++ p ∷ []) (drop-append_seam front path)

adds_none : (x : Option (List (List ℕ))) (path : List ℕ) → AddsName x None path
adds_none None path = tt
adds_none (Some names) path = tt

-- ---- names stay under the prefix

names_written : (front : List ℕ) (file from : ℕ) (bytes : List ℕ) (h : Held) → AreUnder front (names_of h.files) → AreUnder front (names_of (with_written h file from bytes).files)
names_written front file from bytes h under =
    subst (AreUnder front) (sym (map-set_same (λ (f : NamedBytes). f.name) h.files file _ (record { name = []; bytes = [] }) refl)) under

under_written : (front : List ℕ) (file from : ℕ) (bytes : List ℕ) (x y : Option Held) → IfSome x (λ h. y ≡ Some (with_written h file from bytes)) → (x ≡ None → y ≡ None)
    → IfSome x (λ held. AreUnder front (names_of held.files)) → IfSome y (λ held. AreUnder front (names_of held.files))
under_written front file from bytes None y e silent u = subst (λ (o : Option Held). IfSome o (λ held. AreUnder front (names_of held.files))) (sym (silent refl)) tt
under_written front file from bytes (Some h) y e silent u =
    subst (λ (o : Option Held). IfSome o (λ held. AreUnder front (names_of held.files))) (sym e) (names_written front file from bytes h u)

-- ---- options, seen without the prefix

fresh_under : (ready : Bool) (front path : List ℕ) (x : Option Held) → ready ≡ true → IfSome x (λ held. AreUnder front (names_of held.files))
    → IfSome (if ready then option_map (held_under front) x else None) (λ held. IsFresh held path) → IfSome x (λ held. IsFresh held (front ++ path))
fresh_under false front path x r u fresh = absurd (cc r)
fresh_under true front path None r u fresh = tt
fresh_under true front path (Some h) r u fresh = text_under front h.files path u ∙ fresh

all_leaves : (ready : Bool) (front path : List ℕ) (x y : Option Held) (result : Result ℕ BindFault) → ready ≡ true → IfSome x (λ h. BindLeaves h y (front ++ path) result)
    → IfSome (if ready then option_map (held_under front) x else None) (λ held. BindLeaves held (if stays_ready result then option_map (held_under front) y else None) path result)
all_leaves false front path x y result r l = absurd (cc r)
all_leaves true front path None y result r l = tt
all_leaves true front path (Some h) y result r l = leaves_under front path h y result l

silent_under : (ready ready' : Bool) (front : List ℕ) (x y : Option Held) → ready ≡ true → (x ≡ None → y ≡ None) → (if ready then option_map (held_under front) x else None) ≡ None
    → (if ready' then option_map (held_under front) y else None) ≡ None
silent_under false ready' front x y r silent e = absurd (cc r)
silent_under true false front x y r silent e = refl
silent_under true true front None y r silent e = ap (option_map (held_under front)) (silent refl)
silent_under true true front (Some h) y r silent e = absurd (cc e)

left_under : (ready : Bool) (front : List ℕ) (x y : Option Held) (bound file from : ℕ) (bytes : List ℕ) → ready ≡ true → file < bound → IfSome x (λ h. bound ≡ length h.files)
    → IfSome x (λ h. y ≡ Some (with_written h file from bytes))
    → IfSome (if ready then option_map (held_under front) x else None) (λ held. (if ready then option_map (held_under front) y else None) ≡ Some (with_written held file from bytes))
left_under false front x y bound file from bytes r less l e = absurd (cc r)
left_under true front None y bound file from bytes r less l e = tt
left_under true front (Some h) y bound file from bytes r less l e =
    ap (option_map (held_under front)) e ∙ ap (λ x. Some x) (written_under front file from bytes h (omega (arith, less, l)))

binds_under : (ready ready' : Bool) (front path : List ℕ) (x y : Option (List (List ℕ))) → ready ≡ true → AddsName x y (front ++ path)
    → AddsName (if ready then option_map (map (path_without front)) x else None) (if ready' then option_map (map (path_without front)) y else None) path
binds_under false ready' front path x y r a = absurd (cc r)
binds_under true false front path x y r a = adds_none (option_map (map (path_without front)) x) path
binds_under true true front path x y r a = adds_under front path x y a

same_binds : (ready : Bool) (front : List ℕ) (x y : Option (List (List ℕ))) → y ≡ x → (if ready then option_map (map (path_without front)) y else None) ≡ (if ready then option_map (map
    (path_without front)) x else None)
same_binds ready front x y e = ap (λ o. if ready then option_map (map (path_without front)) o else None) e

pub earlier_under : (ready : Bool) (n m k : ℕ) → ready ≡ true → n ≡ k → (if ready then n else m) ≡ k
earlier_under true n m k r e = e
earlier_under false n m k r e = absurd (cc r)

earlier_off : (ready : Bool) (n m k : ℕ) → n ≡ k → m ≡ k → (if ready then n else m) ≡ k
earlier_off true n m k e f = e
earlier_off false n m k e f = f

abbrev refused : Result ℕ BindFault
refused = Err NoMemory

-- ---- the disk

module _ {D : Type 0} (told : D → DiskTold) (law : (d : D) → IfSome (told d).held (λ held. (told d).bound ≡ length held.files)) where
  pub record BindUnder (v p' : UnderPrefix D) (path : List ℕ) (result : Result ℕ BindFault) : Type 0 where
    pub told_so : HasBound (told_under_prefix told v) (told_under_prefix told p') path result
    pub asked_so : AddsName (told_under_prefix told v).binds (told_under_prefix told p').binds path
    pub earlier : (told_under_prefix told p').earlier ≡ (told v.disk).faults
    pub joins : JoinsBind (told v.disk) (told p'.disk) (v.prefix ++ path) result

  pub fresh_for : (p v : UnderPrefix D) (path : List ℕ) → p ≡ v → IsUnder told p → v.is_ready ≡ true → IfSome (told_under_prefix told v).held (λ held. IsFresh held path)
      → IfSome (told p.disk).held (λ held. IsFresh held (p.prefix ++ path))
  fresh_for p v path e under ready fresh =
      let here = ap (λ (x : UnderPrefix D). x.is_ready) e ∙ ready in
      fresh_under p.is_ready p.prefix path (told p.disk).held here (under.under here) (subst (λ x. IfSome (told_under_prefix told x).held (λ held. IsFresh held path)) (sym e) fresh)

  bind_on : (p p' : UnderPrefix D) (path : List ℕ) (result : Result ℕ BindFault) → p.is_ready ≡ true → p'.prefix ≡ p.prefix → p'.is_ready ≡ stays_ready result
      → JoinsBind (told p.disk) (told p'.disk) (p.prefix ++ path) result → BindUnder p p' path result
  bind_on p p' path result ready front stays (unasked e same) =
      let off : p'.is_ready ≡ false = stays ∙ ap stays_ready e in
      subst (BindUnder p p' path) (sym e) (record {
        told_so = record {
          bound = ap (λ (t : DiskTold). t.bound) same;
          ready = off;
          leaves = nothing ((told_under_prefix told p).held) (ap (λ b. if b then option_map (held_under p'.prefix) (told p'.disk).held else None) off);
          silent = λ _. ap (λ b. if b then option_map (held_under p'.prefix) (told p'.disk).held else None) off;
          cause = ap (λ (t : DiskTold). t.faults) same;
        };
        asked_so = subst (λ names. AddsName (told_under_prefix told p).binds names path) (sym (ap (λ b. if b then option_map (map (path_without p'.prefix)) (told p'.disk).binds else None) off))
            (adds_none (told_under_prefix told p).binds path);
        earlier = ap (λ b. if b then (told p'.disk).earlier else (told p'.disk).faults) off ∙ ap (λ (t : DiskTold). t.faults) same;
        joins = unasked refl same;
      })
    where
      nothing : (x : Option Held) → (told_under_prefix told p').held ≡ None → IfSome x (λ held. BindLeaves held (told_under_prefix told p').held path refused)
      nothing None e = tt
      nothing (Some h) e = e
  bind_on p p' path result ready front stays (asked bound names earlier) =
      let view : (told_under_prefix told p').held ≡ (if stays_ready result then option_map (held_under p.prefix) (told p'.disk).held else None) =
      ap (λ b. if b then option_map (held_under p'.prefix) (told p'.disk).held else None) stays ∙ ap (λ f. if stays_ready result then option_map (held_under f) (told p'.disk).held else None) front in
      record {
        told_so = record {
          bound = bound.bound;
          ready = stays;
          leaves = subst (λ after. IfSome (told_under_prefix told p).held (λ held. BindLeaves held after path result)) (sym view)
              (all_leaves p.is_ready p.prefix path (told p.disk).held (told p'.disk).held result ready bound.leaves);
          silent = λ e. view ∙ silent_under p.is_ready (stays_ready result) p.prefix (told p.disk).held (told p'.disk).held ready bound.silent e;
          cause = bound.cause;
        };
        asked_so = subst (λ f. AddsName (told_under_prefix told p).binds (if p'.is_ready then option_map (map (path_without f)) (told p'.disk).binds else None) path) (sym front)
            (binds_under p.is_ready p'.is_ready p.prefix path (told p.disk).binds (told p'.disk).binds ready names);
        earlier = earlier_of result stays bound earlier;
        joins = asked bound names earlier;
      }
    where
      earlier_of : (res : Result ℕ BindFault) → p'.is_ready ≡ stays_ready res → HasBound (told p.disk) (told p'.disk) (p.prefix ++ path) res → (told p'.disk).earlier ≡ (told p.disk).faults
          → (told_under_prefix told p').earlier ≡ (told p.disk).faults
      earlier_of (Ok len) s b e = earlier_under p'.is_ready _ _ _ s e
      earlier_of (Err Failed) s b e = earlier_under p'.is_ready _ _ _ s e
      earlier_of (Err NoMemory) s b e = earlier_off p'.is_ready _ _ _ e b.cause

  pub bind_under : (p v p' : UnderPrefix D) (path : List ℕ) (result : Result ℕ BindFault) → p ≡ v → v.is_ready ≡ true → p'.prefix ≡ p.prefix → p'.is_ready ≡ stays_ready result
      → JoinsBind (told p.disk) (told p'.disk) (p.prefix ++ path) result → BindUnder v p' path result
  bind_under p v p' path result e ready front stays joins =
      subst (λ x. BindUnder x p' path result) e (bind_on p p' path result (ap (λ (x : UnderPrefix D). x.is_ready) e ∙ ready) front stays joins)

  pub record WriteUnder (v p' : UnderPrefix D) (file from : ℕ) (bytes : List ℕ) (result : Result ⊤ Torn) : Type 0 where
    pub told_so : HasWritten (told_under_prefix told v) (told_under_prefix told p') file from bytes result
    pub earlier : (told_under_prefix told p').earlier ≡ (told v.disk).faults
    pub prefix : p'.prefix ≡ v.prefix

  pub write_under : (p v : UnderPrefix D) (d : D) (file from : ℕ) (bytes : List ℕ) (result : Result ⊤ Torn) → p ≡ v → v.is_ready ≡ true → file < (told v.disk).bound
      → HasWritten (told p.disk) (told d) file from bytes result → (told d).earlier ≡ (told p.disk).faults
      → WriteUnder v (record { disk = d; prefix = p.prefix; is_ready = p.is_ready }) file from bytes result
  write_under p v d file from bytes result e ready less written earlier =
      let here = ap (λ (x : UnderPrefix D). x.is_ready) e ∙ ready in
      let named : file < (told p.disk).bound = subst (λ (x : UnderPrefix D). file < (told x.disk).bound) (sym e) less in
      subst (λ x. WriteUnder x (record { disk = d; prefix = p.prefix; is_ready = p.is_ready }) file from bytes result) e (record {
        told_so = record {
          none = record { bound = written.none.bound; is_ready = refl; binds = same_binds p.is_ready p.prefix (told p.disk).binds (told d).binds written.none.binds };
          most = written.most;
          left = left_under p.is_ready p.prefix (told p.disk).held (told d).held (told p.disk).bound file from (bytes_in result bytes) here named (law p.disk) written.left;
          silent = silent_under p.is_ready p.is_ready p.prefix (told p.disk).held (told d).held here written.silent;
          cause = written.cause;
        };
        earlier = earlier_under p.is_ready (told d).earlier (told d).faults (told p.disk).faults here earlier;
        prefix = refl;
      })

  pub write_still : (p : UnderPrefix D) (d : D) (file from : ℕ) (bytes : List ℕ) (result : Result ⊤ Torn) → IsUnder told p → HasWritten (told p.disk) (told d) file from bytes result
      → IsUnder told (record { disk = d; prefix = p.prefix; is_ready = p.is_ready })
  write_still p d file from bytes result under written = record {
    ready = λ on. written.none.is_ready ∙ under.ready on;
    under = λ on. under_written p.prefix file from (bytes_in result bytes) (told p.disk).held (told d).held written.left written.silent (under.under on);
  }
