-- The files that a side has not bound yet are bound, one after the other: behind the paths that it has stands the next.
use Rattle.std.proofs.Common.{◌≡◌, ◌≢◌, ℕ, suc, Bool, true, false, ◌+◌, ◌<◌, ◌≤◌, List, [], ◌∷◌, ◌++◌, length, map, take, None, Some, refl, sym, ap, ◌∙◌, subst, arith}
use Rattle.std.specs.Prelude.{◌||◌, IfSome, AllPairs, is_some, slice_set, slice_index_or, Ok}
use Rattle.std.specs.List.{list_any}
use Rattle.std.specs.Str.{bytes_eq}
use Rattle.std.specs.declared.option.Option.{Option}
use Rattle.std.proofs.lemmas.List.{take_more, length-append, length-set, length-take, get_or-take, get_or-map, map-append}
use Rattle.std.proofs.lemmas.Slice.Eq.{bytes_eq-Decides}
use Rattle.ac_outside.specs.declared.shelf.NamedBytes.{NamedBytes}
use Rattle.ac_outside.specs.Disks.{DiskTold, Held, IsFresh, with_bound}
use Rattle.ac_outside.specs.Files.{file_at, told_length}
use Rattle.ac_mirror_disk.specs.declared.side.Side.{Side}
use Rattle.ac_mirror_disk.specs.Calls.{HasBound}
use Rattle.ac_mirror_disk.specs.inner.BindsNew.{IsNew}
use Rattle.ac_mirror_disk.specs.inner.Copying.{Then, KeepsFound}
use Rattle.ac_mirror_disk.specs.Sound.{AreLengths, HasPaths, IsKept}
use Rattle.ac_mirror_disk.proofs.Keeping.{bound_later, if_both, lengths_bound, AreSo}
use Rattle.ac_mirror_disk.proofs.NewPath.{fresh_named}

not_equal : {P : Type 0} (b : Bool) → (b ≡ true → P) → (P → ⊥) → b ≡ false
not_equal true d n = absurd (n (d refl))
not_equal false d n = refl

new_by : (paths : List (List ℕ)) (path : List ℕ) → ((k : ℕ) (d : List ℕ) → k < length paths → slice_index_or paths k d ≢ path) → IsNew paths path
new_by [] path differ = refl
new_by (p ∷ paths) path differ =
    let other : bytes_eq p path ≡ false = not_equal {P = p ≡ path} (bytes_eq p path) (bytes_eq-Decides p path).0 (differ 0 path (omega arith)) in
    ap (λ b. b || list_any (λ kept. bytes_eq kept path) paths) other ∙ new_by paths path (λ k d less. differ (suc k) d (omega (arith, less)))

-- the paths before a place, where they all differ
front_new : (paths : List (List ℕ)) (n : ℕ) (path : List ℕ) → AllPairs (λ (p q : List ℕ). p ≢ q) paths → n < length paths → ((d : List ℕ) → slice_index_or paths n d ≡ path) → IsNew (take n paths) path
front_new paths n path apart less here = new_by (take n paths) path (λ k d inside e.
    let before : k < n = omega (arith, inside, length-take n paths) in
    apart k n d before less (sym (get_or-take n paths k d before) ∙ e ∙ sym (here d)))

fresh_rest : (x : Option Held) (bound : ℕ) (paths : List (List ℕ)) (path : List ℕ) → IfSome x (λ h. bound ≡ length h.files) → IfSome x (HasPaths paths) → AllPairs (λ (p q : List ℕ). p ≢ q) paths
    → bound < length paths
    → ((d : List ℕ) → slice_index_or paths bound d ≡ path) → IfSome x (λ h. IsFresh h path)
fresh_rest None bound paths path l p apart less here = tt
fresh_rest (Some h) bound paths path l p apart less here =
    fresh_named h.files path (subst (λ (ns : List (List ℕ)). IsNew ns path) (ap (λ n. take n paths) l ∙ sym p) (front_new paths bound path apart less here))

rest_named : (paths : List (List ℕ)) (path : List ℕ) (h : Held) → length h.files < length paths → ((d : List ℕ) → slice_index_or paths (length h.files) d ≡ path) → HasPaths paths h → HasPaths paths
    (with_bound h path)
rest_named paths path h less here p =
    let long : length (h.files ++ file_at h.found path ∷ []) ≡ length h.files + 1 = length-append h.files (file_at h.found path ∷ []) in
    map-append (λ (f : NamedBytes). f.name) h.files (file_at h.found path ∷ []) ∙ ap (λ names. names ++ path ∷ []) p
    ∙ ap (λ q. take (length h.files) paths ++ q ∷ []) (sym (here path)) ∙ sym (take_more paths (length h.files) path less) ∙ ap (λ n. take n paths) (sym long)

found_bound : (path : List ℕ) (len : ℕ) (x y z : Option Held) → IfSome x (λ h. Then KeepsFound h y) → IfSome y (λ h. (len ≡ told_length (file_at h.found path).bytes) × (z ≡ Some
    (with_bound h path))) → IfSome x (λ h. Then KeepsFound h z)
found_bound path len None y z p l = tt
found_bound path len (Some h) y z p l =
    let there = subst (λ (o : Option Held). IfSome o (λ k. (len ≡ told_length (file_at k.found path).bytes) × (z ≡ Some (with_bound k path)))) p.is l in
    record { held = with_bound p.held path; is = there.1; so = p.so }

module _ {D : Type 0} (told : D → DiskTold) (law : (d : D) → IfSome (told d).held (λ held. (told d).bound ≡ length held.files)) where
  pub may_rest : (t : Side D) (paths : List (List ℕ)) (path : List ℕ) → IsKept told t paths → AllPairs (λ (p q : List ℕ). p ≢ q) paths → (told t.disk).bound < length paths
      → ((d : List ℕ) → slice_index_or paths (told t.disk).bound d ≡ path) → IfSome (told t.disk).held (λ h. IsFresh h path)
  may_rest t paths path k apart less here = fresh_rest (told t.disk).held (told t.disk).bound paths path (law t.disk) k.named apart less here

  pub kept_rest : (t t' : Side D) (paths : List (List ℕ)) (path : List ℕ) (len : ℕ) → IsKept told t paths → (told t.disk).bound < length paths → length paths ≤ 16
      → ((d : List ℕ) → slice_index_or paths (told t.disk).bound d ≡ path) → t'.in_use ≡ false → HasBound (told t.disk) (told t'.disk) path (Ok len)
      → t'.lens ≡ slice_set t.lens (told t.disk).bound len → IsKept told t' paths
  kept_rest t t' paths path len k less few here out b l = record {
    room = ap (λ (ns : List ℕ). length ns) l ∙ length-set t.lens _ len ∙ k.room;
    ready = b.ready;
    within = omega (arith, b.bound, less);
    whole = λ used. absurd (cc (sym used ∙ out));
    named = bound_later (λ h. ((told t.disk).bound ≡ length h.files) × HasPaths paths h) (HasPaths paths) path len
        (λ h l so. rest_named paths path h (omega (arith, less, so.0)) (λ d. ap (λ n. slice_index_or paths n d) (sym so.0) ∙ here d) so.1) (told t.disk).held (told t'.disk).held b.leaves b.silent
        (if_both (λ h. (told t.disk).bound ≡ length h.files) (HasPaths paths) (λ h. ((told t.disk).bound ≡ length h.files) × HasPaths paths h) (told t.disk).held (λ h e p. (e, p))
        (law t.disk) k.named);
    lengths = subst (λ lens. IfSome (told t'.disk).held (AreLengths lens)) (sym l)
        (bound_later (AreSo t.lens (told t.disk).bound) (AreLengths (slice_set t.lens (told t.disk).bound len)) path len
        (λ h l so. lengths_bound t.lens path (told t.disk).bound len h so.files (omega (arith, few, less, k.room)) l so.lengths)
        (told t.disk).held (told t'.disk).held b.leaves b.silent
        (if_both (λ h. (told t.disk).bound ≡ length h.files) (AreLengths t.lens) (AreSo t.lens (told t.disk).bound) (told t.disk).held
        (λ h e are. record { files = e; lengths = are }) (law t.disk) k.lengths));
  }

  pub rest_found : (x : Option Held) (t t' : Side D) (path : List ℕ) (len : ℕ) → IfSome x (λ h. Then KeepsFound h (told t.disk).held) → HasBound (told t.disk) (told t'.disk) path (Ok len)
      → IfSome x (λ h. Then KeepsFound h (told t'.disk).held)
  rest_found x t t' path len found b = found_bound path len x (told t.disk).held (told t'.disk).held found b.leaves

pub some_then : (x y : Option Held) → IfSome x (λ h. Then KeepsFound h y) → is_some x ≡ true → is_some y ≡ true
some_then None y t some = absurd (cc some)
some_then (Some h) y t some = ap (λ (o : Option Held). is_some o) t.is

-- the path at a place
pub path_at : {X : Type 0} (f : X → List ℕ) (paths : List X) (place bound : ℕ) (x : X) (path d : List ℕ) → bound ≡ place → place < length paths → x ≡ slice_index_or paths place x → path ≡ f x
    → slice_index_or (map f paths) bound d ≡ path
path_at f paths place bound x path d e less is value = ap (λ n. slice_index_or (map f paths) n d) e ∙ get_or-map f paths place x d less ∙ ap f (sym is) ∙ sym value
