-- A path that no bound file has: it may be bound on each side in use, and behind the others the paths still differ.
use Rattle.std.proofs.Common.{◌≡◌, ◌≢◌, ℕ, zero, suc, Bool, true, false, ◌<◌, List, [], ◌∷◌, ◌++◌, length, map, None, Some, refl, sym, ap, ◌∙◌, subst, arith}
use Rattle.std.specs.List.{list_any}
use Rattle.std.specs.Prelude.{◌||◌, not, IfSome, AllPairs, slice_index_or}
use Rattle.std.specs.declared.option.Option.{Option}
use Rattle.std.specs.Str.{bytes_eq}
use Rattle.std.proofs.lemmas.List.{take_all}
use Rattle.std.proofs.lemmas.List.Quantifiers.{all_pairs_push}
use Rattle.std.proofs.lemmas.Slice.Eq.{bytes_eq-Decides}
use Rattle.ac_outside.specs.declared.shelf.NamedBytes.{NamedBytes}
use Rattle.ac_outside.specs.Texts.{text_of}
use Rattle.ac_outside.specs.Disks.{DiskTold, Held, IsFresh}
use Rattle.ac_mirror_disk.specs.declared.side.Side.{Side}
use Rattle.ac_mirror_disk.specs.inner.BindsNew.{IsNew}
use Rattle.ac_mirror_disk.specs.inner.Callable.{MayBind}
use Rattle.ac_mirror_disk.specs.Sound.{HasPaths, IsKept}

or_false : (x y : Bool) → (x || y) ≡ false → (x ≡ false) × (y ≡ false)
or_false true y e = absurd (cc e)
or_false false y e = (refl, e)

none_is : (paths : List (List ℕ)) (path : List ℕ) → IsNew paths path → (k : ℕ) (d : List ℕ) → k < length paths → slice_index_or paths k d ≢ path
none_is [] path new k d less e = absurd (omega (arith, less))
none_is (p ∷ paths) path new zero d less e = absurd (cc (sym ((bytes_eq-Decides p path).1 e) ∙ (or_false (bytes_eq p path) _ new).0))
none_is (p ∷ paths) path new (suc k) d less e = none_is paths path (or_false (bytes_eq p path) _ new).1 k d (omega (arith, less)) e

pub still_differ : (paths : List (List ℕ)) (path : List ℕ) → AllPairs (λ (p q : List ℕ). p ≢ q) paths → IsNew paths path → AllPairs (λ (p q : List ℕ). p ≢ q) (paths ++ path ∷ [])
still_differ paths path apart new = all_pairs_push (λ (p q : List ℕ). p ≢ q) paths path apart (none_is paths path new)

pub fresh_named : (files : List NamedBytes) (path : List ℕ) → IsNew (map (λ (f : NamedBytes). f.name) files) path → text_of files path ≡ None
fresh_named [] path new = refl
fresh_named (f ∷ files) path new =
    let parts = or_false (bytes_eq f.name path) _ new in
    rw parts.0 (fresh_named files path parts.1)

fresh_held : (x : Option Held) (bound : ℕ) (paths : List (List ℕ)) (path : List ℕ) → IfSome x (λ h. bound ≡ length h.files) → bound ≡ length paths → IfSome x (HasPaths paths) → IsNew paths path
    → IfSome x (λ h. IsFresh h path)
fresh_held None bound paths path l e p new = tt
fresh_held (Some h) bound paths path l e p new =
    let names = p ∙ take_all (length h.files) paths (omega (arith, l, e)) in
    fresh_named h.files path (subst (λ (ns : List (List ℕ)). IsNew ns path) (sym names) new)

pub may_bind : {D : Type 0} (told : D → DiskTold) (law : (d : D) → IfSome (told d).held (λ held. (told d).bound ≡ length held.files)) (s : Side D) (paths : List (List ℕ)) (path : List ℕ)
    → IsKept told s paths → length paths < 16 → IsNew paths path → MayBind told s path
may_bind told law s paths path k few new = record {
  ready = λ _. k.ready;
  room = k.room;
  few = λ used. let all = k.whole used in omega (arith, few, all);
  fresh = λ used. fresh_held (told s.disk).held (told s.disk).bound paths path (law s.disk) (k.whole used) k.named new;
}

pub any_map : {X Y : Type 0} (f : X → Y) (p : Y → Bool) (xs : List X) → list_any p (map f xs) ≡ list_any (λ x. p (f x)) xs
any_map f p [] = refl
any_map f p (x ∷ xs) = ap (λ b. p (f x) || b) (any_map f p xs)

pub not_is : (b : Bool) → not b ≡ true → b ≡ false
not_is true e = absurd (cc e)
not_is false e = refl
