-- Binding files one after the other writes nothing: each bind puts a file, as it was found, behind those that are bound, or changes none of them.
use Rattle.std.proofs.Common.{◌≡◌, ℕ, ◌<◌, ◌≤◌, min, List, [], ◌∷◌, ◌++◌, drop, length, map, None, Some, refl, sym, ap, ◌∙◌, subst, inl, inr, arith}
use Rattle.std.specs.Prelude.{IfSome, slice_index, Ok, Err}
use Rattle.std.specs.declared.option.Option.{Option}
use Rattle.std.specs.declared.result.Result.{Result}
use Rattle.std.proofs.lemmas.List.{take_all, length-take, take-append-le, drop-append-le, map-append, get_or-set_other}
use Rattle.std.proofs.Math.Seq.{drop-length}
use Rattle.ac_outside.specs.declared.failed.BindFault.{BindFault}
use Rattle.ac_outside.specs.declared.failed.BindFault.TheVariants.{Failed, NoMemory}
use Rattle.ac_outside.specs.declared.shelf.NamedBytes.{NamedBytes}
use Rattle.ac_outside.specs.Disks.{DiskTold, Held, BindLeaves, bound_by, with_bound}
use Rattle.ac_outside.specs.Files.{file_at}
use Rattle.ac_mirror_disk.specs.declared.side.Side.{Side}
use Rattle.ac_mirror_disk.specs.Calls.{HasBound}
use Rattle.ac_mirror_disk.specs.Sides.{lens_bound}
use Rattle.ac_mirror_disk.specs.Rebuilding.{AddsFound, OnlyBinds}
use Rattle.ac_mirror_disk.specs.inner.Copying.{Then, KeepsFound}
use Rattle.ac_mirror_disk.specs.Pairs.{IfBoth}

-- ---- what is held

adds_none : (x : Held) → AddsFound x x
adds_none x =
    let none : drop (length x.files) x.files ≡ [] = drop-length x.files in
    record { before = take_all (length x.files) x.files (omega arith); behind = none ∙ sym (ap (map (λ (f : NamedBytes). file_at x.found f.name)) none) }

adds_one : (x y : Held) (path : List ℕ) → AddsFound x y → y.found ≡ x.found → AddsFound x (with_bound y path)
adds_one x y path a found =
    let n : ℕ = length x.files in
    let new : NamedBytes = file_at y.found path in
    let long : min n (length y.files) ≡ n = sym (length-take n y.files) ∙ ap (λ (fs : List NamedBytes). length fs) a.before in
    let within : n ≤ length y.files = omega (arith, long) in
    let rest = drop-append-le n y.files (new ∷ []) within in
    let found_as : NamedBytes → NamedBytes = λ (f : NamedBytes). file_at x.found f.name in
    record {
      before = take-append-le n y.files (new ∷ []) within ∙ a.before;
      behind = rest ∙ ap (λ (fs : List NamedBytes). fs ++ new ∷ []) a.behind
          ∙ ap (λ (f : NamedBytes). map found_as (drop n y.files) ++ f ∷ []) (ap (λ given. file_at given path) found)
          ∙ sym (map-append found_as (drop n y.files) (new ∷ [])) ∙ sym (ap (map found_as) rest);
    }

adds_by : (x y : Held) (z : Option Held) (path : List ℕ) (result : Result ℕ BindFault) → AddsFound x y → y.found ≡ x.found → BindLeaves y z path result → IfSome z (AddsFound x)
adds_by x y z path (Ok len) a found l = subst (λ (o : Option Held). IfSome o (AddsFound x)) (sym l.1) (adds_one x y path a found)
adds_by x y z path (Err Failed) a found l = elim l [
  | inl e ↦ subst (λ (o : Option Held). IfSome o (AddsFound x)) (sym e) (record { before = a.before; behind = a.behind })
  | inr e ↦ subst (λ (o : Option Held). IfSome o (AddsFound x)) (sym e) (record { before = a.before; behind = a.behind })
]
adds_by x y z path (Err NoMemory) a found l = subst (λ (o : Option Held). IfSome o (AddsFound x)) (sym l) tt

adds_on : (x y z : Option Held) (path : List ℕ) (result : Result ℕ BindFault) → IfBoth x y AddsFound → IfSome x (λ h. Then KeepsFound h y) → IfSome y (λ h. BindLeaves h z path result)
    → IfBoth x z AddsFound
adds_on None y z path result a found l = tt
adds_on (Some h) y z path result a found l =
    adds_by h found.held z path result (subst (λ (o : Option Held). IfSome o (AddsFound h)) found.is a) found.so (subst (λ (o : Option Held). IfSome o (λ k. BindLeaves k z path result)) found.is l)

adds_nothing : (x : Option Held) → IfBoth x x AddsFound
adds_nothing None = tt
adds_nothing (Some h) = adds_none h

-- ---- lengths

more_bound : (n m : ℕ) (result : Result ℕ BindFault) → n ≤ m → n ≤ bound_by m result
more_bound n m (Ok len) less = omega (arith, less)
more_bound n m (Err fault) less = less

same_lens : (lens : List ℕ) (bound k : ℕ) (result : Result ℕ BindFault) → k < bound → slice_index (lens_bound lens bound result) k ≡ slice_index lens k
same_lens lens bound k (Ok len) less = get_or-set_other lens bound k len 0 (λ e. omega (arith, less, e))
same_lens lens bound k (Err fault) less = refl

-- ---- a side

module _ {D : Type 0} (told : D → DiskTold) where
  pub binds_none : (t : Side D) → OnlyBinds told t t
  binds_none t = record { more = omega arith; lens = λ k less. refl; files = adds_nothing (told t.disk).held }

  pub binds_on : (t m t' : Side D) (path : List ℕ) (result : Result ℕ BindFault) → OnlyBinds told t m → IfSome (told t.disk).held (λ h. Then KeepsFound h (told m.disk).held)
      → HasBound (told m.disk) (told t'.disk) path result → t'.lens ≡ lens_bound m.lens (told m.disk).bound result → OnlyBinds told t t'
  binds_on t m t' path result o found b l = record {
    more = subst (λ n. (told t.disk).bound ≤ n) (sym b.bound) (more_bound (told t.disk).bound (told m.disk).bound result o.more);
    lens = λ k less. let more = o.more in
        ap (λ (lens : List ℕ). slice_index lens k) l ∙ same_lens m.lens (told m.disk).bound k result (omega (arith, less, more)) ∙ o.lens k less;
    files = adds_on (told t.disk).held (told m.disk).held (told t'.disk).held path result o.files found b.leaves;
  }
