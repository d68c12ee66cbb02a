-- Lengths of files only grow: a bind notes one behind the others, and a write notes one that is not less. So where each bound file of a side is
-- short enough to be read, each was before a call.
use Rattle.std.proofs.Common.{◌≡◌, ◌≢◌, ℕ, zero, suc, ◌≤◌, List, [], ◌∷◌, length, None, Some, ap, subst, arith}
use Rattle.std.specs.Prelude.{slice_index, slice_set, Ok, Err, ⊤}
use Rattle.std.specs.declared.option.Option.{Option}
use Rattle.std.specs.declared.result.Result.{Result}
use Rattle.std.proofs.lemmas.List.{get_or-set_other}
use Rattle.ac_outside.specs.declared.failed.BindFault.{BindFault}
use Rattle.ac_outside.specs.declared.failed.Torn.{Torn}
use Rattle.ac_outside.specs.Disks.{DiskTold, bound_by}
use Rattle.ac_outside.specs.Files.{bytes_in}
use Rattle.ac_mirror_disk.specs.declared.side.Side.{Side}
use Rattle.ac_mirror_disk.specs.Calls.{HasBound}
use Rattle.ac_mirror_disk.specs.Sides.{SideBinds, SideWrites, IsLeft, grown, lens_bound, lens_written}
use Rattle.ac_mirror_disk.specs.Pairs.{OnlyReads, most_bytes}
use Rattle.ac_mirror_disk.specs.Rebuilding.{AreShort}
use Rattle.ac_mirror_disk.specs.Sound.{WereShort}

-- ---- lengths

at_least : (n : ℕ) → n ≤ n
at_least n = omega arith

at_most : (n m k : ℕ) → n ≤ m → m ≤ k → n ≤ k
at_most n m k p q = omega (arith, p, q)

grown_more : (len from count : ℕ) → len ≤ grown len from count
grown_more len from zero = omega arith
grown_more len from (suc n) = omega arith

set_more : (lens : List ℕ) (file len k : ℕ) → slice_index lens file ≤ len → slice_index lens k ≤ slice_index (slice_set lens file len) k
set_more [] file len k more = at_least (slice_index [] k)
set_more (n ∷ lens) zero len zero more = more
set_more (n ∷ lens) zero len (suc k) more = at_least (slice_index lens k)
set_more (n ∷ lens) (suc file) len zero more = at_least n
set_more (n ∷ lens) (suc file) len (suc k) more = set_more lens file len k more

short_written : {T : Type 0} (lens : List ℕ) (file from : ℕ) (bytes : List ℕ) (result : Result T Torn) (bound : ℕ) → AreShort (lens_written lens file from bytes result) bound → AreShort lens bound
short_written lens file from bytes result bound short k less =
    at_most (slice_index lens k) (slice_index (lens_written lens file from bytes result) k) most_bytes
    (set_more lens file (grown (slice_index lens file) from (length (bytes_in result bytes))) k (grown_more (slice_index lens file) from (length (bytes_in result bytes)))) (short k less)

short_bound : (lens : List ℕ) (bound : ℕ) (result : Result ℕ BindFault) → AreShort (lens_bound lens bound result) (bound_by bound result) → AreShort lens bound
short_bound lens bound (Ok len) short = λ k less.
    let other : k ≢ bound = λ e. omega (arith, less, e) in
    subst (λ n. n ≤ most_bytes) (get_or-set_other lens bound k len 0 other) (short k (omega (arith, less)))
short_bound lens bound (Err fault) short = short

-- ---- a side

module _ {D : Type 0} (told : D → DiskTold) where
  short_as : (s s' : Side D) → s'.lens ≡ s.lens → (told s'.disk).bound ≡ (told s.disk).bound → WereShort told s s'
  short_as s s' l b short = subst (λ lens. AreShort lens (told s.disk).bound) l (subst (AreShort s'.lens) b short)

  short_left : (s s' : Side D) → IsLeft s s' → WereShort told s s'
  short_left s s' h = short_as s s' h.lens (ap (λ d. (told d).bound) h.disk)

  pub short_read : (s s' : Side D) → OnlyReads (told s.disk) (told s'.disk) → s'.lens ≡ s.lens → WereShort told s s'
  short_read s s' o l = short_as s s' l o.none.bound

  pub short_write : (s s' : Side D) (file from : ℕ) (bytes : List ℕ) (of : Option (Result ⊤ Torn)) → SideWrites told s s' file from bytes of → WereShort told s s'
  short_write s s' file from bytes None h = short_left s s' h
  short_write s s' file from bytes (Some result) h = λ short.
      short_written s.lens file from bytes result (told s.disk).bound
      (subst (λ lens. AreShort lens (told s.disk).bound) h.1 (subst (AreShort s'.lens) h.0.none.bound short))

  pub short_next : (s s' : Side D) (path : List ℕ) (result : Result ℕ BindFault) → HasBound (told s.disk) (told s'.disk) path result
      → s'.lens ≡ lens_bound s.lens (told s.disk).bound result → WereShort told s s'
  short_next s s' path result b l = λ short.
      short_bound s.lens (told s.disk).bound result (subst (λ lens. AreShort lens (bound_by (told s.disk).bound result)) l (subst (AreShort s'.lens) b.bound short))

  pub short_bind : (s s' : Side D) (path : List ℕ) (of : Option (Result ℕ BindFault)) → SideBinds told s s' path of → WereShort told s s'
  short_bind s s' path None h = short_left s s' h
  short_bind s s' path (Some result) h = short_next s s' path result h.0 h.1
