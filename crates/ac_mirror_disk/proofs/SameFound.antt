-- Two sides that find the same under a path have bound the same file: its length is noted alike on both, and its bytes do not differ.
use Rattle.std.proofs.Common.{◌≡◌, ◌≢◌, ◌⊎◌, ℕ, zero, suc, true, ◌<◌, List, [], ◌∷◌, length, None, Some, refl, sym, ap, ◌∙◌, subst, arith}
use Rattle.std.specs.Prelude.{IfSome, is_some, slice_index, slice_set}
use Rattle.std.specs.declared.option.Option.{Option}
use Rattle.ac_outside.specs.declared.shelf.NamedBytes.{NamedBytes}
use Rattle.ac_outside.specs.Disks.{DiskTold, Held, with_bound}
use Rattle.ac_outside.specs.Files.{file_at, told_length}
use Rattle.ac_mirror_disk.specs.declared.side.Side.{Side}
use Rattle.ac_mirror_disk.specs.Pairs.{IfBoth, HaveSameBytes, most_bytes}
use Rattle.ac_mirror_disk.proofs.LastFile.{the_last}

-- why the second side is dropped where no read has failed
abbrev pub Differs : {A B : Type 0} → (A → DiskTold) → (B → DiskTold) → Side A → Side B → ℕ → Type 0
Differs told_a told_b a b file =
    (slice_index a.lens file ≢ slice_index b.lens file) ⊎ (most_bytes < slice_index a.lens file)
    ⊎ IfBoth (told_a a.disk).held (told_b b.disk).held (λ x y. HaveSameBytes file x y → ⊥)

-- a bind of a path has given this length, and bound what was found there
abbrev pub Bound : ℕ → List ℕ → Option Held → Option Held → Type 0
Bound len path x x' = IfSome x (λ h. (len ≡ told_length (file_at h.found path).bytes) × (x' ≡ Some (with_bound h path)))

-- ---- lengths

set_same : (xs ys : List ℕ) (i n : ℕ) → length xs ≡ length ys → slice_index (slice_set xs i n) i ≡ slice_index (slice_set ys i n) i
set_same [] [] i n e = refl
set_same [] (y ∷ ys) i n e = absurd (omega (arith, e))
set_same (x ∷ xs) [] i n e = absurd (omega (arith, e))
set_same (x ∷ xs) (y ∷ ys) zero n e = refl
set_same (x ∷ xs) (y ∷ ys) (suc i) n e = set_same xs ys i n (omega (arith, e))

-- the same length is noted in both lists
pub same_slot : (xs ys ls ms : List ℕ) (file i j n o : ℕ) → ls ≡ slice_set xs i n → ms ≡ slice_set ys j o → file ≡ i → i ≡ j → n ≡ o → length xs ≡ length ys → slice_index ls file ≡ slice_index ms file
same_slot xs ys ls ms file i j n o el em ef ei en long =
    ap (λ (l : List ℕ). slice_index l file) el ∙ ap (slice_index (slice_set xs i n)) ef ∙ set_same xs ys i n long ∙ ap (λ v. slice_index (slice_set ys i v) i) en
    ∙ ap (λ k. slice_index (slice_set ys k o) k) ei ∙ ap (slice_index (slice_set ys j o)) (sym (ef ∙ ei)) ∙ ap (λ (l : List ℕ). slice_index l file) (sym em)

pub found_lens : (path : List ℕ) (n o : ℕ) (x x' y y' : Option Held) → is_some x ≡ true → is_some y ≡ true → Bound n path x x' → Bound o path y y' → IfBoth x y (λ h k. h.found ≡ k.found) → n ≡ o
found_lens path n o None x' y y' one other a b same = absurd (cc one)
found_lens path n o (Some h) x' None y' one other a b same = absurd (cc other)
found_lens path n o (Some h) x' (Some k) y' one other a b same = a.0 ∙ ap (λ (found : List ℕ → Option (List ℕ)). told_length (file_at found path).bytes) same ∙ sym b.0

-- ---- bytes

pub found_bytes : (path : List ℕ) (file n o : ℕ) (x x' y y' : Option Held) → is_some x ≡ true → is_some y ≡ true → IfSome x (λ h. file ≡ length h.files) → IfSome y (λ h. file ≡ length h.files)
    → Bound n path x x' → Bound o path y y' → IfBoth x y (λ h k. h.found ≡ k.found) → IfBoth x' y' (λ h k. HaveSameBytes file h k → ⊥) → ⊥
found_bytes path file n o None x' y y' one other fx fy a b same differ = absurd (cc one)
found_bytes path file n o (Some h) x' None y' one other fx fy a b same differ = absurd (cc other)
found_bytes path file n o (Some h) x' (Some k) y' one other fx fy a b same differ =
    let first = ap (λ (f : NamedBytes). f.bytes) (the_last h.files (file_at h.found path) file fx) in
    let second = ap (λ (f : NamedBytes). f.bytes) (the_last k.files (file_at k.found path) file fy) in
    let there = subst (λ (q : Option Held). IfSome q (λ l. HaveSameBytes file (with_bound h path) l → ⊥)) b.1
    (subst (λ (q : Option Held). IfBoth q y' (λ j l. HaveSameBytes file j l → ⊥)) a.1 differ) in
    there (first ∙ ap (λ (found : List ℕ → Option (List ℕ)). (file_at found path).bytes) same ∙ sym second)
