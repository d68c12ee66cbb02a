-- Copying a file piece by piece: up to each piece the bytes are those of the first side, and from there on still those of the second, which is
-- not longer. Copying file by file goes the same way.
use Rattle.std.proofs.Common.{◌≡◌, ℕ, zero, suc, ◌+◌, ◌-◌, ◌<◌, ◌≤◌, List, [], ◌∷◌}
use Rattle.std.proofs.Common.{◌++◌, length, map, take, drop, None, Some, refl, sym, ap, ◌∙◌, subst, arith}
use Rattle.std.specs.Prelude.{slice_index, slice_set, slice_index_or, replicate}
use Rattle.std.specs.declared.option.Option.{Option}
use Rattle.std.proofs.Math.Seq.{take-add, take-append_seam, drop-append-add, set-append_seam, get_or-append_seam}
use Rattle.std.proofs.lemmas.List.{take_all, drop_all, append-nil, append_assoc, take_more, drop_more}
use Rattle.std.proofs.lemmas.List.{length-append, length-take, length-drop, length-map, get_or-set_same, set-get_or, get_or-map}
use Rattle.file_bytes.specs.Overwritten.{overwritten}
use Rattle.ac_outside.specs.declared.shelf.NamedBytes.{NamedBytes}
use Rattle.ac_outside.specs.Disks.{Held, with_written}
use Rattle.ac_outside.specs.Files.{file_of, part}
use Rattle.ac_mirror_disk.specs.Pairs.{IfBoth}
use Rattle.ac_mirror_disk.specs.inner.Copying.{with_bytes, Fits, joined, Becomes, HasJoined, AllFit, HasCopied}
use Rattle.ac_mirror_disk.proofs.ReadOnly.{within}

-- ---- bytes

drop_drop : (n m : ℕ) (xs : List ℕ) → drop m (drop n xs) ≡ drop (n + m) xs
drop_drop zero m xs = let e : m ≡ 0 + m = omega arith in ap (λ k. drop k xs) e
drop_drop (suc n) m [] = drop_all m [] (omega arith) ∙ sym (drop_all (suc n + m) [] (omega arith))
drop_drop (suc n) m (x ∷ xs) =
    let e : suc (n + m) ≡ suc n + m = omega arith in
    drop_drop n m xs ∙ ap (λ k. drop k (x ∷ xs)) e

set_twice : {X : Type 0} (xs : List X) (i : ℕ) (a b : X) → slice_set (slice_set xs i a) i b ≡ slice_set xs i b
set_twice [] i a b = refl
set_twice (x ∷ xs) zero a b = refl
set_twice (x ∷ xs) (suc i) a b = ap (λ ys. x ∷ ys) (set_twice xs i a b)

-- behind the bytes that are copied the next piece takes the place of as many of the others
front_next : (bytes other : List ℕ) (from want : ℕ) → from + want ≤ length bytes → length other ≤ length bytes → 0 < want
    → overwritten (joined from bytes other) from (part bytes from want) ≡ joined (from + want) bytes other
front_next bytes other from want within fits some = by_piece (part bytes from want) (take-add from want bytes) (piece_long bytes from want within) where
  piece_long : (bytes : List ℕ) (from want : ℕ) → from + want ≤ length bytes → length (part bytes from want) ≡ want
  piece_long bytes from want within = omega (arith, within, length-take want (drop from bytes), length-drop from bytes)

  by_piece : (piece : List ℕ) → take (from + want) bytes ≡ take from bytes ++ piece → length piece ≡ want → overwritten (joined from bytes other) from piece ≡ joined (from + want) bytes other
  by_piece [] e l = absurd (omega (arith, l, some))
  by_piece (b ∷ bs) e l =
      let front : length (take from bytes) ≡ from = omega (arith, within, length-take from bytes) in
      let long : from ≤ length (joined from bytes other) = omega (arith, front, length-append (take from bytes) (drop from other)) in
      let none : from - length (joined from bytes other) ≡ 0 = omega (arith, long) in
      let first : take from (joined from bytes other) ≡ take from bytes = ap (λ n. take n (joined from bytes other)) (sym front) ∙ take-append_seam (take from bytes) (drop from other) in
      let last : drop (from + length (b ∷ bs)) (joined from bytes other) ≡ drop (from + want) other =
      ap (λ n. drop (from + n) (joined from bytes other)) l ∙ ap (λ n. drop (n + want) (joined from bytes other)) (sym front) ∙ drop-append-add (take from bytes) (drop from other) want
      ∙ drop_drop from want other in
      ap (λ xs. xs ++ replicate (from - length (joined from bytes other)) 0 ++ (b ∷ bs) ++ drop (from + length (b ∷ bs)) (joined from bytes other)) first
      ∙ ap (λ n. take from bytes ++ replicate n 0 ++ (b ∷ bs) ++ drop (from + length (b ∷ bs)) (joined from bytes other)) none
      ∙ ap (λ xs. take from bytes ++ [] ++ (b ∷ bs) ++ xs) last
      ∙ ap (λ xs. xs ++ (b ∷ bs) ++ drop (from + want) other) (append-nil (take from bytes))
      ∙ ap (λ xs. xs ++ drop (from + want) other) (sym e)

-- ---- one file

-- nothing of it is copied yet
pub none_joined : (file len : ℕ) (x y : Held) → HasJoined file len 0 x y y
none_joined file len x y fits = sym (set-get_or y.files file (record { name = []; bytes = [] }))

pub joined_next : (file len from want count : ℕ) (x y y' : Held) → file < length y.files → from + want ≡ count → count ≤ len → 0 < want → HasJoined file len from x y y'
    → HasJoined file len count x y (with_written y' file from (part (file_of x.files file).bytes from want))
joined_next file len from want count x y y' less e within some before fits =
    let xb : List ℕ = (file_of x.files file).bytes in
    let yb : List ℕ = (file_of y.files file).bytes in
    let now : y'.files ≡ with_bytes y.files file (joined from xb yb) = before fits in
    let here : file_of y'.files file ≡ record { name = (file_of y.files file).name; bytes = joined from xb yb } =
    ap (λ files. file_of files file) now ∙ get_or-set_same y.files file _ (record { name = []; bytes = [] }) less in
    let one = fits.one in
    let other = fits.other in
    let next : overwritten (joined from xb yb) from (part xb from want) ≡ joined count xb yb =
    front_next xb yb from want (omega (arith, e, within, one)) (omega (arith, one, other)) some ∙ ap (λ n. joined n xb yb) e in
    ap (λ (f : NamedBytes). slice_set y'.files file (record { name = f.name; bytes = overwritten f.bytes from (part xb from want) })) here
    ∙ ap (λ files. slice_set files file (record { name = (file_of y.files file).name; bytes = overwritten (joined from xb yb) from (part xb from want) })) now
    ∙ set_twice y.files file _ _
    ∙ ap (λ bytes. with_bytes y.files file bytes) next

-- all of it is copied
all_joined : (file len : ℕ) (x y y' : Held) → Fits len file x y → HasJoined file len len x y y' → y'.files ≡ with_bytes y.files file (file_of x.files file).bytes
all_joined file len x y y' fits done =
    let xb : List ℕ = (file_of x.files file).bytes in
    let yb : List ℕ = (file_of y.files file).bytes in
    let whole : joined len xb yb ≡ xb = ap (λ zs. take len xb ++ zs) (drop_all len yb fits.other) ∙ append-nil (take len xb) ∙ take_all len xb (omega (arith, fits.one)) in
    done fits ∙ ap (λ bytes. with_bytes y.files file bytes) whole

-- ---- several files

pub none_copied : (lens : List ℕ) (all : ℕ) (x y : Held) → HasCopied lens all 0 x y y
none_copied lens all x y fit = refl

same_name : (x y : Held) (k : ℕ) → map (λ (f : NamedBytes). f.name) x.files ≡ map (λ (f : NamedBytes). f.name) y.files → k < length x.files → k < length y.files → (file_of x.files k).name ≡
    (file_of y.files k).name
same_name x y k e less there =
    sym (get_or-map (λ (f : NamedBytes). f.name) x.files k (record { name = []; bytes = [] }) [] less) ∙ ap (λ names. slice_index_or names k []) e
    ∙ get_or-map (λ (f : NamedBytes). f.name) y.files k (record { name = []; bytes = [] }) [] there

as_long : (x y : Held) → map (λ (f : NamedBytes). f.name) x.files ≡ map (λ (f : NamedBytes). f.name) y.files → length x.files ≡ length y.files
as_long x y e = sym (length-map x.files (λ (f : NamedBytes). f.name)) ∙ ap (λ (ns : List (List ℕ)). length ns) e ∙ length-map y.files (λ (f : NamedBytes). f.name)

-- the file at the place where the copied ones end
seam : (xs ys : List NamedBytes) (k : ℕ) → k < length xs → k < length ys → file_of (take k xs ++ drop k ys) k ≡ file_of ys k
seam xs ys k less there =
    let front : length (take k xs) ≡ k = omega (arith, less, length-take k xs) in
    ap (λ zs. file_of (take k xs ++ zs) k) (drop_more ys k (record { name = []; bytes = [] }) there)
    ∙ ap (λ n. file_of (take k xs ++ file_of ys k ∷ drop (k + 1) ys) n) (sym front) ∙ get_or-append_seam (take k xs) (file_of ys k) (drop (k + 1) ys) (record { name = []; bytes = [] })

pub copied_next : (lens : List ℕ) (all k : ℕ) (x y y' y'' : Held) → k < all → k < length y.files → HasCopied lens all k x y y' → HasJoined k (slice_index lens k) (slice_index lens k) x y' y''
    → HasCopied lens all (k + 1) x y y''
copied_next lens all k x y y' y'' less there before file fit =
    let same = as_long x y fit.names in
    let here : k < length x.files = omega (arith, there, same) in
    let now : y'.files ≡ take k x.files ++ drop k y.files = before fit in
    let still : file_of y'.files k ≡ file_of y.files k = ap (λ fs. file_of fs k) now ∙ seam x.files y.files k here there in
    let fits = fit.fits k less in
    let fits_now : Fits (slice_index lens k) k x y' = record { one = fits.one; other = subst (λ (f : NamedBytes). length f.bytes ≤ slice_index lens k) (sym still) fits.other } in
    let made = all_joined k (slice_index lens k) x y' y'' fits_now file in
    let one : record { name = (file_of y'.files k).name; bytes = (file_of x.files k).bytes } ≡ file_of x.files k =
    ap (λ name. record { name = name; bytes = (file_of x.files k).bytes }) (ap (λ (f : NamedBytes). f.name) still ∙ sym (same_name x y k fit.names here there)) in
    let front : length (take k x.files) ≡ k = omega (arith, here, length-take k x.files) in
    made ∙ ap (λ f. slice_set y'.files k f) one ∙ ap (λ fs. slice_set fs k (file_of x.files k)) (now ∙ ap (λ zs. take k x.files ++ zs) (drop_more y.files k (record { name = []; bytes = [] }) there))
    ∙ ap (λ n. slice_set (take k x.files ++ file_of y.files k ∷ drop (k + 1) y.files) n (file_of x.files k)) (sym front)
    ∙ set-append_seam (take k x.files) (file_of y.files k) (drop (k + 1) y.files) (file_of x.files k)
    ∙ sym (append_assoc (take k x.files) (file_of x.files k ∷ []) (drop (k + 1) y.files))
    ∙ ap (λ fs. fs ++ drop (k + 1) y.files) (sym (take_more x.files k (record { name = []; bytes = [] }) here))

pub all_copied : (lens : List ℕ) (all : ℕ) (x y y' : Held) → AllFit lens all x y → length x.files ≡ all → HasCopied lens all all x y y' → x.files ≡ y'.files
all_copied lens all x y y' fit e done =
    let same = as_long x y fit.names in
    sym (done fit ∙ ap (λ zs. take all x.files ++ zs) (drop_all all y.files (omega (arith, e, same))) ∙ append-nil (take all x.files) ∙ take_all all x.files (omega (arith, e)))

-- ---- options: what is told of both sides at the start, and of the second now

abbrev pub Now : (Held → Held → Held → Type 0) → Option Held → Option Held → Option Held → Type 0
Now P x y now = IfBoth x y (λ h k. Becomes P h k now)

pub now_at_first : (P : Held → Held → Held → Type 0) → ((h k : Held) → P h k k) → (x y : Option Held) → Now P x y y
now_at_first P p None y = tt
now_at_first P p (Some h) None = tt
now_at_first P p (Some h) (Some k) = record { held = k; is = refl; so = p h k }

pub now_on : (P Q : Held → Held → Held → Type 0) (G : Held → Held → Held) → (x y now next : Option Held) → ((h k l : Held) → x ≡ Some h → y ≡ Some k → now ≡ Some l → next ≡ Some (G h l))
    → ((h k l : Held) → y ≡ Some k → now ≡ Some l → P h k l → Q h k (G h l)) → Now P x y now → Now Q x y next
now_on P Q G None y now next is step n = tt
now_on P Q G (Some h) None now next is step n = tt
now_on P Q G (Some h) (Some k) now next is step n = record { held = G h n.held; is = is h k n.held refl refl n.is; so = step h k n.held refl n.is n.so }
