-- Bytes that are written into a file, to whose end zeros have gone where it was too short for them (`put_back`, for `overwrite`).
-- What stands before the place and what stands behind the bytes is that of the file or zeros, by whether the file reached so far: two cases each.
use Rattle.std.proofs.Common.{◌≡◌, ◌≢◌, ℕ, ◌+◌, ◌-◌, ◌≤◌, ◌⊎◌, List, [], ◌∷◌, ◌++◌, refl, sym, ap, ◌∙◌, arith, length, take, drop, inl, inr, append-nil}
use Rattle.std.specs.Prelude.{replicate}
use Rattle.std.proofs.Math.Seq.{take-append-add}
use Rattle.std.proofs.lemmas.List.{take-append-le, take_all, drop_all, take_at, take-replicate, length-append, length-replicate}
use Rattle.file_bytes.specs.Overwritten.{overwritten}

abbrev pub lengthened : List ℕ → ℕ → List ℕ
lengthened file len = file ++ replicate (len - length file) 0

either : (m n : ℕ) → (m ≤ n) ⊎ (n ≤ m)
either m n = grind arith

-- what stands before a place of it
before : (file : List ℕ) (from len : ℕ) → from ≤ len → (from ≤ length file) ⊎ (length file ≤ from)
    → take from (lengthened file len) ≡ take from file ++ replicate (from - length file) 0
before file from len le (inl short) =
    let none : from - length file ≡ 0 = omega arith in
    take-append-le from file (replicate (len - length file) 0) short ∙ sym (append-nil (take from file)) ∙ ap (λ n. take from file ++ replicate n 0) (sym none)
before file from len le (inr long) =
    let e : from ≡ length file + (from - length file) = omega arith in
    ap (λ n. take n (lengthened file len)) e ∙ take-append-add file (replicate (len - length file) 0) (from - length file)
    ∙ ap (λ xs. file ++ xs) (take-replicate (from - length file) (len - length file) 0 (omega arith))
    ∙ ap (λ xs. xs ++ replicate (from - length file) 0) (sym (take_all from file long))

-- what stands from its length on
behind : (file : List ℕ) (len : ℕ) → (len ≤ length file) ⊎ (length file ≤ len) → drop len (lengthened file len) ≡ drop len file
behind file len (inl short) =
    let none : len - length file ≡ 0 = omega arith in
    ap (λ n. drop len (file ++ replicate n 0)) none ∙ ap (drop len) (append-nil file)
behind file len (inr long) =
    drop_all len (lengthened file len) (omega (arith, length-append file (replicate (len - length file) 0), length-replicate {A = ℕ} (len - length file) 0)) ∙ sym (drop_all len file long)

put_in : (file : List ℕ) (from : ℕ) (b : ℕ) (bs : List ℕ)
    → take from (lengthened file (from + length (b ∷ bs))) ++ (b ∷ bs) ++ drop (from + length (b ∷ bs)) (lengthened file (from + length (b ∷ bs))) ≡ overwritten file from (b ∷ bs)
put_in file from b bs =
    let end : ℕ = from + length (b ∷ bs) in
    ap (λ xs. xs ++ (b ∷ bs) ++ drop end (lengthened file end)) (before file from end (omega arith) (either from (length file)))
    ∙ ap (λ xs. take from file ++ replicate (from - length file) 0 ++ (b ∷ bs) ++ xs) (behind file end (either end (length file)))

-- `seen` is the file that was made long enough, as the bytes are put into it, and `new` what is there then
pub put_back : (file bytes given seen new : List ℕ) (from len : ℕ) → bytes ≢ [] → given ≡ lengthened file (from + length bytes) → seen ≡ given
    → length seen ≡ len → length new ≡ length seen → new ≡ take from seen ++ bytes ++ drop (from + length bytes) seen
    → take len (new ++ drop (length new) given) ≡ overwritten file from bytes
put_back file [] given seen new from len some g s l n e = absurd (some refl)
put_back file (b ∷ bs) given seen new from len some g s l n e =
    take_at new (drop (length new) given) len (n ∙ l) ∙ e
    ∙ ap (λ xs. take from xs ++ (b ∷ bs) ++ drop (from + length (b ∷ bs)) xs) (s ∙ g) ∙ put_in file from b bs
