-- Bytes read so far, and the bytes of the pairs that are left: together they stay the bytes of the whole word, which is what the loop over
-- the digits keeps.
use Rattle.std.proofs.Common.{◌≡◌, ℕ, ◌-◌, ◌≤◌, List, [], ◌∷◌, ◌++◌, length, get_or, take, drop, refl, ap, ◌∙◌, append_assoc, arith}
use Rattle.std.proofs.lemmas.List.{take_all}
use Rattle.std.specs.Prelude.{Option, Some, None}
use Rattle.trace_text.specs.inner.Reading.{byte_before, byte_of, digit_of, pairs_of}

-- the bytes behind those, if there are any
abbrev pub behind : List ℕ → Option (List ℕ) → Option (List ℕ)
behind bs None = None
behind bs (Some cs) = Some (bs ++ cs)

abbrev list : List ℕ → Option (List ℕ)
list bs = Some bs

-- a byte more among those is one less to come
pub one_more : (bs : List ℕ) (b : ℕ) (rest : Option (List ℕ)) → behind (bs ++ b ∷ []) rest ≡ behind bs (byte_before (Some b) rest)
one_more bs b None = refl
one_more bs b (Some cs) = ap list (append_assoc bs (b ∷ []) cs)

-- the byte of the next two digits is read, and two digits less are left
pub next_pair : (bytes more digits : List ℕ) (b : ℕ) → 2 ≤ length digits → Some b ≡ byte_of (digit_of (get_or digits 0 0)) (digit_of (get_or digits 1 0)) → more ≡ bytes ++ b ∷ []
    → behind more (pairs_of (take (length digits - 2) (drop 2 digits))) ≡ behind bytes (pairs_of digits)
next_pair bytes more [] b two byte added = absurd (omega (arith, two))
next_pair bytes more (h ∷ []) b two byte added = absurd (omega (arith, two))
next_pair bytes more (h ∷ l ∷ digits) b two byte added =
    ap (λ (bs : List ℕ). behind more (pairs_of bs)) (take_all (length (h ∷ l ∷ digits) - 2) digits (omega arith))
    ∙ (ap (λ (bs : List ℕ). behind bs (pairs_of digits)) added
    ∙ (one_more bytes b (pairs_of digits) ∙ ap (λ (o : Option ℕ). behind bytes (byte_before o (pairs_of digits))) byte))
