-- Laying words over the first of a list, one by one.
-- For the loop of `refill`, which uses the list of a frame that is gone for a new one: the invariant is that so many words are those of
-- the other list, and in the end what was given stands there, with 0 behind it. `zero_from` sets a few words to 0 one by one, and then the rest.
use Rattle.std.proofs.Common.{◌≡◌, ℕ, ℤ, pos, zero, suc, ◌+◌, ◌-◌, ◌<◌, ◌≤◌, List, [], ◌∷◌, ◌++◌}
use Rattle.std.proofs.Common.{length, take, drop, replicate, refl, sym, ap, ◌∙◌, arith, set, length-set, append_assoc, slice_index_or}
use Rattle.std.proofs.lemmas.List.{append-nil, length-drop, drop_all, take_all, take_more_set}

-- the words, of which so many are those of the other list
abbrev pub laid : ℕ → List ℤ → List ℤ → List ℤ
laid zero over words = words
laid (suc n) [] words = words
laid (suc n) (x ∷ over) [] = []
laid (suc n) (x ∷ over) (y ∷ words) = x ∷ laid n over words

pub length-laid : (n : ℕ) (over words : List ℤ) → length (laid n over words) ≡ length words
length-laid zero over words = refl
length-laid (suc n) [] words = refl
length-laid (suc n) (x ∷ over) [] = refl
length-laid (suc n) (x ∷ over) (y ∷ words) = ap suc (length-laid n over words)

more : (n : ℕ) (over words : List ℤ) → n < length over → n < length words → set (laid n over words) n (slice_index_or over n (pos 0)) ≡ laid (suc n) over words
more n [] words h k = absurd (omega arith)
more n (x ∷ over) [] h k = absurd (omega arith)
more zero (x ∷ over) (y ∷ words) h k = refl
more (suc n) (x ∷ over) (y ∷ words) h k = ap (λ ys. x ∷ ys) (more n over words (omega arith) (omega arith))

pub laid_more : (n : ℕ) (over words : List ℤ) → n < length over → n < length words
    → set (laid n over words) n (slice_index_or over n (pos 0)) ≡ laid (n + 1) over words
laid_more n over words h k = let e : suc n ≡ n + 1 = omega arith in more n over words h k ∙ ap (λ m. laid m over words) e

pub laid_all : (over words : List ℤ) → length over ≤ length words → take (length over) (laid (length over) over words) ≡ over
laid_all [] words h = refl
laid_all (x ∷ over) [] h = absurd (omega arith)
laid_all (x ∷ over) (y ∷ words) h = ap (λ ys. x ∷ ys) (laid_all over words (omega arith))

-- and with zeros in the place of the rest
pub refilled : (over words now : List ℤ) → length over ≤ length words → now ≡ laid (length over) over words
    → take (length over) now ++ replicate (length now - length over) (pos 0) ≡ over ++ replicate (length words - length over) (pos 0)
refilled over words now h is =
    let n = length over in
    let long : length now ≡ length words = ap length is ∙ length-laid n over words in
    let begin : take n now ≡ over = ap (λ xs. take n xs) is ∙ laid_all over words h in
    ap (λ xs. xs ++ replicate (length now - n) (pos 0)) begin ∙ ap (λ k. over ++ replicate (k - n) (pos 0)) long

-- ---- zeros from a place on

abbrev pub zeroed : List ℤ → ℕ → List ℤ
zeroed words from = take from words ++ replicate (length words - from) (pos 0)

pub zeroed_all : (words : List ℤ) (from : ℕ) → from ≡ length words → words ≡ zeroed words from
zeroed_all words from is =
    let none : zero ≡ length words - from = omega (arith, is) in
    sym (append-nil words) ∙ ap (λ xs. xs ++ []) (sym (take_all from words (omega (arith, is)))) ∙ ap (λ k. take from words ++ replicate k (pos 0)) none

-- one zero more
pub zeroed_one : (words : List ℤ) (from : ℕ) → from < length words → zeroed (set words from (pos 0)) (from + 1) ≡ zeroed words from
zeroed_one words from lt =
    let left = length words - (from + 1) in
    let many : length (set words from (pos 0)) - (from + 1) ≡ left = ap (λ k. k - (from + 1)) (length-set words from (pos 0)) in
    let more : suc left ≡ length words - from = omega (arith, lt) in
    ap (λ k. take (from + 1) (set words from (pos 0)) ++ replicate k (pos 0)) many
    ∙ ap (λ xs. xs ++ replicate left (pos 0)) (take_more_set words from (pos 0) lt)
    ∙ append_assoc (take from words) (pos 0 ∷ []) (replicate left (pos 0))
    ∙ ap (λ k. take from words ++ replicate k (pos 0)) more

pub zeroed_two : (words : List ℤ) (from : ℕ) → from + 1 < length words → zeroed (set (set words from (pos 0)) (from + 1) (pos 0)) (from + 2) ≡ zeroed words from
zeroed_two words from lt =
    let one = set words from (pos 0) in
    let next : from + 2 ≡ from + 1 + 1 = omega arith in
    ap (λ k. zeroed (set one (from + 1) (pos 0)) k) next
    ∙ zeroed_one one (from + 1) (omega (arith, lt, length-set words from (pos 0))) ∙ zeroed_one words from (omega (arith, lt))

-- the rest, where so many are filled at once
pub zeroed_rest : (words : List ℤ) (from : ℕ) (zeros : List ℤ) → from ≤ length words → zeros ≡ replicate (length (take (length words - from) (drop from words))) (pos 0)
    → take from words ++ (zeros ++ drop (length words - from) (drop from words)) ≡ zeroed words from
zeroed_rest words from zeros le e =
    let left = length words - from in
    let few : length (drop from words) ≡ left = length-drop from words in
    let none : drop left (drop from words) ≡ [] = drop_all left (drop from words) (omega (arith, few)) in
    let many : length (take left (drop from words)) ≡ left = ap length (take_all left (drop from words) (omega (arith, few))) ∙ few in
    ap (λ ys. take from words ++ (zeros ++ ys)) none ∙ ap (λ ys. take from words ++ ys) (append-nil zeros ∙ e ∙ ap (λ k. replicate k (pos 0)) many)
