-- Numbers as the whole language reads them: what `number_at` answers where it is too large, has a 0 in front, has a letter behind, or is good.
-- The bytes are split into the run of digits and what follows (`Digits`), so value, length and next byte are known, and each test of
-- `number_at` is decided by a hypothesis. A number that is read is as long as its run.
use Rattle.std.proofs.Common.{◌≡◌, ℕ, ◌+◌, ◌^◌, ◌<◌, ◌≤◌, Bool, true, false, List, [], ◌∷◌, ◌++◌, length, drop, Result, Ok, Err, refl, sym, ap, ◌∙◌, arith}
use Rattle.std.specs.Prelude.{if◌then◌else◌, ◌&&◌, nat_lt, pos}
use Rattle.std.proofs.lemmas.Bool.Decides.{nat_tests}
use Rattle.ac_lexer.specs.declared.fault.LexFault.{LexFault}
use Rattle.ac_lexer.specs.declared.fault.LexFault.TheVariants as l
use Rattle.ac_lexer.specs.declared.token.Kind.{Kind}
use Rattle.ac_lexer.specs.declared.token.Kind.TheVariants as k
use Rattle.ac_lexer.specs.declared.piece.Piece.{Piece}
use Rattle.ac_lexer.specs.Spelling.{Each, starts, value_of, is_digit, is_letter, is_zero}
use Rattle.ac_lexer.specs.inner.Reading.{run, token_piece, number_at}
use Rattle.ac_lexer.proofs.Runs.{drop_front, run_of, value_of_run, differ}

abbrev pub got : Piece → Result Piece LexFault
got p = Ok p

abbrev pub lost : LexFault → Result Piece LexFault
lost f = Err f

pub same_piece : {p q : Piece} → got p ≡ got q → p ≡ q
same_piece h = cc

pub same_fault : {f g : LexFault} → lost f ≡ lost g → f ≡ g
same_fault h = cc

pub not_both : (p : Piece) (f : LexFault) → got p ≡ lost f → ⊥
not_both p f h = cc

-- the run of digits at the front, what follows it, and what is known of its value
pub record Digits (b : ℕ) (a rest : List ℕ) : Type 0 where
  pub each : Each is_digit (b ∷ a)
  pub stops : starts is_digit rest ≡ false

num_large : (at v : ℕ) (bs : List ℕ) → value_of 0 bs ≡ v → nat_lt v (2 ^ 63) ≡ false → number_at at bs ≡ Err (l.NumberTooLarge at)
unfolding number_at
num_large at v bs e h = rw (e, h) refl

num_zero : (at v n : ℕ) (bs : List ℕ) → value_of 0 bs ≡ v → nat_lt v (2 ^ 63) ≡ true → run is_digit bs ≡ n → (starts is_zero bs && nat_lt 1 n) ≡ true → number_at at bs ≡ Err (l.BadByte (at + 1))
unfolding number_at
num_zero at v n bs e h r z = rw (e, h, r, z) refl

num_letter : (at v n : ℕ) (bs : List ℕ) → value_of 0 bs ≡ v → nat_lt v (2 ^ 63) ≡ true → run is_digit bs ≡ n → (starts is_zero bs && nat_lt 1 n) ≡ false → starts is_letter (drop n bs) ≡ true
    → number_at at bs ≡ Err (l.BadByte (at + n))
unfolding number_at
num_letter at v n bs e h r z s = rw (e, h, r, z, s) refl

num_good : (at v n : ℕ) (bs : List ℕ) → value_of 0 bs ≡ v → nat_lt v (2 ^ 63) ≡ true → run is_digit bs ≡ n → (starts is_zero bs && nat_lt 1 n) ≡ false → starts is_letter (drop n bs) ≡ false
    → number_at at bs ≡ Ok (token_piece (k.Number (pos v)) n)
unfolding number_at
num_good at v n bs e h r z s = rw (e, h, r, z, s) refl

pub below : (v : ℕ) → v < 2 ^ 63 → nat_lt v (2 ^ 63) ≡ true
below v h = grind (arith, nat_tests)

pub not_below : (v : ℕ) → 2 ^ 63 ≤ v → nat_lt v (2 ^ 63) ≡ false
not_below v h = grind (arith, nat_tests)

pub below_is : (v : ℕ) → nat_lt v (2 ^ 63) ≡ true → v < 2 ^ 63
below_is v h = grind (arith, nat_tests)

pub not_below_is : (v : ℕ) → nat_lt v (2 ^ 63) ≡ false → 2 ^ 63 ≤ v
not_below_is v h = grind (arith, nat_tests)

pub number_large : (at b : ℕ) (a rest : List ℕ) → Digits b a rest → 2 ^ 63 ≤ value_of 0 (b ∷ a) → number_at at (b ∷ (a ++ rest)) ≡ Err (l.NumberTooLarge at)
number_large at b a rest d h = num_large at (value_of 0 (b ∷ a)) (b ∷ (a ++ rest)) (value_of_run 0 (b ∷ a) rest d.each d.stops) (not_below (value_of 0 (b ∷ a)) h)

pub number_zero : (at b : ℕ) (a rest : List ℕ) → Digits b a rest → value_of 0 (b ∷ a) < 2 ^ 63 → (is_zero b && nat_lt 1 (length (b ∷ a))) ≡ true
    → number_at at (b ∷ (a ++ rest)) ≡ Err (l.BadByte (at + 1))
number_zero at b a rest d h z =
    num_zero at (value_of 0 (b ∷ a)) (length (b ∷ a)) (b ∷ (a ++ rest)) (value_of_run 0 (b ∷ a) rest d.each d.stops) (below (value_of 0 (b ∷ a)) h) (run_of is_digit (b ∷ a) rest d.each d.stops) z

pub number_letter : (at b : ℕ) (a rest : List ℕ) → Digits b a rest → value_of 0 (b ∷ a) < 2 ^ 63 → (is_zero b && nat_lt 1 (length (b ∷ a))) ≡ false → starts is_letter rest ≡ true
    → number_at at (b ∷ (a ++ rest)) ≡ Err (l.BadByte (at + length (b ∷ a)))
number_letter at b a rest d h z s =
    num_letter at (value_of 0 (b ∷ a)) (length (b ∷ a)) (b ∷ (a ++ rest)) (value_of_run 0 (b ∷ a) rest d.each d.stops) (below (value_of 0 (b ∷ a)) h) (run_of is_digit (b ∷ a) rest d.each d.stops) z
    (ap (starts is_letter) (drop_front (b ∷ a) rest) ∙ s)

pub number_good : (at b : ℕ) (a rest : List ℕ) → Digits b a rest → value_of 0 (b ∷ a) < 2 ^ 63 → (is_zero b && nat_lt 1 (length (b ∷ a))) ≡ false → starts is_letter rest ≡ false
    → number_at at (b ∷ (a ++ rest)) ≡ Ok (token_piece (k.Number (pos (value_of 0 (b ∷ a)))) (length (b ∷ a)))
number_good at b a rest d h z s =
    num_good at (value_of 0 (b ∷ a)) (length (b ∷ a)) (b ∷ (a ++ rest)) (value_of_run 0 (b ∷ a) rest d.each d.stops) (below (value_of 0 (b ∷ a)) h) (run_of is_digit (b ∷ a) rest d.each d.stops) z
    (ap (starts is_letter) (drop_front (b ∷ a) rest) ∙ s)

-- a number that is read is as long as the run of digits
len_case : (at : ℕ) (t u v : Bool) (n : ℕ) (kind : Kind) (p : Piece) → (if t then (if u then lost (l.BadByte (at + 1)) else (if v then lost (l.BadByte (at + n)) else got (token_piece kind n)))
    else lost (l.NumberTooLarge at)) ≡ Ok p → p.len ≡ n
len_case at false u v n kind p h = absurd (not_both p (l.NumberTooLarge at) (sym h))
len_case at true true v n kind p h = absurd (not_both p (l.BadByte (at + 1)) (sym h))
len_case at true false true n kind p h = absurd (not_both p (l.BadByte (at + n)) (sym h))
len_case at true false false n kind p h = sym (ap (λ (p : Piece). p.len) (same_piece h))

pub number_len : (at : ℕ) (bs : List ℕ) (p : Piece) → number_at at bs ≡ Ok p → p.len ≡ run is_digit bs
unfolding number_at
number_len at bs p h =
    len_case at (nat_lt (value_of 0 bs) (2 ^ 63)) (starts is_zero bs && nat_lt 1 (run is_digit bs)) (starts is_letter (drop (run is_digit bs) bs)) (run is_digit bs)
    (k.Number (pos (value_of 0 bs))) p h

-- ---- numbers that begin with 0

pub zero_many : (b c : ℕ) (a : List ℕ) → is_zero b ≡ true → (is_zero b && nat_lt 1 (length (b ∷ c ∷ a))) ≡ true
zero_many b c a z = let g : nat_lt 1 (length (b ∷ c ∷ a)) ≡ true = grind (arith, nat_tests) in rw (z, g) refl

pub zero_alone : (b : ℕ) (a : List ℕ) (t : Bool) → is_zero b ≡ t → (is_zero b ≡ true → a ≡ []) → (is_zero b && nat_lt 1 (length (b ∷ a))) ≡ false
zero_alone b a true z h = rw (z, h z) refl
zero_alone b a false z h = rw z refl

pub alone_if : (b : ℕ) (a : List ℕ) → (is_zero b && nat_lt 1 (length (b ∷ a))) ≡ false → is_zero b ≡ true → a ≡ []
alone_if b [] h z = refl
alone_if b (c ∷ a) h z = absurd (differ (is_zero b && nat_lt 1 (length (b ∷ c ∷ a))) (zero_many b c a z) h)
