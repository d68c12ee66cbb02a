-- The value of digits only grows, by induction on the bytes. So digits that are too large already stay so whatever follows (`too_large`),
-- and the loop of `number` may stop there.
use Rattle.std.proofs.Common.{◌≡◌, ℕ, ◌+◌, ◌-◌, ◌*◌, ◌≤◌, ◌^◌, Bool, true, false, List, [], ◌∷◌, arith}
use Rattle.std.specs.Prelude.{if◌then◌else◌}
use Rattle.ac_lexer.specs.Spelling.{is_digit, value_of}

one_digit : (n m : ℕ) (b : ℕ) (bs : List ℕ) (t : Bool) → n * 10 + (b - 48) ≤ value_of (n * 10 + (b - 48)) bs → n ≤ (if t then value_of (n * 10 + (b - 48)) bs else n)
one_digit n m b bs true h = omega arith
one_digit n m b bs false h = omega arith

pub grows : (n : ℕ) (bs : List ℕ) → n ≤ value_of n bs
grows n [] = omega arith
grows n (b ∷ bs) = one_digit n n b bs (is_digit b) (grows (n * 10 + (b - 48)) bs)

pub too_large : (n b : ℕ) (bs : List ℕ) → is_digit b ≡ true → 2 ^ 63 ≤ n * 10 + (b - 48) → 2 ^ 63 ≤ value_of n (b ∷ bs)
too_large n b bs h le = rw h (let g : n * 10 + (b - 48) ≤ value_of (n * 10 + (b - 48)) bs = grows (n * 10 + (b - 48)) bs in omega arith)
