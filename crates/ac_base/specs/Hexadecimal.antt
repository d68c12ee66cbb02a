-- Bytes in lower-case hexadecimal.
use Rattle.std.specs.Prelude.{ℕ, ◌+◌, ◌-◌, ◌/◌, ◌%◌, List, [], ◌∷◌, codes, nat_lt, if◌then◌else◌}

abbrev pub hex_digit : ℕ → ℕ
hex_digit n = if nat_lt n 10 then 48 + n else 97 + (n - 10)

-- two digits a byte
abbrev pub hex_digits : List ℕ → List ℕ
hex_digits [] = []
hex_digits (b ∷ bs) = hex_digit (b / 16) ∷ hex_digit (b % 16) ∷ hex_digits bs

-- no bytes are a `-`, so that there is a word
abbrev pub hex_of : List ℕ → List ℕ
hex_of [] = codes "-"
hex_of (b ∷ bs) = hex_digits (b ∷ bs)
