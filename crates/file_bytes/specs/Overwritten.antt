-- What bytes that are written make of a file.
use Rattle.std.specs.Prelude.{ℕ, ◌+◌, ◌-◌, List, [], ◌∷◌, ◌++◌, length, take, drop, replicate}

-- the file with these bytes at this place, a gap before them filled with zeros; no bytes change nothing
abbrev pub overwritten : List ℕ → ℕ → List ℕ → List ℕ
overwritten file from [] = file
overwritten file from (b ∷ bs) =
    take from file ++ replicate (from - length file) 0 ++ (b ∷ bs) ++ drop (from + length (b ∷ bs)) file
