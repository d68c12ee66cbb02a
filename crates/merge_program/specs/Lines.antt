-- The lines of the program.
use Rattle.std.specs.Prelude.{ℕ, zero, suc, ℤ, pos, ◌+ℤ◌, List, [], ◌∷◌, ◌++◌, length, map, codes}
use Rattle.std.specs.Fmt.{decimal, signed_decimal}
use Rattle.ac_choice.specs.declared.answers.Tagged.{Tagged}
use Rattle.ac_choice.specs.Relaying.{of_end}

abbrev pub usage_line : List ℕ
usage_line = codes "usage: ac_merge N W" ++ 10 ∷ []

abbrev pub sum_of : List ℤ → ℤ
sum_of [] = pos 0
sum_of (x ∷ xs) = x +ℤ sum_of xs

-- the values of all messages
abbrev pub values : List Tagged → List ℤ
values received = map (λ (m : Tagged). m.value) received

-- how many messages of producer i there are, and their sum
abbrev pub end_line : ℕ → List Tagged → List ℕ
end_line i received = decimal i ++ codes ": " ++ decimal (length (of_end i received)) ++ codes " messages, sum "
    ++ signed_decimal (sum_of (of_end i received)) ++ 10 ∷ []

abbrev pub total_line : List Tagged → List ℕ
total_line received = codes "total " ++ signed_decimal (sum_of (values received)) ++ 10 ∷ []

-- the lines of the first so many producers
abbrev pub end_lines : ℕ → List Tagged → List ℕ
end_lines zero received = []
end_lines (suc i) received = end_lines i received ++ end_line i received

abbrev pub merge_text : ℕ → List Tagged → List ℕ
merge_text w received = end_lines w received ++ total_line received
