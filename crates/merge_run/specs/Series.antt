-- What the producers of a merge send, and what a merge of it is.
use Rattle.std.specs.Prelude.{◌≡◌, ℕ, zero, suc, ℤ, pos, ◌+◌, ◌*◌, List, [], ◌∷◌, ◌++◌, nat_lt, if◌then◌else◌}
use Rattle.ac_choice.specs.declared.answers.Tagged.{Tagged}
use Rattle.ac_choice.specs.Relaying.{of_end}

-- the numbers j * width + tag, for each j below n, in order
abbrev pub series : ℕ → ℕ → ℕ → List ℤ
series zero width tag = []
series (suc n) width tag = series n width tag ++ pos (n * width + tag) ∷ []

-- what the producer of this number sends, if there is one
abbrev pub sent_by : ℕ → ℕ → ℕ → List ℤ
sent_by n width i = if nat_lt i width then series n width i else []

-- of each of so many producers it is what that has sent, whole and in order, and there is nothing else
abbrev pub IsMerged : ℕ → ℕ → List Tagged → Type 0
IsMerged n width received = (i : ℕ) → of_end i received ≡ sent_by n width i
