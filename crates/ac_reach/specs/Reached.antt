-- What is reached from an entry.
use Rattle.std.specs.Prelude.{◌≡◌, ℕ, ◌<◌, List, [], ◌∷◌, length, slice_get, Option, None, Some, Bool, true}
use Rattle.ac_reach.specs.declared.reached.Reached.{Reached}
use Rattle.ac_reach.specs.declared.reached.Reached.TheVariants as r

-- a function is in a list
pub data IsAmong (function : ℕ) : List ℕ → Type 0 where
  here_is : (others : List ℕ) → IsAmong function (function ∷ others)
  later_is : (other : ℕ) (others : List ℕ) → IsAmong function others → IsAmong function (other ∷ others)

-- one function calls another
pub record IsCalled (calls : List (List ℕ)) (caller function : ℕ) : Type 0 where
  pub row : List ℕ
  pub stands : slice_get calls caller ≡ Some row
  pub among : IsAmong function row

-- a function is the entry, or one that is reached calls it
pub data ReachedFrom (calls : List (List ℕ)) (entry : Option ℕ) : ℕ → Type 0 where
  is_entry : (function : ℕ) → entry ≡ Some function → ReachedFrom calls entry function
  is_called : (caller function : ℕ) → ReachedFrom calls entry caller → IsCalled calls caller function → ReachedFrom calls entry function

abbrev pub entry_in : Option (Option ℕ) → Option ℕ
entry_in None = None
entry_in (Some entry) = entry

-- a core reaches a function, where each core enters the function of its number among the entries
abbrev pub Reaches : List (List ℕ) → List (Option ℕ) → ℕ → ℕ → Type 0
Reaches calls entries core function = ReachedFrom calls (entry_in (slice_get entries core)) function

-- two cores that both reach a function
pub record AreTwo (calls : List (List ℕ)) (entries : List (Option ℕ)) (function : ℕ) : Type 0 where
  pub one : ℕ
  pub other : ℕ
  pub differ : one ≡ other → ⊥
  pub one_does : Reaches calls entries one function
  pub other_does : Reaches calls entries other function

abbrev pub IsReachedBy : List (List ℕ) → List (Option ℕ) → ℕ → Reached → Type 0
IsReachedBy calls entries function r.ByNone = (core : ℕ) → Reaches calls entries core function → ⊥
IsReachedBy calls entries function (r.ByOne k) = Reaches calls entries k function
    × ((core : ℕ) → Reaches calls entries core function → core ≡ k)
IsReachedBy calls entries function r.BySeveral = AreTwo calls entries function

-- the row of each function says which cores reach it
pub record AreRows (calls : List (List ℕ)) (entries : List (Option ℕ)) (rows : List Reached) : Type 0 where
  pub count : length rows ≡ length calls
  pub each : (function : ℕ) (row : Reached) → slice_get rows function ≡ Some row → IsReachedBy calls entries function row

-- the flag of each function says whether it is reached
pub record AreFlags (calls : List (List ℕ)) (entry : Option ℕ) (flags : List Bool) : Type 0 where
  pub count : length flags ≡ length calls
  pub sound : (function : ℕ) → slice_get flags function ≡ Some true → ReachedFrom calls entry function
  pub whole : (function : ℕ) → function < length calls → ReachedFrom calls entry function → slice_get flags function ≡ Some true

-- the flags of each core, by the function that it enters
abbrev pub AreAll : List (List ℕ) → List (Option ℕ) → List (List Bool) → Type 0
AreAll calls [] [] = Unit {0}
AreAll calls [] (flags ∷ table) = ⊥
AreAll calls (entry ∷ entries) [] = ⊥
AreAll calls (entry ∷ entries) (flags ∷ table) = AreFlags calls entry flags × AreAll calls entries table
