-- A search for the functions that are reached, as lists.
use Rattle.std.specs.Prelude.{ℕ, ◌+◌, List, [], ◌∷◌, ◌++◌, slice_get, slice_set, Option, None, Some, Bool, true, false}
use Rattle.ac_reach.specs.declared.reached.Reached.{Reached}
use Rattle.ac_reach.specs.declared.reached.Reached.TheVariants as r

-- for each function whether it is found, and those that are, in the order in which they were found
pub record Finding : Type 0 where
  pub flags : List Bool
  pub found : List ℕ

abbrev pub no_flags : List (List ℕ) → List Bool
no_flags [] = []
no_flags (row ∷ calls) = false ∷ no_flags calls

abbrev pub nothing_found : List (List ℕ) → Finding
nothing_found calls = record { flags = no_flags calls; found = [] }

abbrev pub found_by : Option Bool → ℕ → Finding → Finding
found_by (Some false) function s = record { flags = slice_set s.flags function true; found = s.found ++ function ∷ [] }
found_by _ function s = s

-- one function more, unless it is found or there is none of that number
abbrev pub with_found : ℕ → Finding → Finding
with_found function s = found_by (slice_get s.flags function) function s

abbrev pub with_all : List ℕ → Finding → Finding
with_all [] s = s
with_all (function ∷ functions) s = with_all functions (with_found function s)

abbrev pub with_entry : Option ℕ → Finding → Finding
with_entry None s = s
with_entry (Some function) s = with_found function s

abbrev pub row_of : Option (List ℕ) → List ℕ
row_of None = []
row_of (Some row) = row

-- those that a function calls
abbrev pub with_calls : List (List ℕ) → ℕ → Finding → Finding
with_calls calls function s = with_all (row_of (slice_get calls function)) s

-- one core more reaches a function
abbrev pub joined : Reached → ℕ → Reached
joined r.ByNone core = r.ByOne core
joined (r.ByOne one) core = r.BySeveral
joined r.BySeveral core = r.BySeveral

abbrev pub joined_if : Option Bool → ℕ → Reached → Reached
joined_if (Some true) core reached = joined reached core
joined_if _ core reached = reached

-- which cores reach a function, by the flags of the cores from a number on
abbrev pub row_from : ℕ → ℕ → Reached → List (List Bool) → Reached
row_from function core reached [] = reached
row_from function core reached (flags ∷ table) = row_from function (core + 1) (joined_if (slice_get flags function) core reached) table

-- the same for each of so many functions from a number on
abbrev pub rows_from : ℕ → List (List ℕ) → List (List Bool) → List Reached
rows_from function [] table = []
rows_from function (row ∷ calls) table = row_from function 0 r.ByNone table ∷ rows_from (function + 1) calls table
