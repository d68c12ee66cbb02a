-- Three functions, of which the first calls the second and the third the first, and three cores: what they reach.
-- That something is reached is shown call by call; that a core reaches nothing else, by induction on how it is reached, with a bound that each
-- call keeps (`first_two`).
use Rattle.std.proofs.Common.{◌≡◌, refl, subst, ℕ, zero, suc, ◌<◌, ◌≤◌, true, false, List, [], ◌∷◌, Option, Some, None, arith}
use Rattle.std.specs.Prelude.{slice_get}
use Rattle.ac_reach.specs.declared.reached.Reached.{Reached}
use Rattle.ac_reach.specs.declared.reached.Reached.TheVariants as r
use Rattle.ac_reach.specs.Reached.{IsAmong, here_is, later_is, IsCalled, ReachedFrom, is_entry, is_called, entry_in, Reaches, AreTwo, IsReachedBy, AreRows, AreFlags, AreAll}

-- ---- lists of numbers

pub it_is_among : IsAmong 5 (3 ∷ 5 ∷ [])
it_is_among = later_is 3 (5 ∷ []) (here_is [])

among_none : (n : ℕ) (ns : List ℕ) → IsAmong n ns → ns ≡ [] → ⊥
among_none n _ (here_is others) e = cc
among_none n _ (later_is other others h) e = cc

among_one : (n k : ℕ) (ns : List ℕ) → IsAmong n ns → ns ≡ k ∷ [] → n ≡ k
among_one n k _ (here_is others) e = cc
among_one n k _ (later_is other others h) e = absurd (among_none n others h (cc (e)))

pub it_is_not : IsAmong 5 (3 ∷ []) → ⊥
it_is_not h = let e : 5 ≡ 3 = among_one 5 3 (3 ∷ []) h refl in omega (arith, e)

-- ---- calls

abbrev pub calls : List (List ℕ)
calls = (1 ∷ []) ∷ [] ∷ (0 ∷ []) ∷ []

-- the second core enters no function
abbrev pub entries : List (Option ℕ)
entries = Some 0 ∷ None ∷ Some 2 ∷ []

pub the_first_calls_the_second : IsCalled calls 0 1
the_first_calls_the_second = record { row = 1 ∷ []; stands = refl; among = here_is [] }

pub the_third_calls_the_first : IsCalled calls 2 0
the_third_calls_the_first = record { row = 0 ∷ []; stands = refl; among = here_is [] }

same_row : (a b : List ℕ) → Some a ≡ Some b → b ≡ a
same_row a b e = cc

pub the_second_calls_none : (function : ℕ) → IsCalled calls 1 function → ⊥
the_second_calls_none function h = among_none function h.row h.among (same_row [] h.row h.stands)

-- ---- what is reached

pub the_third_core_reaches_the_second_function : Reaches calls entries 2 1
the_third_core_reaches_the_second_function = is_called 0 1 (is_called 2 0 (is_entry 2 refl) the_third_calls_the_first) the_first_calls_the_second

pub the_first_core_reaches_the_first_function : Reaches calls entries 0 0
the_first_core_reaches_the_first_function = is_entry 0 refl

pub none_reached : (calls : List (List ℕ)) (entry : Option ℕ) (function : ℕ) → entry ≡ None → ReachedFrom calls entry function → ⊥
none_reached calls entry function e (is_entry _ h) = cc
none_reached calls entry function e (is_called caller _ h c) = none_reached calls entry caller e h

pub the_second_core_reaches_none : (function : ℕ) → Reaches calls entries 1 function → ⊥
the_second_core_reaches_none function h = none_reached calls None function refl h

same_number : (a b : ℕ) → Some a ≡ Some b → a ≡ b
same_number a b e = cc

-- the first core stays with the first two functions
first_two : (function : ℕ) → ReachedFrom calls (Some 0) function → function ≤ 1
first_two function (is_entry _ h) = let e = same_number 0 function h in omega (arith, e)
first_two function (is_called zero _ h c) = let e = among_one function 1 c.row c.among (same_row (1 ∷ []) c.row c.stands) in omega (arith, e)
first_two function (is_called (suc zero) _ h c) = absurd (the_second_calls_none function c)
first_two function (is_called (suc (suc n)) _ h c) = let le = first_two (suc (suc n)) h in absurd (omega (arith, le))

pub the_first_core_does_not_reach_the_third_function : Reaches calls entries 0 2 → ⊥
the_first_core_does_not_reach_the_third_function h = let le = first_two 2 h in omega (arith, le)

pub a_core_that_is_not_there : entry_in (slice_get entries 3) ≡ None
a_core_that_is_not_there = refl

-- ---- which cores reach a function

pub two_cores_reach_the_second : AreTwo calls entries 1
two_cores_reach_the_second = record {
  one = 0;
  other = 2;
  differ = λ e. omega (arith, e);
  one_does = is_called 0 1 (is_entry 0 refl) the_first_calls_the_second;
  other_does = the_third_core_reaches_the_second_function;
}

pub several_reach_the_second : IsReachedBy calls entries 1 r.BySeveral
several_reach_the_second = two_cores_reach_the_second

only_third : (core : ℕ) → Reaches calls entries core 2 → core ≡ 2
only_third zero h = absurd (the_first_core_does_not_reach_the_third_function h)
only_third (suc zero) h = absurd (the_second_core_reaches_none 2 h)
only_third (suc (suc zero)) h = refl
only_third (suc (suc (suc n))) h = absurd (none_reached calls (entry_in (slice_get entries (suc (suc (suc n))))) 2 refl h)

pub one_reaches_the_third : IsReachedBy calls entries 2 (r.ByOne 2)
one_reaches_the_third = (is_entry 2 refl, only_third)

pub not_none_reaches_it : IsReachedBy calls entries 2 r.ByNone → ⊥
not_none_reaches_it h = h 2 (is_entry 2 refl)

two_reach_the_first : AreTwo calls entries 0
two_reach_the_first = record {
  one = 0;
  other = 2;
  differ = λ e. omega (arith, e);
  one_does = is_entry 0 refl;
  other_does = is_called 2 0 (is_entry 2 refl) the_third_calls_the_first;
}

abbrev pub rows : List Reached
rows = r.BySeveral ∷ r.BySeveral ∷ r.ByOne 2 ∷ []

same_reached : (a b : Reached) → Some a ≡ Some b → a ≡ b
same_reached a b e = cc

pub their_rows : AreRows calls entries rows
their_rows = record { count = refl; each = each } where
  each : (function : ℕ) (row : Reached) → slice_get rows function ≡ Some row → IsReachedBy calls entries function row
  each zero row e = subst (IsReachedBy calls entries 0) (same_reached r.BySeveral row e) two_reach_the_first
  each (suc zero) row e = subst (IsReachedBy calls entries 1) (same_reached r.BySeveral row e) two_cores_reach_the_second
  each (suc (suc zero)) row e = subst (IsReachedBy calls entries 2) (same_reached (r.ByOne 2) row e) one_reaches_the_third
  each (suc (suc (suc n))) row e = cc

pub a_row_too_few : AreRows calls entries (r.BySeveral ∷ r.BySeveral ∷ []) → ⊥
a_row_too_few h = let e = h.count in omega (arith, e)

-- ---- one function that calls none, and the core that enters it

pub only_core : (core : ℕ) → Reaches ([] ∷ []) (Some 0 ∷ []) core 0 → core ≡ 0
only_core zero h = refl
only_core (suc core) h = absurd (none_reached ([] ∷ []) _ 0 refl h)

pub one_row : AreRows ([] ∷ []) (Some 0 ∷ []) (r.ByOne 0 ∷ [])
one_row = record { count = refl; each = each } where
  each : (function : ℕ) (row : Reached) → slice_get (r.ByOne 0 ∷ []) function ≡ Some row → IsReachedBy ([] ∷ []) (Some 0 ∷ []) function row
  each zero row e = subst (IsReachedBy ([] ∷ []) (Some 0 ∷ []) 0) (same_reached (r.ByOne 0) row e) (is_entry 0 refl, only_core)
  each (suc function) row e = cc

-- ---- flags of one core

pub its_flags : AreFlags calls (Some 0) (true ∷ true ∷ false ∷ [])
its_flags = record { count = refl; sound = sound; whole = whole } where
  sound : (function : ℕ) → slice_get (true ∷ true ∷ false ∷ []) function ≡ Some true → ReachedFrom calls (Some 0) function
  sound zero e = is_entry 0 refl
  sound (suc zero) e = is_called 0 1 (is_entry 0 refl) the_first_calls_the_second
  sound (suc (suc zero)) e = cc
  sound (suc (suc (suc n))) e = cc

  whole : (function : ℕ) → function < 3 → ReachedFrom calls (Some 0) function → slice_get (true ∷ true ∷ false ∷ []) function ≡ Some true
  whole zero l h = refl
  whole (suc zero) l h = refl
  whole (suc (suc n)) l h = let le = first_two (suc (suc n)) h in absurd (omega (arith, le))

pub a_flag_too_many : AreFlags calls (Some 0) (true ∷ true ∷ true ∷ []) → ⊥
a_flag_too_many h = the_first_core_does_not_reach_the_third_function (h.sound 2 refl)

pub its_table : AreAll calls (Some 0 ∷ []) ((true ∷ true ∷ false ∷ []) ∷ [])
its_table = (its_flags, tt)

pub no_table_for_no_core : AreAll calls [] ((true ∷ true ∷ false ∷ []) ∷ []) → ⊥
no_table_for_no_core h = h
