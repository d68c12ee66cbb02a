-- After how many moves a run is over; there is at most one such number.
use Rattle.std.specs.Prelude.{◌≡◌, ℕ, ◌<◌, List, Option, Bool, true, false}
use Rattle.std.proofs.Common.{⊎_elim, sym, ap, ◌∙◌, subst, arith}
use Rattle.std.proofs.Math.Bool.{Bool-set}
use Rattle.std.proofs.lemmas.Bool.{cases_lt}
use Rattle.ac_base.specs.declared.ends.CoreEnd.{CoreEnd}
use Rattle.ac_base.specs.declared.entry.Entry.{Entry}
use Rattle.core_state.specs.Moves.{Move, On, Over, and_then, moves}
use Rattle.ac_commands.specs.declared.program.Function.{Function}
use Rattle.ac_commands.specs.declared.program.Resolved.{Resolved}
use Rattle.ac_semantics.specs.Threads.{CoreState, step, first_state}

abbrev pub is_over : {S E : Type 0} → Move S E → Bool
is_over (On s) = false
is_over (Over e) = true

-- so many moves from here on lead to an end
abbrev pub IsOverBy : {S E : Type 0} → (S → Move S E) → Move S E → ℕ → Type 0
IsOverBy f a k = is_over (and_then a (moves f k)) ≡ true

-- and no fewer
abbrev pub IsCount : {S E : Type 0} → (S → Move S E) → Move S E → ℕ → Type 0
IsCount f a k = IsOverBy f a k × ((j : ℕ) → j < k → is_over (and_then a (moves f j)) ≡ false)

abbrev pub HasCount : {S E : Type 0} → (S → Move S E) → Move S E → Type 0
HasCount f a = (k : ℕ) × IsCount f a k

-- so it is with the core of this number that enters this function, with this bound on its steps, under this journal
abbrev pub CoreEnds : Resolved → ℕ → Function → ℕ → List Entry → Type 0
CoreEnds program core function bound journal =
    HasCount {S = CoreState} {E = Option CoreEnd} (step program bound) (first_state program core function journal)

-- ---- there is one such number

pub apart : {A : Type 0} (b : Bool) → b ≡ true → b ≡ false → A
apart b h k = let no : true ≡ false = sym h ∙ k in cc

module _ {S E : Type 0} (f : S → Move S E) (a : Move S E) where
  abbrev is_over_by : ℕ → Bool
  is_over_by k = is_over (and_then a (moves f k))

  not_less : (x y : HasCount f a) → x.0 < y.0 → ⊥
  not_less x y lt = apart (is_over_by x.0) x.1.0 (y.1.1 x.0 lt)

  same_number : (x y : HasCount f a) → x.0 ≡ y.0
  same_number x y =
      ⊎_elim (λ lt. absurd (not_less x y lt))
      (λ le. ⊎_elim (λ lt. absurd (not_less y x lt)) (λ ge. omega (arith, le, ge)) (cases_lt y.0 x.0)) (cases_lt x.0 y.0)

  count_is : (k : ℕ) → IsProp (IsCount f a k)
  count_is k = hlevel Bool-set

  abbrev IsFirst : HasCount f a → ℕ → Type 0
  IsFirst x n = (c : IsCount f a n) → ◌≡◌ {A = HasCount f a} x (n, c)

  pub count_once : IsProp (HasCount f a)
  count_once x y =
      subst (IsFirst x) (same_number x y) (λ c. ap (λ (z : IsCount f a x.0). (x.0, z)) (count_is x.0 x.1 c)) y.1

pub unique : (program : Resolved) (core : ℕ) (function : Function) (bound : ℕ) (journal : List Entry)
    → IsProp (CoreEnds program core function bound journal)
unique program core function bound journal = count_once (step program bound) (first_state program core function journal)
