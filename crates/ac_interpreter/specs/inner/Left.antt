-- How much is left of a run.
use Rattle.std.specs.Prelude.{ℕ, zero, suc}
use Rattle.core_state.specs.Moves.{Move, On, Over}

-- the moves that are left, of at most so many
abbrev pub left_by : {S E : Type 0} → (S → Move S E) → ℕ → Move S E → ℕ
left_by f fuel (Over e) = 0
left_by f zero (On s) = 0
left_by f (suc fuel) (On s) = suc (left_by f fuel (f s))
