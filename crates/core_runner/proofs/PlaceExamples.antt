-- How many places the links of requests have, in a code with one channel and two cores.
use Rattle.std.proofs.Common.{ℕ, zero, suc, [], ◌∷◌, refl, arith}
use Rattle.stack_code.specs.Parts.{Parts}
use Rattle.run_laws.proofs.CoreExamples.{crossing}
use Rattle.core_runner.specs.Places.{HavePlaces}

-- the channel has two places
abbrev with_places : ℕ → Parts
with_places n = record crossing { capacities = 2 ∷ 16 ∷ n ∷ [] }

pub sixteen_for_each : HavePlaces (with_places 16)
sixteen_for_each zero h = refl
sixteen_for_each (suc zero) h = refl
sixteen_for_each (suc (suc k)) h = absurd (omega (arith, h))

pub not_eight_for_one : HavePlaces (with_places 8) → ⊥
not_eight_for_one h = let e = h 1 (omega arith) in cc
