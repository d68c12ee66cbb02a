-- Turns of a journal, worked out by hand: some that rise, some that do not, and the last of them.
-- Each holds by comparing numbers.
use Rattle.std.proofs.Common.{◌≡◌, ℕ, ◌≤◌, [], ◌∷◌, refl, arith}
use Rattle.ac_base.specs.declared.entry.Entry.{Entry}
use Rattle.ac_base.specs.declared.entry.Event.TheVariants as e
use Rattle.replay_laws.specs.Given.{Rises, last_turn}

-- an entry of that turn
abbrev at : ℕ → Entry
at turn = record { stamp = 1; turn = turn; event = e.Know 0 0 }

-- entries of one turn may follow each other, and turns may be left out
pub turns_that_rise : Rises 0 (at 1 ∷ at 1 ∷ at 3 ∷ [])
turns_that_rise = (omega arith, (omega arith, (omega arith, tt)))

pub a_turn_that_falls : Rises 0 (at 3 ∷ at 1 ∷ []) → ⊥
a_turn_that_falls h = let low : 3 ≤ 1 = h.1.0 in omega (arith, low)

pub last_turns : (last_turn 0 [] ≡ 0) × (last_turn 0 (at 1 ∷ at 3 ∷ []) ≡ 3)
last_turns = (refl, refl)
