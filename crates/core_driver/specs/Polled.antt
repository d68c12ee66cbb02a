-- How often a driver polls the links of its core while the turn of the core rises.
use Rattle.std.specs.Prelude.{◌≡◌, ℕ, ◌-◌}
use Rattle.core_state.specs.Moves.{On, GoesOn}
use Rattle.stack_code.specs.declared.parts.Entered.{Entered}
use Rattle.stack_code.specs.Parts.{Begins}
use Rattle.code_meaning.specs.Machine.{Flat, exec, first_flat}
use Rattle.core_machine.specs.Machine.{Machine}
use Rattle.core_ports.specs.declared.side.Side.TheVariants.{Neither}
use Rattle.core_ports.specs.Sides.{side_of}
use Rattle.core_driver.specs.Idle.{RoseBy}

-- the core has been in this turn: on its way from its beginning to its state, or to its end, it came through a state of this turn
pub record HasReached (m : Machine) (turn : ℕ) : Type 0 where
  pub function : Entered
  pub begins : Begins m.code m.core function
  pub flat : Flat
  pub comes : GoesOn (exec m.code m.bound) (first_flat m.code m.core function m.journal) (On flat)
  pub goes : GoesOn (exec m.code m.bound) (On flat) m.state
  pub in_turn : flat.shared.turn ≡ turn

-- each link of the core was polled at least as often as its turn has risen, also where it has ended since
abbrev pub ArePolled : Machine → Machine → (ℕ → ℕ) → (ℕ → ℕ) → Type 0
ArePolled before after polls polls_after =
    (flat : Flat) → before.state ≡ On flat → (turn : ℕ) → HasReached after turn
    → (l : ℕ) → (side_of after.code.ends after.core l ≡ Neither → ⊥) → RoseBy (turn - flat.shared.turn) (polls l) (polls_after l)
