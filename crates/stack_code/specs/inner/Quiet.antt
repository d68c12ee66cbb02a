-- The ways that pass no `Step`, as a graph.
use Rattle.std.specs.Prelude.{◌≡◌, ◌⊎◌, ℕ, List, length, Some, slice_get}
use Rattle.graph_ranks.specs.declared.graph.Ways.{Ways}
use Rattle.stack_code.specs.declared.shape.Shape.{Shape}
use Rattle.stack_code.specs.declared.shape.Leads.{Leads}
use Rattle.stack_code.specs.Parts.{Parts}
use Rattle.stack_code.specs.Shapes.{LeadsTo}
use Rattle.stack_code.specs.Valid.{Quiet, TakesSteps}
use Rattle.stack_code.specs.Kept.{IsRanked}

abbrev pub WayTo : Ways → ℕ → Type 0
WayTo ways to = (ways.one ≡ Some to) ⊎ (ways.other ≡ Some to)

-- the ways of an instruction
pub record IsLed (l : Leads) (ways : Ways) : Type 0 where
  pub sound : (to : ℕ) → WayTo ways to → (t : Shape) × LeadsTo l to t
  pub whole : (to : ℕ) (t : Shape) → LeadsTo l to t → WayTo ways to

-- the ways from an address that pass no `Step`
pub record IsWays (code : Parts) (at : ℕ) (ways : Ways) : Type 0 where
  pub sound : (to : ℕ) → WayTo ways to → Quiet code at to
  pub whole : (to : ℕ) → Quiet code at to → WayTo ways to

pub record IsGraph (code : Parts) (graph : List Ways) : Type 0 where
  pub long : length graph ≡ length code.instrs
  pub ways : (at : ℕ) (w : Ways) → slice_get graph at ≡ Some w → IsWays code at w

-- ranks, which show that a step is taken on every way back
pub record IsSteady (code : Parts) (ranks : List ℕ) : Type 0 where
  pub steps : TakesSteps code
  pub ranked : IsRanked code ranks
