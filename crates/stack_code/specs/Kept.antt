-- What a code keeps beside its parts: the shape of each address that is reached, and ranks that fall along ways without a `Step`.
use Rattle.std.specs.Prelude.{◌≡◌, ℕ, ◌<◌, List, length, Option, Some, slice_get, slice_index}
use Rattle.stack_code.specs.declared.shape.Shape.{Shape}
use Rattle.stack_code.specs.Parts.{Parts}
use Rattle.stack_code.specs.Valid.{Reaches, Quiet, IsValid}

abbrev pub Has : List (Option Shape) → ℕ → Shape → Type 0
Has table at s = slice_get table at ≡ Some (Some s)

-- by address, its shape where it is reached
pub record IsTable (code : Parts) (table : List (Option Shape)) : Type 0 where
  pub long : length table ≡ length code.instrs
  pub has : (at : ℕ) (s : Shape) → Reaches code at s → Has table at s
  pub reached : (at : ℕ) (s : Shape) → Has table at s → Reaches code at s

-- by address, a number that is less wherever it goes on without a `Step`
pub record IsRanked (code : Parts) (ranks : List ℕ) : Type 0 where
  pub long : length ranks ≡ length code.instrs
  pub falls : (at to : ℕ) → Quiet code at to → slice_index ranks to < slice_index ranks at

pub record IsKept (code : Parts) (table : List (Option Shape)) (ranks : List ℕ) : Type 0 where
  pub valid : IsValid code
  pub tabled : IsTable code table
  pub ranked : IsRanked code ranks
