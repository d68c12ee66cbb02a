-- What the interpreter keeps in a slot is told by the cell for which it stands.
use Rattle.std.specs.Prelude.{◌≡◌, refl, Option, Some, None}
use Rattle.work_item.specs.declared.cell.Place.{Place}
use Rattle.work_item.specs.declared.cell.Cell.{Cell}
use Rattle.work_item.specs.declared.cell.Cell.TheVariants as c
use Rattle.interpreter_state.specs.declared.datum.DatumKind.{DatumKind}
use Rattle.interpreter_state.specs.declared.datum.DatumKind.TheVariants as k
use Rattle.interpreter_state.specs.Data.{cell_of}

abbrev pub kind_of : Cell → DatumKind
kind_of (c.Int value) = k.Int value
kind_of (c.Array span) = k.Array span
kind_of (c.Block block) = k.Block block

-- the array to which it refers
abbrev pub array_in : Cell → Option Place
array_in (c.Array place) = Some place
array_in _ = None

-- the cell tells all of it
pub the_same_kind : (kind : DatumKind) → kind_of (cell_of kind) ≡ kind
the_same_kind (k.Int value) = refl
the_same_kind (k.Array span) = refl
the_same_kind (k.Block block) = refl
