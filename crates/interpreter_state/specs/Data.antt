-- What the interpreter keeps in a slot, as the cell for which it stands.
use Rattle.work_item.specs.declared.cell.Cell.{Cell}
use Rattle.work_item.specs.declared.cell.Cell.TheVariants as c
use Rattle.interpreter_state.specs.declared.datum.DatumKind.{DatumKind}
use Rattle.interpreter_state.specs.declared.datum.DatumKind.TheVariants as k

abbrev pub cell_of : DatumKind → Cell
cell_of (k.Int value) = c.Int value
cell_of (k.Array span) = c.Array span
cell_of (k.Block block) = c.Block block
