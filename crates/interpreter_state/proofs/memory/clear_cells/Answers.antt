use Rattle.std.proofs.Common.{◌+◌, ap, ◌∙◌, set}
use Rattle.work_item.specs.Store.{no_int}
use Rattle.work_item.proofs.Clearing.{cleared_none}
use Rattle.interpreter_state.proofs.Clearing.{cleared_one}
use Rattle.interpreter_state.proofs.memory.clear_cells.Goals as goal

pub loop-index-init : goal.loop-index-init
loop-index-init c = cleared_none c.args.slot c.args.cells.now.items

pub loop-index-preserved : goal.loop-index-preserved
loop-index-preserved c =
    c.clear_cell.ensures ∙ ap (λ xs. set xs (c.args.slot + c.loop-index.index) no_int) c.loop-index.invariant ∙ cleared_one c.args.slot c.loop-index.index c.args.cells.now.items
