use Rattle.std.proofs.Common.{length, Some, refl, ap, ◌∙◌}
use Rattle.work_item.specs.Store.{no_cells, some_with, cleared}
use Rattle.work_item.specs.inner.Kept.{frame_of}
use Rattle.work_item.proofs.Clearing.{length-cleared}
use Rattle.work_item.proofs.Sound.{sound_same}
use Rattle.work_item.proofs.Stands.{seen}
use Rattle.work_item.proofs.table.Table.clear.Goals as goal

pub invariant_of-self : goal.invariant_of-self
invariant_of-self c =
    let x = c.value_mut-live.result.now in
    let cells = c.clear.new.self in
    sound_same _ _ c.args.frame.number x (record x { cells = cells }) c.self.invariant c.value_mut-live.ensures.value refl refl
    (ap length c.clear.ensures ∙ length-cleared c.args.slot c.args.len x.cells)

pub returns : goal.returns
returns c =
    let x = c.value_mut-live.result.now in
    let cells = c.clear.new.self in
    seen _ _ c.args.frame.number x (record x { cells = cells }) (λ o. some_with (cleared c.args.slot c.args.len (no_cells o)) o) c.self.view_is
    c.value_mut-live.ensures.value (ap (λ xs. some_with xs (frame_of (Some x))) c.clear.ensures)
