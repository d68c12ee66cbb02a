use Rattle.std.proofs.Common.{Some, refl, ap, set}
use Rattle.work_item.specs.declared.cell.Cell.TheVariants as cell
use Rattle.work_item.specs.Store.{no_cells, some_with}
use Rattle.work_item.specs.inner.Kept.{frame_of}
use Rattle.work_item.proofs.Sound.{sound_same}
use Rattle.work_item.proofs.Stands.{as_many, where_ok, seen}
use Rattle.work_item.proofs.table.Table.set_block.Goals as goal

pub invariant_of-self : goal.invariant_of-self
invariant_of-self c =
    let x = c.value_mut.result.now in
    let cells = c.set_block.new.self in
    sound_same _ _ c.args.frame.number x (record x { cells = cells }) c.self.invariant c.value_mut.ensures.value refl refl
    (as_many c.set_block.result x.cells cells c.args.slot (cell.Block c.args.block) c.set_block.ensures.ok c.set_block.ensures.err)

pub returns-clause-ok : goal.returns-clause-ok
returns-clause-ok c =
    let x = c.value_mut.result.now in
    let cells = c.set_block.new.self in
    where_ok c.set_block.result
    (λ is.
    seen _ _ c.args.frame.number x (record x { cells = cells }) (λ o. some_with (set (no_cells o) c.args.slot (cell.Block c.args.block)) o) c.self.view_is
    c.value_mut.ensures.value (ap (λ xs. some_with xs (frame_of (Some x))) is))
    c.set_block.ensures.ok
