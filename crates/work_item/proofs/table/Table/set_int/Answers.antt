use Rattle.std.proofs.Common.{length, Some, refl, ap, ◌∙◌, length-set, set, w64, SFits, rules}
use Rattle.std.proofs.lemmas.Int.{to_z-of_z}
use Rattle.work_item.specs.declared.cell.Cell.TheVariants as cell
use Rattle.work_item.specs.Store.{no_cells, some_with}
use Rattle.work_item.specs.inner.Kept.{frame_of}
use Rattle.work_item.proofs.Sound.{sound_same}
use Rattle.work_item.proofs.Stands.{seen}
use Rattle.work_item.proofs.table.Table.set_int.Goals as goal

pub invariant_of-self : goal.invariant_of-self
invariant_of-self c =
    let x = c.value_mut.result.now in
    let cells = c.set_int.new.self in
    sound_same _ _ c.args.frame.number x (record x { cells = cells }) c.self.invariant c.value_mut.ensures.value refl refl
    (ap length c.set_int.ensures ∙ length-set _ _ _)

pub returns : goal.returns
returns c =
    let x = c.value_mut.result.now in
    let cells = c.set_int.new.self in
    let fits : SFits w64 c.args.value = search rules in
    let set_there = c.set_int.ensures ∙ ap (λ z. set x.cells c.args.slot (cell.Int z)) (to_z-of_z w64 c.args.value fits) in
    seen _ _ c.args.frame.number x (record x { cells = cells }) (λ o. some_with (set (no_cells o) c.args.slot (cell.Int c.args.value)) o) c.self.view_is
    c.value_mut.ensures.value (ap (λ xs. some_with xs (frame_of (Some x))) set_there)
