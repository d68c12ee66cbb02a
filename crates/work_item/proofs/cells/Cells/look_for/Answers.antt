use Rattle.std.proofs.Common.{List, sym, ap, ◌∙◌, subst, arith, w64, SFits, rules}
use Rattle.std.proofs.lemmas.Int.{to_z-of_z}
use Rattle.std.proofs.lemmas.Option.{get_or_from_slice_get}
use Rattle.work_item.specs.declared.cell.Cell.TheVariants as cell
use Rattle.work_item.specs.declared.others.Other.{Other}
use Rattle.work_item.specs.Store.{no_int}
use Rattle.work_item.specs.inner.Cells.{IsAt}
use Rattle.work_item.proofs.RowCalls.{keep_of, one, found_at, lost_at, word}
use Rattle.work_item.proofs.cells.Cells.look_for.Goals as goal

pub returns-then-is_at : goal.returns-then-is_at
returns-then-is_at c =
    let words = c.self.inside.words.items in
    let others = c.self.inside.others.items in
    let cells = c.args.self.now in
    let k = keep_of 0 words others cells c.self.invariant c.self.view_is in
    let index = c.args.index in
    let place = c.place_of-place.result in
    let at = c.place_of-place.ensures.cut 0 cells (c.as_slice.ensures.value ∙ k.others_are) (omega arith) in
    let there : IsAt others place index = subst (λ (l : List Other). IsAt l place index) c.as_slice-2.ensures.value (c.is_at.ensures.yes c.if-is_at.true) in
    let read = c.index.ensures ∙ get_or_from_slice_get others place there.0 c.index.result.now there.1.0 in
    let same = get_or_from_slice_get others place there.0 (one 0 no_int) there.1.0 in
    ap (λ (o : Other). o.cell) (read ∙ sym same) ∙ (found_at words others cells index place k c.requires at there).1

pub returns : goal.returns
returns c =
    let words = c.self.inside.words.items in
    let others = c.self.inside.others.items in
    let cells = c.args.self.now in
    let k = keep_of 0 words others cells c.self.invariant c.self.view_is in
    let index = c.args.index in
    let place = c.place_of-place.result in
    let at = c.place_of-place.ensures.cut 0 cells (c.as_slice.ensures.value ∙ k.others_are) (omega arith) in
    let none_there : IsAt others place index → ⊥ =
    λ t. c.is_at.ensures.no c.if-is_at.false (subst (λ (l : List Other). IsAt l place index) (sym c.as_slice-2.ensures.value) t) in
    let v = c.index-2.result.now in
    let fits : SFits w64 v = search rules in
    ap (λ z. cell.Int z) (to_z-of_z w64 v fits ∙ c.index-2.ensures ∙ word words others cells index place k c.requires at v)
    ∙ sym (lost_at words others cells index place k c.requires at none_there).0
