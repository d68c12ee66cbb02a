use Rattle.std.proofs.Common.{◌≡◌, List, pos, sym, ap, ◌∙◌, subst, arith, set}
use Rattle.std.proofs.lemmas.Option.{get_or_from_slice_get}
use Rattle.work_item.specs.declared.cell.Cell.TheVariants as cell
use Rattle.work_item.specs.declared.others.Other.{Other}
use Rattle.work_item.specs.inner.Cells.{IsAt}
use Rattle.work_item.proofs.RowCalls.{Keep, keep_of, kept_of, view_of, one, other_set_found, other_set_lost}
use Rattle.work_item.proofs.cells.Cells.set_block.Goals as goal

pub invariant_of-self : goal.invariant_of-self
invariant_of-self c =
    let words = c.self.inside.words.items in
    let others = c.self.inside.others.items in
    let cells = c.args.self.now in
    let k = keep_of 0 words others cells c.self.invariant c.self.view_is in
    let index = c.args.index in
    let place = c.place_of-place.result in
    let at = c.place_of-place.ensures.cut 0 cells (c.as_slice.ensures.value ∙ k.others_are) (omega arith) in
    let there : IsAt others place index = subst (λ (l : List Other). IsAt l place index) c.as_slice-2.ensures.value (c.is_at.ensures.yes c.if-is_at.true) in
    let y = cell.Block c.args.block in
    let h = other_set_found words others cells index place k c.requires at y tt there in
    let same : c.index_mut.result.now.index ≡ index =
    ap (λ (o : Other). o.index) (c.index_mut.ensures.value ∙ get_or_from_slice_get others place there.0 c.index_mut.result.now there.1.0) ∙ there.1.1 in
    let left = set others place (one c.index_mut.result.now.index y) in
    let now : Keep 0 words left (set cells index y) = record {
      words_are = h.words_are;
      others_are = ap (λ i. set others place (one i y)) same ∙ h.others_are;
    } in
    kept_of 0 words left (set cells index y) now

pub returns-then-is_at-clause-ok : goal.returns-then-is_at-clause-ok
returns-then-is_at-clause-ok c =
    let words = c.self.inside.words.items in
    let others = c.self.inside.others.items in
    let cells = c.args.self.now in
    let k = keep_of 0 words others cells c.self.invariant c.self.view_is in
    let index = c.args.index in
    let place = c.place_of-place.result in
    let at = c.place_of-place.ensures.cut 0 cells (c.as_slice.ensures.value ∙ k.others_are) (omega arith) in
    let there : IsAt others place index = subst (λ (l : List Other). IsAt l place index) c.as_slice-2.ensures.value (c.is_at.ensures.yes c.if-is_at.true) in
    let y = cell.Block c.args.block in
    let h = other_set_found words others cells index place k c.requires at y tt there in
    let same : c.index_mut.result.now.index ≡ index =
    ap (λ (o : Other). o.index) (c.index_mut.ensures.value ∙ get_or_from_slice_get others place there.0 c.index_mut.result.now there.1.0) ∙ there.1.1 in
    let left = set others place (one c.index_mut.result.now.index y) in
    let now : Keep 0 words left (set cells index y) = record {
      words_are = h.words_are;
      others_are = ap (λ i. set others place (one i y)) same ∙ h.others_are;
    } in
    view_of 0 words left (set cells index y) now

pub invariant_of-self-2 : goal.invariant_of-self-2
invariant_of-self-2 c =
    let words = c.self.inside.words.items in
    let others = c.self.inside.others.items in
    let cells = c.args.self.now in
    let k = keep_of 0 words others cells c.self.invariant c.self.view_is in
    let index = c.args.index in
    let place = c.place_of-place.result in
    let at = c.place_of-place.ensures.cut 0 cells (c.as_slice.ensures.value ∙ k.others_are) (omega arith) in
    let none_there : IsAt others place index → ⊥ =
    λ t. c.is_at.ensures.no c.if-is_at.false (subst (λ (l : List Other). IsAt l place index) (sym c.as_slice-2.ensures.value) t) in
    let y = cell.Block c.args.block in
    let h = other_set_lost words others cells index place k c.requires at y tt none_there in
    let left = c.insert.new.self.items in
    let now : Keep 0 (set words index (pos 0)) left (set cells index y) = record {
      words_are = h.words_are;
      others_are = c.in_ok-insert.ensures.items ∙ h.others_are;
    } in
    kept_of 0 (set words index (pos 0)) left (set cells index y) now

pub returns-clause-ok : goal.returns-clause-ok
returns-clause-ok c =
    let words = c.self.inside.words.items in
    let others = c.self.inside.others.items in
    let cells = c.args.self.now in
    let k = keep_of 0 words others cells c.self.invariant c.self.view_is in
    let index = c.args.index in
    let place = c.place_of-place.result in
    let at = c.place_of-place.ensures.cut 0 cells (c.as_slice.ensures.value ∙ k.others_are) (omega arith) in
    let none_there : IsAt others place index → ⊥ =
    λ t. c.is_at.ensures.no c.if-is_at.false (subst (λ (l : List Other). IsAt l place index) (sym c.as_slice-2.ensures.value) t) in
    let y = cell.Block c.args.block in
    let h = other_set_lost words others cells index place k c.requires at y tt none_there in
    let left = c.insert.new.self.items in
    let now : Keep 0 (set words index (pos 0)) left (set cells index y) = record {
      words_are = h.words_are;
      others_are = c.in_ok-insert.ensures.items ∙ h.others_are;
    } in
    view_of 0 (set words index (pos 0)) left (set cells index y) now
