use Rattle.std.proofs.Common.{List, sym, ap, ◌∙◌, subst, arith, set, w64, SFits, rules, to_z, of_z}
use Rattle.std.proofs.lemmas.Int.{to_z-of_z}
use Rattle.work_item.specs.declared.cell.Cell.TheVariants as cell
use Rattle.work_item.specs.declared.others.Other.{Other}
use Rattle.work_item.specs.inner.Cells.{IsAt}
use Rattle.work_item.proofs.RowCalls.{Keep, keep_of, kept_of, view_of, int_set_found, int_set_lost}
use Rattle.work_item.proofs.cells.Cells.put_for.Goals as goal

pub invariant_of-self : goal.invariant_of-self
invariant_of-self c =
    let words = c.self.inside.words.items in
    let others = c.self.inside.others.items in
    let cells = c.args.self.now in
    let k = keep_of 0 words others cells c.self.invariant c.self.view_is in
    let index = c.args.index in
    let place = c.place_of-place.result in
    let at = c.place_of-place.ensures.cut 0 cells (c.as_slice.ensures.value ∙ k.others_are) (omega arith) in
    let there : IsAt others place index = subst (λ (l : List Other). IsAt l place index) c.as_slice-2.ensures.value (c.is_at.ensures.yes c.if-is_at.true) in
    let v = to_z w64 (of_z w64 c.args.value) in
    let h = int_set_found words others cells index place k c.requires at v there in
    let left = c.remove.new.self.items in
    let now : Keep 0 (set words index v) left (set cells index (cell.Int v)) = record {
      words_are = h.words_are;
      others_are = c.remove.ensures.items ∙ h.others_are;
    } in
    kept_of 0 (set words index v) left (set cells index (cell.Int v)) now

pub invariant_of-self-else-is_at : goal.invariant_of-self-else-is_at
invariant_of-self-else-is_at c =
    let words = c.self.inside.words.items in
    let others = c.self.inside.others.items in
    let cells = c.args.self.now in
    let k = keep_of 0 words others cells c.self.invariant c.self.view_is in
    let index = c.args.index in
    let place = c.place_of-place.result in
    let at = c.place_of-place.ensures.cut 0 cells (c.as_slice.ensures.value ∙ k.others_are) (omega arith) in
    let none_there : IsAt others place index → ⊥ =
    λ t. c.is_at.ensures.no c.if-is_at.false (subst (λ (l : List Other). IsAt l place index) (sym c.as_slice-2.ensures.value) t) in
    let v = to_z w64 (of_z w64 c.args.value) in
    let now = int_set_lost words others cells index place k c.requires at v none_there in
    kept_of 0 (set words index v) others (set cells index (cell.Int v)) now

pub returns-then-is_at : goal.returns-then-is_at
returns-then-is_at c =
    let words = c.self.inside.words.items in
    let others = c.self.inside.others.items in
    let cells = c.args.self.now in
    let k = keep_of 0 words others cells c.self.invariant c.self.view_is in
    let index = c.args.index in
    let place = c.place_of-place.result in
    let at = c.place_of-place.ensures.cut 0 cells (c.as_slice.ensures.value ∙ k.others_are) (omega arith) in
    let there : IsAt others place index = subst (λ (l : List Other). IsAt l place index) c.as_slice-2.ensures.value (c.is_at.ensures.yes c.if-is_at.true) in
    let v = to_z w64 (of_z w64 c.args.value) in
    let h = int_set_found words others cells index place k c.requires at v there in
    let left = c.remove.new.self.items in
    let now : Keep 0 (set words index v) left (set cells index (cell.Int v)) = record {
      words_are = h.words_are;
      others_are = c.remove.ensures.items ∙ h.others_are;
    } in
    let fits : SFits w64 c.args.value = search rules in
    view_of 0 (set words index v) left (set cells index (cell.Int v)) now ∙ ap (λ z. set cells index (cell.Int z)) (to_z-of_z w64 c.args.value fits)

pub returns-else-is_at : goal.returns-else-is_at
returns-else-is_at c =
    let words = c.self.inside.words.items in
    let others = c.self.inside.others.items in
    let cells = c.args.self.now in
    let k = keep_of 0 words others cells c.self.invariant c.self.view_is in
    let index = c.args.index in
    let place = c.place_of-place.result in
    let at = c.place_of-place.ensures.cut 0 cells (c.as_slice.ensures.value ∙ k.others_are) (omega arith) in
    let none_there : IsAt others place index → ⊥ =
    λ t. c.is_at.ensures.no c.if-is_at.false (subst (λ (l : List Other). IsAt l place index) (sym c.as_slice-2.ensures.value) t) in
    let v = to_z w64 (of_z w64 c.args.value) in
    let now = int_set_lost words others cells index place k c.requires at v none_there in
    let fits : SFits w64 c.args.value = search rules in
    view_of 0 (set words index v) others (set cells index (cell.Int v)) now ∙ ap (λ z. set cells index (cell.Int z)) (to_z-of_z w64 c.args.value fits)
