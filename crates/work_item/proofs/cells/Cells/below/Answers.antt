use Rattle.std.proofs.Common.{◌≡◌, ◌-◌, length, take, ap, ◌∙◌, arith}
use Rattle.work_item.specs.Cells.{others_from}
use Rattle.work_item.proofs.RowCalls.{Keep, keep_of, kept_of, view_of, front_kept}
use Rattle.work_item.proofs.cells.Cells.below.Goals as goal

pub invariant_of-result : goal.invariant_of-result
invariant_of-result c =
    let words = c.self.inside.words.items in
    let others = c.self.inside.others.items in
    let cells = c.args.self.now in
    let k = keep_of 0 words others cells c.self.invariant c.self.view_is in
    let end = c.args.end in
    let none : end - 0 ≡ end = omega arith in
    let at = c.place_of-place.ensures.cut 0 cells (c.as_slice.ensures.value ∙ k.others_are) (omega arith) ∙ ap (λ n. length (others_from 0 (take n cells))) none in
    let h = front_kept 0 end words others cells k in
    let fore = take end c.deref.result.now in
    let left = take c.place_of-place.result c.deref-2.result.now in
    let now : Keep 0 fore left (take end cells) = record {
      words_are = ap (take end) c.deref.ensures.value ∙ h.words_are;
      others_are = ap (take c.place_of-place.result) c.deref-2.ensures.value ∙ ap (λ n. take n others) at ∙ h.others_are;
    } in
    kept_of 0 fore left (take end cells) now

pub returns : goal.returns
returns c =
    let words = c.self.inside.words.items in
    let others = c.self.inside.others.items in
    let cells = c.args.self.now in
    let k = keep_of 0 words others cells c.self.invariant c.self.view_is in
    let end = c.args.end in
    let none : end - 0 ≡ end = omega arith in
    let at = c.place_of-place.ensures.cut 0 cells (c.as_slice.ensures.value ∙ k.others_are) (omega arith) ∙ ap (λ n. length (others_from 0 (take n cells))) none in
    let h = front_kept 0 end words others cells k in
    let fore = take end c.deref.result.now in
    let left = take c.place_of-place.result c.deref-2.result.now in
    let now : Keep 0 fore left (take end cells) = record {
      words_are = ap (take end) c.deref.ensures.value ∙ h.words_are;
      others_are = ap (take c.place_of-place.result) c.deref-2.ensures.value ∙ ap (λ n. take n others) at ∙ h.others_are;
    } in
    view_of 0 fore left (take end cells) now
