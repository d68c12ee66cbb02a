use Rattle.std.proofs.Common.{◌≡◌, ◌-◌, length, take, ap, ◌∙◌, arith}
use Rattle.work_item.specs.Cells.{others_from}
use Rattle.work_item.proofs.RowCalls.{Keep, keep_of, kept_of, view_of, front_kept}
use Rattle.work_item.proofs.cells.Cells.truncate.Goals as goal

pub invariant_of-self : goal.invariant_of-self
invariant_of-self c =
    let words = c.self.inside.words.items in
    let others = c.self.inside.others.items in
    let cells = c.args.self.now in
    let k = keep_of 0 words others cells c.self.invariant c.self.view_is in
    let none : c.args.len - 0 ≡ c.args.len = omega arith in
    let at = c.place_of-place.ensures.cut 0 cells (c.as_slice.ensures.value ∙ k.others_are) (omega arith) ∙ ap (λ n. length (others_from 0 (take n cells))) none in
    let h = front_kept 0 c.args.len words others cells k in
    let now : Keep 0 c.truncate.new.self.items c.truncate-2.new.self.items (take c.args.len cells) = record {
      words_are = c.truncate.ensures.items ∙ h.words_are;
      others_are = c.truncate-2.ensures.items ∙ ap (λ n. take n others) at ∙ h.others_are;
    } in
    kept_of 0 c.truncate.new.self.items c.truncate-2.new.self.items (take c.args.len cells) now

pub returns : goal.returns
returns c =
    let words = c.self.inside.words.items in
    let others = c.self.inside.others.items in
    let cells = c.args.self.now in
    let k = keep_of 0 words others cells c.self.invariant c.self.view_is in
    let none : c.args.len - 0 ≡ c.args.len = omega arith in
    let at = c.place_of-place.ensures.cut 0 cells (c.as_slice.ensures.value ∙ k.others_are) (omega arith) ∙ ap (λ n. length (others_from 0 (take n cells))) none in
    let h = front_kept 0 c.args.len words others cells k in
    let now : Keep 0 c.truncate.new.self.items c.truncate-2.new.self.items (take c.args.len cells) = record {
      words_are = c.truncate.ensures.items ∙ h.words_are;
      others_are = c.truncate-2.ensures.items ∙ ap (λ n. take n others) at ∙ h.others_are;
    } in
    view_of 0 c.truncate.new.self.items c.truncate-2.new.self.items (take c.args.len cells) now
