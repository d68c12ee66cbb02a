use Rattle.std.proofs.Common.{◌≡◌, ◌-◌, length, take, drop, ap, ◌∙◌, arith}
use Rattle.std.proofs.lemmas.List.{take_rest}
use Rattle.work_item.specs.Cells.{others_from}
use Rattle.work_item.proofs.RowCalls.{Keep, keep_of, kept_of, view_of, rest_kept}
use Rattle.work_item.proofs.cells.Cells.from.Goals as goal

pub invariant_of-result : goal.invariant_of-result
invariant_of-result c =
    let words = c.self.inside.words.items in
    let others = c.self.inside.others.items in
    let cells = c.args.self.now in
    let k = keep_of 0 words others cells c.self.invariant c.self.view_is in
    let start = c.args.start in
    let none : start - 0 ≡ start = omega arith in
    let at = c.place_of-place.ensures.cut 0 cells (c.as_slice.ensures.value ∙ k.others_are) (omega arith) ∙ ap (λ n. length (others_from 0 (take n cells))) none in
    let h = rest_kept start words others cells k c.requires in
    let tail = take (length c.deref.result.now - start) (drop start c.deref.result.now) in
    let left = take (length c.deref-2.result.now - c.place_of-place.result) (drop c.place_of-place.result c.deref-2.result.now) in
    let now : Keep start tail left (drop start cells) = record {
      words_are = take_rest c.deref.result.now start ∙ ap (drop start) c.deref.ensures.value ∙ h.words_are;
      others_are =
          take_rest c.deref-2.result.now c.place_of-place.result ∙ ap (drop c.place_of-place.result) c.deref-2.ensures.value ∙ ap (λ n. drop n others) at ∙ h.others_are;
    } in
    kept_of start tail left (drop start cells) now

pub returns : goal.returns
returns c =
    let words = c.self.inside.words.items in
    let others = c.self.inside.others.items in
    let cells = c.args.self.now in
    let k = keep_of 0 words others cells c.self.invariant c.self.view_is in
    let start = c.args.start in
    let none : start - 0 ≡ start = omega arith in
    let at = c.place_of-place.ensures.cut 0 cells (c.as_slice.ensures.value ∙ k.others_are) (omega arith) ∙ ap (λ n. length (others_from 0 (take n cells))) none in
    let h = rest_kept start words others cells k c.requires in
    let tail = take (length c.deref.result.now - start) (drop start c.deref.result.now) in
    let left = take (length c.deref-2.result.now - c.place_of-place.result) (drop c.place_of-place.result c.deref-2.result.now) in
    let now : Keep start tail left (drop start cells) = record {
      words_are = take_rest c.deref.result.now start ∙ ap (drop start) c.deref.ensures.value ∙ h.words_are;
      others_are =
          take_rest c.deref-2.result.now c.place_of-place.result ∙ ap (drop c.place_of-place.result) c.deref-2.ensures.value ∙ ap (λ n. drop n others) at ∙ h.others_are;
    } in
    view_of start tail left (drop start cells) now
