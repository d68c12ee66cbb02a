use Rattle.std.proofs.Common.{◌≡◌, ◌∷◌, [], ◌++◌, ◌+◌, ◌-◌, length, sym, ap, ◌∙◌, arith, set}
use Rattle.work_item.specs.declared.others.Other.{Other}
use Rattle.work_item.proofs.Rows.{snoc_both}
use Rattle.work_item.specs.declared.cell.Cell.TheVariants as cell
use Rattle.work_item.proofs.RowCalls.{keep_of, kept_of, view_of, place_ends, last_other_is, place_replaced, one}
use Rattle.work_item.proofs.cells.Cells.replace_place.Goals as goal

pub overflow_sub-last : goal.overflow_sub-last
overflow_sub-last c =
    let words = c.self.inside.words.items in
    let others = c.self.inside.others.items in
    let k = keep_of 0 words others (c.requires.0 ++ cell.Array c.requires.1.0 ∷ []) c.self.invariant (c.self.view_is ∙ c.requires.1.1) in
    omega (arith, (place_ends 0 words others c.requires.0 c.requires.1.0 k).1, c.self.inside.others.ok.0, c.len-last.ensures)

pub index_mut-requires : goal.index_mut-requires
index_mut-requires c =
    let words = c.self.inside.words.items in
    let others = c.self.inside.others.items in
    let k = keep_of 0 words others (c.requires.0 ++ cell.Array c.requires.1.0 ∷ []) c.self.invariant (c.self.view_is ∙ c.requires.1.1) in
    omega (arith, (place_ends 0 words others c.requires.0 c.requires.1.0 k).1, c.self.inside.others.ok.0, c.len-last.ensures)

pub invariant_of-self : goal.invariant_of-self
invariant_of-self c =
    let words = c.self.inside.words.items in
    let others = c.self.inside.others.items in
    let front = c.requires.0 in
    let p = c.requires.1.0 in
    let last = c.len-last.result - 1 in
    let k = keep_of 0 words others (front ++ cell.Array p ∷ []) c.self.invariant (c.self.view_is ∙ c.requires.1.1) in
    let n : last + 1 ≡ length others = omega (arith, (place_ends 0 words others front p k).1, c.self.inside.others.ok.0, c.len-last.ensures) in
    let at : c.index_mut.result.now.index ≡ 0 + length front =
    ap (λ (z : Other). z.index) (last_other_is 0 words others front p last c.index_mut.result.now k n c.index_mut.ensures.value) in
    let now = set others last (one c.index_mut.result.now.index (cell.Array c.args.place)) in
    let h = place_replaced 0 words others now front p c.args.place last k n (ap (λ i. set others last (one i (cell.Array c.args.place))) at) in
    kept_of 0 words now (front ++ cell.Array c.args.place ∷ []) h

pub returns : goal.returns
returns c ahead x e =
    let words = c.self.inside.words.items in
    let others = c.self.inside.others.items in
    let front = c.requires.0 in
    let p = c.requires.1.0 in
    let last = c.len-last.result - 1 in
    let k = keep_of 0 words others (front ++ cell.Array p ∷ []) c.self.invariant (c.self.view_is ∙ c.requires.1.1) in
    let n : last + 1 ≡ length others = omega (arith, (place_ends 0 words others front p k).1, c.self.inside.others.ok.0, c.len-last.ensures) in
    let at : c.index_mut.result.now.index ≡ 0 + length front =
    ap (λ (z : Other). z.index) (last_other_is 0 words others front p last c.index_mut.result.now k n c.index_mut.ensures.value) in
    let now = set others last (one c.index_mut.result.now.index (cell.Array c.args.place)) in
    let h = place_replaced 0 words others now front p c.args.place last k n (ap (λ i. set others last (one i (cell.Array c.args.place))) at) in
    let same : front ≡ ahead = (snoc_both front ahead (cell.Array p) x (sym c.requires.1.1 ∙ e)).0 in
    view_of 0 words now (front ++ cell.Array c.args.place ∷ []) h ∙ ap (λ l. l ++ cell.Array c.args.place ∷ []) same
