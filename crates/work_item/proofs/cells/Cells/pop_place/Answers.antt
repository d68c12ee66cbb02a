use Rattle.std.proofs.Common.{◌∷◌, [], ◌++◌, sym, ap, ◌∙◌, refl, arith}
use Rattle.work_item.specs.declared.cell.Cell.TheVariants as cell
use Rattle.work_item.proofs.RowCalls.{keep_of, kept_of, view_of, place_popped, place_ends}
use Rattle.work_item.proofs.cells.Cells.pop_place.Goals as goal

pub take_last-requires-2 : goal.take_last-requires-2
take_last-requires-2 c =
    let words = c.self.inside.words.items in
    let others = c.self.inside.others.items in
    let k = keep_of 0 words others (c.requires.0 ++ cell.Array c.requires.1.0 ∷ []) c.self.invariant (c.self.view_is ∙ c.requires.1.1) in
    omega (arith, (place_ends 0 words others c.requires.0 c.requires.1.0 k).1, c.self.inside.others.ok.0)

pub unreachable-requires : goal.unreachable-requires
unreachable-requires c =
    let words = c.self.inside.words.items in
    let others = c.self.inside.others.items in
    let front = c.requires.0 in
    let p = c.requires.1.0 in
    let k = keep_of 0 words others (front ++ cell.Array p ∷ []) c.self.invariant (c.self.view_is ∙ c.requires.1.1) in
    let h = place_popped 0 words c.take_last.new.self.items others c.take_last-2.new.self.items (front ++ cell.Array p ∷ []) front c.take_last.result
    c.take_last-2.result p k refl c.take_last.ensures.items c.take_last-2.ensures.items in
    c.in_default.not-Array p h.0

pub invariant_of-self : goal.invariant_of-self
invariant_of-self c =
    let words = c.self.inside.words.items in
    let others = c.self.inside.others.items in
    let front = c.requires.0 in
    let p = c.requires.1.0 in
    let k = keep_of 0 words others (front ++ cell.Array p ∷ []) c.self.invariant (c.self.view_is ∙ c.requires.1.1) in
    let h = place_popped 0 words c.take_last.new.self.items others c.take_last-2.new.self.items (front ++ cell.Array p ∷ []) front c.take_last.result
    c.take_last-2.result p k refl c.take_last.ensures.items c.take_last-2.ensures.items in
    kept_of 0 c.take_last.new.self.items c.take_last-2.new.self.items front h.1

pub returns : goal.returns
returns c =
    let words = c.self.inside.words.items in
    let others = c.self.inside.others.items in
    let front = c.requires.0 in
    let p = c.requires.1.0 in
    let k = keep_of 0 words others (front ++ cell.Array p ∷ []) c.self.invariant (c.self.view_is ∙ c.requires.1.1) in
    let h = place_popped 0 words c.take_last.new.self.items others c.take_last-2.new.self.items (front ++ cell.Array p ∷ []) front c.take_last.result
    c.take_last-2.result p k refl c.take_last.ensures.items c.take_last-2.ensures.items in
    c.requires.1.1 ∙ ap (λ x. front ++ x ∷ []) (sym h.0 ∙ c.in-Array.is)
    ∙ ap (λ l. l ++ cell.Array c.in-Array.place ∷ []) (sym (view_of 0 c.take_last.new.self.items c.take_last-2.new.self.items front h.1))
