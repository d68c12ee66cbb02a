use Rattle.std.proofs.Common.{◌∷◌, [], ◌++◌, ◌-◌, sym, ap, ◌∙◌, arith}
use Rattle.work_item.specs.declared.cell.Cell.TheVariants as cell
use Rattle.work_item.proofs.RowCalls.{keep_of, place_ends, last_other}
use Rattle.work_item.proofs.cells.Cells.last_place.Goals as goal

pub overflow_sub-len : goal.overflow_sub-len
overflow_sub-len c =
    let words = c.self.inside.words.items in
    let others = c.self.inside.others.items in
    let k = keep_of 0 words others (c.requires.0 ++ cell.Array c.requires.1.0 ∷ []) c.self.invariant (c.self.view_is ∙ c.requires.1.1) in
    omega (arith, (place_ends 0 words others c.requires.0 c.requires.1.0 k).1, c.self.inside.others.ok.0, c.len.ensures)

pub index-requires : goal.index-requires
index-requires c =
    let words = c.self.inside.words.items in
    let others = c.self.inside.others.items in
    let k = keep_of 0 words others (c.requires.0 ++ cell.Array c.requires.1.0 ∷ []) c.self.invariant (c.self.view_is ∙ c.requires.1.1) in
    omega (arith, (place_ends 0 words others c.requires.0 c.requires.1.0 k).1, c.self.inside.others.ok.0, c.len.ensures)

pub unreachable-requires : goal.unreachable-requires
unreachable-requires c =
    let words = c.self.inside.words.items in
    let others = c.self.inside.others.items in
    let k = keep_of 0 words others (c.requires.0 ++ cell.Array c.requires.1.0 ∷ []) c.self.invariant (c.self.view_is ∙ c.requires.1.1) in
    c.in_default.not-Array c.requires.1.0
    (last_other 0 words others c.requires.0 c.requires.1.0 (c.len.result - 1) c.index.result.now k (omega (
      arith,
      (place_ends 0 words others c.requires.0 c.requires.1.0 k).1,
      c.self.inside.others.ok.0,
      c.len.ensures,
    )) c.index.ensures)

pub returns : goal.returns
returns c =
    let words = c.self.inside.words.items in
    let others = c.self.inside.others.items in
    let k = keep_of 0 words others (c.requires.0 ++ cell.Array c.requires.1.0 ∷ []) c.self.invariant (c.self.view_is ∙ c.requires.1.1) in
    let h = last_other 0 words others c.requires.0 c.requires.1.0 (c.len.result - 1) c.index.result.now k (omega (
      arith,
      (place_ends 0 words others c.requires.0 c.requires.1.0 k).1,
      c.self.inside.others.ok.0,
      c.len.ensures,
    )) c.index.ensures in
    (c.requires.0, c.requires.1.1 ∙ ap (λ x. c.requires.0 ++ x ∷ []) (sym h ∙ c.in-Array.is))
