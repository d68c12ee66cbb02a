use Rattle.std.proofs.Common.{◌≡◌, ◌∷◌, [], ◌++◌, ◌+◌, ◌-◌, length, sym, ap, ◌∙◌, arith, set, w64, SFits, rules, to_z, of_z}
use Rattle.std.proofs.lemmas.Int.{to_z-of_z}
use Rattle.std.proofs.lemmas.List.{length-append}
use Rattle.work_item.proofs.Rows.{snoc_both}
use Rattle.work_item.specs.declared.cell.Cell.TheVariants as cell
use Rattle.work_item.proofs.RowCalls.{keep_of, kept_of, view_of, length_words, place_ends, place_by_int}
use Rattle.work_item.proofs.cells.Cells.replace_by_int.Goals as goal

pub take_last-requires : goal.take_last-requires
take_last-requires c =
    let words = c.self.inside.words.items in
    let others = c.self.inside.others.items in
    let k = keep_of 0 words others (c.requires.0 ++ cell.Array c.requires.1.0 ∷ []) c.self.invariant (c.self.view_is ∙ c.requires.1.1) in
    omega (arith, (place_ends 0 words others c.requires.0 c.requires.1.0 k).1, c.self.inside.others.ok.0)

pub invariant_of-self : goal.invariant_of-self
invariant_of-self c =
    let words = c.self.inside.words.items in
    let others = c.self.inside.others.items in
    let front = c.requires.0 in
    let p = c.requires.1.0 in
    let v = to_z w64 (of_z w64 c.args.value) in
    let last = c.len-last.result - 1 in
    let left = c.take_last.new.self.items in
    let whole = c.self.view_is ∙ c.requires.1.1 in
    let k = keep_of 0 words others (front ++ cell.Array p ∷ []) c.self.invariant whole in
    let m = length_words 0 words others (front ++ cell.Array p ∷ []) k in
    let n : last + 1 ≡ length words = omega (arith, m, length-append front (cell.Array p ∷ []), c.self.inside.words.ok.0, c.len-last.ensures) in
    let h = place_by_int words others left front p c.take_last.result v last k c.take_last.ensures.items n in
    kept_of 0 (set words last v) left (front ++ cell.Int v ∷ []) h

pub returns : goal.returns
returns c ahead x e =
    let words = c.self.inside.words.items in
    let others = c.self.inside.others.items in
    let front = c.requires.0 in
    let p = c.requires.1.0 in
    let v = to_z w64 (of_z w64 c.args.value) in
    let last = c.len-last.result - 1 in
    let left = c.take_last.new.self.items in
    let whole = c.self.view_is ∙ c.requires.1.1 in
    let k = keep_of 0 words others (front ++ cell.Array p ∷ []) c.self.invariant whole in
    let m = length_words 0 words others (front ++ cell.Array p ∷ []) k in
    let n : last + 1 ≡ length words = omega (arith, m, length-append front (cell.Array p ∷ []), c.self.inside.words.ok.0, c.len-last.ensures) in
    let h = place_by_int words others left front p c.take_last.result v last k c.take_last.ensures.items n in
    let fits : SFits w64 c.args.value = search rules in
    let same : front ≡ ahead = (snoc_both front ahead (cell.Array p) x (sym c.requires.1.1 ∙ e)).0 in
    view_of 0 (set words last v) left (front ++ cell.Int v ∷ []) h ∙ ap (λ z. front ++ cell.Int z ∷ []) (to_z-of_z w64 c.args.value fits)
    ∙ ap (λ l. l ++ cell.Int c.args.value ∷ []) same
