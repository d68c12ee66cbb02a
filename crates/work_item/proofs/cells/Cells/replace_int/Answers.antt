use Rattle.std.proofs.Common.{◌≡◌, ◌∷◌, [], ◌++◌, ◌+◌, ◌-◌, length, sym, ap, ◌∙◌, refl, arith, set, w64, SFits, rules, to_z, of_z}
use Rattle.std.proofs.lemmas.Int.{to_z-of_z}
use Rattle.work_item.proofs.Rows.{snoc_both}
use Rattle.work_item.specs.declared.cell.Cell.TheVariants as cell
use Rattle.work_item.proofs.RowCalls.{keep_of, kept_of, view_of, int_ends, int_replaced}
use Rattle.work_item.proofs.cells.Cells.replace_int.Goals as goal

pub invariant_of-self : goal.invariant_of-self
invariant_of-self c =
    let words = c.self.inside.words.items in
    let others = c.self.inside.others.items in
    let front = c.requires.0 in
    let u = c.requires.1.0 in
    let v = to_z w64 (of_z w64 c.args.value) in
    let last = c.len-last.result - 1 in
    let k = keep_of 0 words others (front ++ cell.Int u ∷ []) c.self.invariant (c.self.view_is ∙ c.requires.1.1) in
    let n : last + 1 ≡ length words = omega (arith, (int_ends 0 words others front u k).1, c.self.inside.words.ok.0, c.len-last.ensures) in
    let h = int_replaced 0 words (set words last v) others front u v last k n refl in
    kept_of 0 (set words last v) others (front ++ cell.Int v ∷ []) h

pub returns : goal.returns
returns c ahead x e =
    let words = c.self.inside.words.items in
    let others = c.self.inside.others.items in
    let front = c.requires.0 in
    let u = c.requires.1.0 in
    let v = to_z w64 (of_z w64 c.args.value) in
    let last = c.len-last.result - 1 in
    let k = keep_of 0 words others (front ++ cell.Int u ∷ []) c.self.invariant (c.self.view_is ∙ c.requires.1.1) in
    let n : last + 1 ≡ length words = omega (arith, (int_ends 0 words others front u k).1, c.self.inside.words.ok.0, c.len-last.ensures) in
    let h = int_replaced 0 words (set words last v) others front u v last k n refl in
    let fits : SFits w64 c.args.value = search rules in
    let same : front ≡ ahead = (snoc_both front ahead (cell.Int u) x (sym c.requires.1.1 ∙ e)).0 in
    view_of 0 (set words last v) others (front ++ cell.Int v ∷ []) h ∙ ap (λ z. front ++ cell.Int z ∷ []) (to_z-of_z w64 c.args.value fits)
    ∙ ap (λ l. l ++ cell.Int c.args.value ∷ []) same
