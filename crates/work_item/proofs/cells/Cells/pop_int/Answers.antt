use Rattle.std.proofs.Common.{◌∷◌, [], ◌++◌, sym, ap, ◌∙◌, refl, w64, SFits, rules}
use Rattle.std.proofs.lemmas.Int.{to_z-of_z}
use Rattle.work_item.specs.declared.cell.Cell.TheVariants as cell
use Rattle.work_item.specs.Cells.{laid}
use Rattle.work_item.proofs.RowCalls.{keep_of, kept_of, view_of, int_popped}
use Rattle.work_item.proofs.cells.Cells.pop_int.Goals as goal

pub invariant_of-self : goal.invariant_of-self
invariant_of-self c =
    let words = c.self.inside.words.items in
    let others = c.self.inside.others.items in
    let front = c.requires.0 in
    let u = c.requires.1.0 in
    let k = keep_of 0 words others (front ++ cell.Int u ∷ []) c.self.invariant (c.self.view_is ∙ c.requires.1.1) in
    let p = int_popped 0 words c.take_last.new.self.items others (front ++ cell.Int u ∷ []) front c.take_last.result u k refl c.take_last.ensures.items in
    kept_of 0 c.take_last.new.self.items others front p.1

pub returns : goal.returns
returns c =
    let words = c.self.inside.words.items in
    let others = c.self.inside.others.items in
    let front = c.requires.0 in
    let u = c.requires.1.0 in
    let v = c.take_last.result in
    let left = c.take_last.new.self.items in
    let fits : SFits w64 v = search rules in
    let k = keep_of 0 words others (front ++ cell.Int u ∷ []) c.self.invariant (c.self.view_is ∙ c.requires.1.1) in
    let p = int_popped 0 words left others (front ++ cell.Int u ∷ []) front v u k refl c.take_last.ensures.items in
    c.requires.1.1 ∙ p.0 ∙ ap (λ l. l ++ cell.Int v ∷ []) (sym (view_of 0 left others front p.1))
    ∙ ap (λ z. laid 0 left others ++ cell.Int z ∷ []) (sym (to_z-of_z w64 v fits))
