use Rattle.std.proofs.Common.{◌≡◌, length, sym, ap, ◌∙◌, arith, w64, SFits, rules}
use Rattle.std.proofs.lemmas.Int.{to_z-of_z}
use Rattle.work_item.specs.declared.cell.Cell.TheVariants as cell
use Rattle.work_item.proofs.RowCalls.{keep_of, lost_at, word, none_below, none_at}
use Rattle.work_item.proofs.cells.Cells.get.Goals as goal

pub returns-then-is_empty : goal.returns-then-is_empty
returns-then-is_empty c =
    let words = c.self.inside.words.items in
    let others = c.self.inside.others.items in
    let cells = c.args.self.now in
    let k = keep_of 0 words others cells c.self.invariant c.self.view_is in
    let index = c.args.index in
    let none : length others ≡ 0 = grind (arith, c.is_empty.ensures, c.if-is_empty.true) in
    let at = none_below words others cells index k none in
    let v = c.index.result.now in
    let fits : SFits w64 v = search rules in
    ap (λ z. cell.Int z) (to_z-of_z w64 v fits ∙ c.index.ensures ∙ word words others cells index 0 k c.requires at v)
    ∙ sym (lost_at words others cells index 0 k c.requires at (none_at others 0 index none)).0
