use Rattle.std.proofs.Common.{◌≡◌, length, ap, ◌∙◌, set, arith, w64, of_z, to_z, SFits, rules}
use Rattle.std.proofs.lemmas.Int.{to_z-of_z}
use Rattle.work_item.specs.declared.cell.Cell.TheVariants as cell
use Rattle.work_item.proofs.RowCalls.{keep_of, kept_of, view_of, int_set_lost, none_below, none_at}
use Rattle.work_item.proofs.cells.Cells.set_int.Goals as goal

pub invariant_of-self : goal.invariant_of-self
invariant_of-self c =
    let words = c.self.inside.words.items in
    let others = c.self.inside.others.items in
    let cells = c.args.self.now in
    let k = keep_of 0 words others cells c.self.invariant c.self.view_is in
    let index = c.args.index in
    let none : length others ≡ 0 = grind (arith, c.is_empty.ensures, c.if-is_empty.true) in
    let v = to_z w64 (of_z w64 c.args.value) in
    let now = int_set_lost words others cells index 0 k c.requires (none_below words others cells index k none) v (none_at others 0 index none) in
    kept_of 0 (set words index v) others (set cells index (cell.Int v)) now

pub returns-then-is_empty : goal.returns-then-is_empty
returns-then-is_empty c =
    let words = c.self.inside.words.items in
    let others = c.self.inside.others.items in
    let cells = c.args.self.now in
    let k = keep_of 0 words others cells c.self.invariant c.self.view_is in
    let index = c.args.index in
    let none : length others ≡ 0 = grind (arith, c.is_empty.ensures, c.if-is_empty.true) in
    let v = to_z w64 (of_z w64 c.args.value) in
    let now = int_set_lost words others cells index 0 k c.requires (none_below words others cells index k none) v (none_at others 0 index none) in
    let fits : SFits w64 c.args.value = search rules in
    view_of 0 (set words index v) others (set cells index (cell.Int v)) now ∙ ap (λ z. set cells index (cell.Int z)) (to_z-of_z w64 c.args.value fits)
