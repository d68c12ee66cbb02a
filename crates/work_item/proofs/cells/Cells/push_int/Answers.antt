use Rattle.std.proofs.Common.{◌∷◌, [], ◌++◌, ap, ◌∙◌, w64, SFits, rules}
use Rattle.std.proofs.lemmas.Int.{to_z-of_z}
use Rattle.work_item.specs.declared.cell.Cell.TheVariants as cell
use Rattle.work_item.proofs.RowCalls.{keep_of, kept_of, view_of, int_pushed}
use Rattle.work_item.proofs.cells.Cells.push_int.Goals as goal

pub invariant_of-self-2 : goal.invariant_of-self-2
invariant_of-self-2 c =
    let words = c.self.inside.words.items in
    let others = c.self.inside.others.items in
    let cells = c.args.self.now in
    let k = keep_of 0 words others cells c.self.invariant c.self.view_is in
    let fits : SFits w64 c.args.value = search rules in
    let now = c.push_word.new.words.items in
    kept_of 0 now others (cells ++ cell.Int c.args.value ∷ []) (int_pushed 0 words now others cells c.args.value k (c.in_ok-push_word.ensures.ok ∙ ap (λ z. words ++ z ∷ [])
    (to_z-of_z w64 c.args.value fits)))

pub returns-clause-ok : goal.returns-clause-ok
returns-clause-ok c =
    let words = c.self.inside.words.items in
    let others = c.self.inside.others.items in
    let cells = c.args.self.now in
    let k = keep_of 0 words others cells c.self.invariant c.self.view_is in
    let fits : SFits w64 c.args.value = search rules in
    let now = c.push_word.new.words.items in
    view_of 0 now others (cells ++ cell.Int c.args.value ∷ []) (int_pushed 0 words now others cells c.args.value k (c.in_ok-push_word.ensures.ok ∙ ap (λ z. words ++ z ∷ [])
    (to_z-of_z w64 c.args.value fits)))
